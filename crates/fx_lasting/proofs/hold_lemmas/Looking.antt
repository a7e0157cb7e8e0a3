-- A look-up loads the slot's word: at first, and again when it has announced a node.
use Rattle.fx_lasting.proofs.{Aims, IsIn, List, refl, Some, None, none, File, Look, Work, Idle, Cold, Goes, Shows, IsHot, Deed, Start, AimsKeep}
use Rattle.fx_lasting.proofs.{alone_in, guarding, IsOnList, first_log, arith, NamesNode, Announced, untouched, IsHistory, HasNoFile, HasAnnounced}
use Rattle.fx_lasting.proofs.{GuardAgrees, GlanceAgrees, state_after_all, GlancesKeep, ConfirmsKeep, full_name_in, hold_word_of, IsAllowed, Placement}
use Rattle.fx_lasting.proofs.{Relieving, subst, WorkAgrees, pass_event, has_heated, slot_place, ℕ_discrete, one_more_at, Nearing, slots_of, nodes_of}
use Rattle.fx_lasting.proofs.{held_in, if_file, file_in, Guarded, Heating, Nothing, Confirms, IsInside, placed, ℕ, Option, keeps, Closed, Event}
use Rattle.fx_lasting.proofs.{Heats, taking, seated, Glance, Glances, heat_in, heated, ⊎_elim, Log, ◌≡◌, ◌≢◌, ◌+◌, ◌-◌, ◌<◌, [], ◌∷◌, sym, ap, ◌∙◌}
use Rattle.fx_lasting.proofs.{◌▷◌, Hot, over, step, inl, inr, ◌⊎◌, dite, true, grows_none, grows_one, legal_more, part_mine, held_mine, same_shape}
use Rattle.fx_lasting.proofs.{busy, tally_at, Turn, turn_of, After, word_at, slot_word, Made, by_turn, its_log, its_work, in_range, tells, w}
use Rattle.fx_lasting.proofs.{LeavesFiles, none_added, slot_back, Kind}
use Rattle.fx_lasting.proofs.range_lemmas.GroupSteps.{its_inside}
use Rattle.fx_lasting.proofs.Calm.{read_after, Reads, read_kept}
use Rattle.fx_lasting.proofs.node_lemmas.Choosing.{no_file, no_take, not_busy, holds_none}

module _ (turn : Turn) (s : ℕ) (inside : s < slots_of turn.v.start) where
  open turn use {st, v, r, id, x, here, one}

  abbrev pub word : ℕ
  word = slot_word st.words s

  abbrev pub there : Option File
  there = (state_after_all v.start r.history).at s

  pub size_so : s < (state_after_all v.start r.history).size
  size_so = let z = (same_shape v.start r.history).0 in omega arith

  -- the file that the word names is at the slot, on its node
  pub named : {n : ℕ} → full_name_in word ≡ n + 1
      → (f : File) × (there ≡ Some f) × Shows word f × (n < nodes_of v.start) × (r.phase n ≡ seated s f)
  named is = grind (arith, seated)

  pub unnamed : full_name_in word ≡ 0 → there ≡ None
  unnamed is = grind arith

  -- a name is 0 or that of a node
  pub name_cases : (full_name_in word ≡ 0) ⊎ ((n : ℕ) × (full_name_in word ≡ n + 1))
  name_cases = dite (ℕ_discrete (full_name_in word) 0) (λ e. inl e) (λ some. inr (full_name_in word - 1, omega (arith, some)))

  -- a slot that isn't hot: the pass has done nothing there
  not_over : (IsHot word → ⊥) → ((t : ℕ) → v.glance ≢ Heating t) → r.deed s x.number ≡ untouched
  not_over cold calm = go (r.deed s x.number) refl
    where
      go : (e : Deed) → r.deed s x.number ≡ e → r.deed s x.number ≡ untouched
      go untouched is = is
      go over is = absurd (calm s ((its_log turn).heats s inside is))
      go heated is = absurd (cold (let a = (r.slots s inside).heat in
          let b = tally_at (λ p. has_heated (r.deed s p)) v.start.passes x.number (in_range turn).0 (in_range turn).1 (ap has_heated is) in omega arith))

  -- a pass that isn't listed took nothing
  not_over_yet : (x.listed ≡ true → ⊥) → r.deed s x.number ≡ untouched
  not_over_yet unlisted = go (r.deed s x.number) refl
    where
      go : (e : Deed) → r.deed s x.number ≡ e → r.deed s x.number ≡ untouched
      go untouched is = is
      go _ is = absurd (unlisted ((its_log turn).takes_listed s inside (λ e. cc (sym is ∙ e))))

  listed_cases : (x.listed ≡ true → ⊥) ⊎ (x.listed ≡ true)
  listed_cases = grind arith

  hot_cases : (IsHot word → ⊥) ⊎ IsHot word
  hot_cases = dite (ℕ_discrete (heat_in word) 0) (λ c. inl (λ h. omega (arith, c, h))) (λ h. inr (omega (arith, h)))

  -- the pass has nothing to heat, whatever it does next
  pub heats_all : ((t : ℕ) → v.glance ≢ Heating t) → (e : Glance) → Heats v.start (λ i. r.deed i x.number) e
  heats_all calm e = λ i l is. absurd (calm i ((its_log turn).heats i l is))

  -- a load that adds nothing to the history
  module _ (d : Work) (works : (v.work ≡ d) ⊎ (HasNoFile v.work × (d ≡ Idle))) (g : Glance) (calm : (t : ℕ) → v.glance ≢ Heating t)
      (sees : GlanceAgrees v.start (slot_word st.words) (λ i. r.deed i x.number) g) (knows : IsInside v.start d) where
    abbrev pub quiet_after : After turn
    quiet_after = read_after turn d g r.history

    same_held : held_in v.work ≡ held_in d
    same_held = ⊎_elim (λ e. ap held_in e) (λ z. no_file z.0 ∙ sym (ap held_in z.1)) works

    pub quiet : Reads turn d g r.history
    quiet = let o = its_log turn in record {
      files = none_added turn;
      taken = λ n. ⊎_elim (λ e. sym (ap (taking n) e)) (λ z. ap (taking n) z.1 ∙ sym (no_take z.0 n)) works;
      owners = ⊎_elim (λ e. inl (ap alone_in (sym e))) (λ z. inr (not_busy z.0)) works;
      held = o.held ∙ same_held;
      allowed = ⊎_elim (λ (e : v.work ≡ d). rw e at o.allowed) (λ z. rw z.1 tt) works;
      its = record {
        hold = ⊎_elim (λ (e : v.work ≡ d). rw e at o.hold) (λ z. rw z.1 (holds_none z.0 o.hold)) works;
        guarded = ⊎_elim (λ (e : v.work ≡ d). rw e at o.guarded) (λ z. rw z.1 tt) works;
        sees = sees;
        heats = heats_all calm g;
        work = ⊎_elim (λ (e : v.work ≡ d). subst (WorkAgrees v.start r.phase id) e (its_work turn)) (λ z. rw z.1 tt) works;
      };
      holds = λ n. let a = ap (if_file n) same_held in omega arith;
    }

    goes_quiet : (carried : List (ℕ × Option Closed)) → Goes (v, carried) [] d g (w turn quiet_after, carried)
    goes_quiet carried = record {
      stepped = tells turn quiet_after refl carried carried [] (grows_none x.number r.history) r.life.legal refl knows;
      carried = refl;
    }

    loads : (kind : Kind) (slots : ℕ) (carried : List (ℕ × Option Closed))
        → (Goes (v, carried) [] d g (w turn quiet_after, carried) → kind (step slots (slot_place s) 0 0 none) (v, carried) word (w turn quiet_after, carried))
        → Made turn carried (slot_place s) (λ word. word) (kind (step slots (slot_place s) 0 0 none) (v, carried))
    loads kind slots carried makes = (w turn quiet_after, keeps, tt, read_kept turn d g (slot_place s) quiet, makes (goes_quiet carried))

  -- an empty slot
  abbrev pub h₀ : List Event
  h₀ = pass_event x (Look s None) ∷ r.history

  legal₀ : there ≡ None → IsHistory v.start h₀
  legal₀ is = legal_more v.start r.life.legal (size_so, sym is) tt

  found_empty : HasNoFile v.work → v.glance ≡ Nothing → there ≡ None → Reads turn Idle Nothing h₀
  found_empty works nothing is = let o = its_log turn in record {
    files = record { grows = grows_one x.number r.history _ refl; legal = legal₀ is; at = refl; fresh = refl; removed = refl };
    taken = λ n. sym (no_take works n);
    owners = inr (not_busy works);
    held = held_mine (pass_event x (Look s None)) r.history refl;
    allowed = tt;
    its = record {
      hold = holds_none works o.hold;
      guarded = tt;
      sees = tt;
      heats = heats_all (λ t e. cc (sym nothing ∙ e)) Nothing;
      work = tt;
    };
    holds = λ n. let a = ap (if_file n) (no_file works) in omega arith;
  }

  -- a pass at any work that looks nothing up finds an empty slot
  sees_none : held_in v.work ≡ None → v.glance ≡ Nothing → there ≡ None → Reads turn v.work Nothing h₀
  sees_none unheld nothing is = let o = its_log turn in record {
    files = record { grows = grows_one x.number r.history _ refl; legal = legal₀ is; at = refl; fresh = refl; removed = refl };
    taken = λ n. refl;
    owners = inl refl;
    held = held_mine (pass_event x (Look s None)) r.history refl ∙ sym unheld;
    allowed = o.allowed;
    its = record {
      hold = o.hold;
      guarded = o.guarded;
      sees = tt;
      heats = heats_all (λ t e. cc (sym nothing ∙ e)) Nothing;
      work = its_work turn;
    };
    holds = λ n. omega arith;
  }

  pub aim : (slots : ℕ) (carried : List (ℕ × Option Closed)) → held_in v.work ≡ None → v.glance ≡ Nothing
      → Made turn carried (slot_place s) (λ word. word) (Aims (step slots (slot_place s) 0 0 none) (v, carried))
  aim slots carried unheld nothing = let calm : (t : ℕ) → v.glance ≢ Heating t = λ t e. cc (sym nothing ∙ e) in ⊎_elim
      (λ (none_named : full_name_in word ≡ 0). let e = sees_none unheld nothing (unnamed none_named) in (
        w turn (read_after turn v.work Nothing h₀),
        keeps,
        tt,
        read_kept turn v.work Nothing (slot_place s) e,
        record {
          empty = λ _. rw (slot_back s) record {
            stepped = tells turn (read_after turn v.work Nothing h₀) refl carried carried ([] ▷ Look s None) e.files.grows e.files.legal (part_mine r.history refl) (its_inside turn);
            carried = refl;
          };
          cold = λ some _. absurd (some none_named);
          hot = λ n is _. absurd (omega arith);
        },
      ))
      (λ (z : (n : ℕ) × (full_name_in word ≡ n + 1)). ⊎_elim
      (λ (cold : IsHot word → ⊥). let sees : GlanceAgrees v.start (slot_word st.words) (λ i. r.deed i x.number) (Cold s) = (inside, not_over cold calm) in
      loads v.work (inl refl) (Cold s) calm sees (its_inside turn) Aims slots carried
      (λ goes. record {
        empty = λ is. absurd (let a = z.1 in omega arith);
        cold = λ _ _. rw (slot_back s) goes;
        hot = λ n is hot. absurd (cold hot);
      }))
      (λ (hot : IsHot word). let o = named z.1 in
      let sees : GlanceAgrees v.start (slot_word st.words) (λ i. r.deed i x.number) (Hot s z.0) = (inside, o.3, inl (z.1, hot)) in
      loads v.work (inl refl) (Hot s z.0) calm sees (its_inside turn) Aims slots carried
      (λ goes. record {
        empty = λ is. absurd (let a = z.1 in omega arith);
        cold = λ _ cold. absurd (cold hot);
        hot = λ n is _. let same : z.0 ≡ n = (let a = z.1 in omega arith) in
            rw (← same, slot_back s) (goes, o.3);
      })) hot_cases)
      name_cases

  pub glance : (slots : ℕ) (carried : List (ℕ × Option Closed)) → HasNoFile v.work → v.glance ≡ Nothing
      → Made turn carried (slot_place s) (λ word. word) (Glances (step slots (slot_place s) 0 0 none) (v, carried))
  glance slots carried works nothing = let calm : (t : ℕ) → v.glance ≢ Heating t = λ t e. cc (sym nothing ∙ e) in ⊎_elim
      (λ (none_named : full_name_in word ≡ 0). let e = found_empty works nothing (unnamed none_named) in (
        w turn (read_after turn Idle Nothing h₀),
        keeps,
        tt,
        read_kept turn Idle Nothing (slot_place s) e,
        record {
          empty = λ _. rw (slot_back s) record {
            stepped = tells turn (read_after turn Idle Nothing h₀) refl carried carried ([] ▷ Look s None) e.files.grows e.files.legal (part_mine r.history refl) tt;
            carried = refl;
          };
          cold = λ n is _. absurd (omega arith);
          hot = λ n is _. absurd (omega arith);
        },
      ))
      (λ (z : (n : ℕ) × (full_name_in word ≡ n + 1)). let o = named z.1 in ⊎_elim
      (λ (cold : (IsHot word × (x.listed ≡ true) → ⊥) × (r.deed s x.number ≡ untouched)).
      let sees : GlanceAgrees v.start (slot_word st.words) (λ i. r.deed i x.number) (Cold s) = (inside, cold.1) in
      loads Idle (inr (works, refl)) (Cold s) calm sees tt Glances slots carried
      (λ goes. record {
        empty = λ is. absurd (let a = z.1 in omega arith);
        cold = λ n is _. rw (slot_back s) goes;
        hot = λ n is hot has. absurd (cold.0 (hot, mine has));
      }))
      (λ (hot : IsHot word × (x.listed ≡ true)).
      let sees : GlanceAgrees v.start (slot_word st.words) (λ i. r.deed i x.number) (Hot s z.0) = (inside, o.3, inl (z.1, hot.0)) in
      loads Idle (inr (works, refl)) (Hot s z.0) calm sees tt Glances slots carried
      (λ goes. record {
        empty = λ is. absurd (let a = z.1 in omega arith);
        cold = λ n is cold. absurd (cold (hot.0, theirs hot.1));
        hot = λ n is _ _. let same : z.0 ≡ n = (let a = z.1 in omega arith) in
            rw (← same, slot_back s) (goes, o.3);
      })) way)
      name_cases
    where
      mine : IsOnList (v, carried) → x.listed ≡ true
      mine has = sym (ap (λ (l : List Log). (first_log l).listed) one) ∙ has

      theirs : x.listed ≡ true → IsOnList (v, carried)
      theirs has = ap (λ (l : List Log). (first_log l).listed) one ∙ has

      calm_now : (t : ℕ) → v.glance ≢ Heating t
      calm_now t e = cc (sym nothing ∙ e)

      -- the pass is to take what the slot names, or to announce the node
      way : ((IsHot word × (x.listed ≡ true) → ⊥) × (r.deed s x.number ≡ untouched)) ⊎ (IsHot word × (x.listed ≡ true))
      way = ⊎_elim (λ cold. inl (λ z. cold z.0, not_over cold calm_now))
          (λ hot. ⊎_elim (λ none. inl (λ z. none z.1, not_over_yet none)) (λ has. inr (hot, has)) listed_cases) hot_cases

  -- a file that is there still, and hot
  module _ (n : ℕ) (works : HasAnnounced v.work n) (saw : v.glance ≡ Hot s n) where
    calm_hot : (t : ℕ) → v.glance ≢ Heating t
    calm_hot t e = cc (sym saw ∙ e)

    module _ (f : File) (is : there ≡ Some f) (l : n < nodes_of v.start) (at : r.phase n ≡ seated s f) (hot : IsHot word) where
      abbrev h₁ : List Event
      h₁ = pass_event x (Look s (Some f)) ∷ r.history

      looks : LeavesFiles turn h₁
      looks = record { grows = grows_one x.number r.history _ refl; legal = legal_more v.start r.life.legal (size_so, sym is) tt; at = refl; fresh = refl; removed = refl }

      found_alone : v.work ≡ Announced n → Reads turn (Guarded f n) Nothing h₁
      found_alone only = let guarded : GuardAgrees (slot_word st.words) r.phase x.number (r.debt x.number) (Guarded f n) = λ _. rw at hot in
          let uncharged : NamesNode (word_at st.words (hold_word_of v.start x.number)) (r.debt x.number) n = rw only at (its_log turn).hold in record {
            files = looks;
            taken = λ k. sym (ap (taking k) only);
            owners = inr (ap busy only);
            held = held_mine (pass_event x (Look s (Some f))) r.history refl;
            allowed = subst (IsAllowed x.stock x.listed) only (its_log turn).allowed;
            its = record { hold = uncharged; guarded = guarded; sees = tt; heats = heats_all calm_hot Nothing; work = (l, ap file_in at) };
            holds = λ m. let a = one_more_at (state_after_all v.start r.history).holds f.number m in
                let b = ap (λ (e : Work). if_file m (held_in e)) only in omega arith;
          }

      found_beside : (own : ℕ) (z : Placement) → v.work ≡ Nearing n own z → Reads turn (Relieving f n own z) Nothing h₁
      found_beside own z near = let guarded : GuardAgrees (slot_word st.words) r.phase x.number (r.debt x.number) (Relieving f n own z) = λ _. rw at hot in
          let uncharged : NamesNode (word_at st.words (hold_word_of v.start x.number)) (r.debt x.number) n = rw near at (its_log turn).hold in
          let its : (n < nodes_of v.start) × IsIn v.start r.phase own (placed id z) = subst (WorkAgrees v.start r.phase id) near (its_work turn) in record {
            files = looks;
            taken = λ k. sym (ap (taking k) near);
            owners = inl (sym (ap alone_in near));
            held = held_mine (pass_event x (Look s (Some f))) r.history refl;
            allowed = subst (IsAllowed x.stock x.listed) near (its_log turn).allowed;
            its = record { hold = uncharged; guarded = guarded; sees = tt; heats = heats_all calm_hot Nothing; work = ((l, ap file_in at), its.1) };
            holds = λ m. let a = one_more_at (state_after_all v.start r.history).holds f.number m in
                let b = ap (λ (e : Work). if_file m (held_in e)) near in omega arith;
          }

      found_file : Reads turn (guarding f v.work) Nothing h₁
      found_file = ⊎_elim (λ only. subst (λ (e : Work). Reads turn (guarding f e) Nothing h₁) (sym only) (found_alone only))
          (λ z. subst (λ (e : Work). Reads turn (guarding f e) Nothing h₁) (sym z.2) (found_beside z.0 z.1 z.2)) works

      found_inside : IsInside v.start (guarding f v.work)
      found_inside = grind (arith, guarding, placed, its_work)

    pub confirm : (slots : ℕ) (carried : List (ℕ × Option Closed))
        → Made turn carried (slot_place s) (λ word. word) (Confirms (step slots (slot_place s) 0 0 none) (v, carried))
    confirm slots carried = ⊎_elim
        (λ (so : (full_name_in word ≡ n + 1) × IsHot word). let o = named so.0 in let e = found_file o.0 o.1 o.3 o.4 so.1 in (
          w turn (read_after turn (guarding o.0 v.work) Nothing (h₁ o.0 o.1 o.3 o.4 so.1)),
          keeps,
          tt,
          read_kept turn (guarding o.0 v.work) Nothing (slot_place s) e,
          record {
            holds = λ i k saw' works' names is_hot. let at : s ≡ i = cc (sym saw ∙ saw') in rw (← at) (
              o.0,
              o.2,
              record {
                stepped = tells turn (read_after turn (guarding o.0 v.work) Nothing (h₁ o.0 o.1 o.3 o.4 so.1)) refl carried carried
                    ([] ▷ Look s (Some o.0)) e.files.grows e.files.legal (part_mine r.history refl) (found_inside o.0 o.1 o.3 o.4 so.1);
                carried = refl;
              },
            );
            moved = λ i k saw' works' not_so. let same : n ≡ k = cc (sym saw ∙ saw') in absurd (not_so (rw (← same) so));
          },
        ))
        (λ not_so. let sees : GlanceAgrees v.start (slot_word st.words) (λ i. r.deed i x.number) (Cold s) = (
          inside,
          (let o = rw saw at (its_log turn).sees in ⊎_elim (λ z. absurd (not_so z)) (λ out. out) o.2),
        ) in
        loads v.work (inl refl) (Cold s) calm_hot sees (its_inside turn) Confirms slots carried
        (λ goes. record {
          holds = λ i k saw' works' names is_hot. let same : n ≡ k = cc (sym saw ∙ saw') in absurd (not_so (rw same (names, is_hot)));
          moved = λ i k saw' works' _. let at : s ≡ i = cc (sym saw ∙ saw') in
              rw (← at) goes;
        }))
        still_so
      where
        still_so : ((full_name_in word ≡ n + 1) × IsHot word) ⊎ ((full_name_in word ≡ n + 1) × IsHot word → ⊥)
        still_so = dite (ℕ_discrete (full_name_in word) (n + 1)) (λ a. ⊎_elim (λ c. inr (λ z. c z.1)) (λ h. inl (a, h)) hot_cases)
            (λ a. inr (λ z. a z.0))

pub glances_keep : GlancesKeep Glances
glances_keep k slots id i s m x has nothing inside place = by_turn slots (λ (k : Start). s < slots_of k) (λ _. slot_place s) (λ word. word)
    (λ i. Glances (step slots i 0 0 none) m) has inside place
    (λ st r here inside fits. glance (turn_of m x has.1 id st r here) s inside slots m.1 nothing.0 nothing.1)

pub confirms_keep : ConfirmsKeep Confirms
confirms_keep k slots id i s n m x has works saw place = by_turn slots (λ _. Unit {0}) (λ _. slot_place s) (λ word. word)
    (λ i. Confirms (step slots i 0 0 none) m) has tt place
    (λ st r here _ fits. let turn = turn_of m x has.1 id st r here in confirm turn s (rw saw at (its_log turn).sees).0 n works saw slots m.1)

pub aims_keep : AimsKeep Aims
aims_keep k slots id i s m x has unheld nothing inside place = by_turn slots (λ (k : Start). s < slots_of k) (λ _. slot_place s) (λ word. word)
    (λ i. Aims (step slots i 0 0 none) m) has inside place
    (λ st r here inside fits. aim (turn_of m x has.1 id st r here) s inside slots m.1 unheld nothing)
