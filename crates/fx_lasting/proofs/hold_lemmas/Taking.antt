-- A take of what a slot names, and the heat of a slot that had its takes.
use Rattle.fx_lasting.proofs.{alone_in, HoldAgrees, GuardAgrees, IsAllowed, HoldsAt, TakesAs, TakesBeside, TakesBesideKeep, Placement, Phase, Start}
use Rattle.fx_lasting.proofs.{as_written, Unlabelled, carried_after, subst, Renewing, ◌⊎◌, ◌≡◌, ◌≢◌, ℕ, ◌+◌, ◌%◌, ◌^◌, ◌<◌, ◌≤◌, List, [], ◌∷◌, sym}
use Rattle.fx_lasting.proofs.{refl, ap, ◌∙◌, arith, Option, Some, None, none, keeps, Closed, File, Event, Look, ◌▷◌, WorkAgrees, GlanceAgrees, Heats}
use Rattle.fx_lasting.proofs.{state_after_all, slots_of, nodes_of, held_in, if_file, taken_of, taking, pass_event, seated, file_in, Work, Glance}
use Rattle.fx_lasting.proofs.{Idle, Counted, Cold, Heating, Deed, untouched, over, heated, has_acted, has_heated, Nothing, Takes, HeatsSlot}
use Rattle.fx_lasting.proofs.{TakesOnceKeep, HeatsKeep, IsHot, heat_in, name_in, full_name_in, same_full_name, entry_in, count_in, cold_takes}
use Rattle.fx_lasting.proofs.{glance_after, heat_unit, slot_place, step, inl, inr, ⊎_elim, dite, ℕ_discrete, dec_le, one_more_at, Bool, true, false}
use Rattle.fx_lasting.proofs.{cond, le-ltb, tally, sum_set, changed_at, changed_here, changed_else, one_if, bit_here, bit_else, IsInside, Placing}
use Rattle.fx_lasting.proofs.{tally_few, tally_one, tally_room, bit_few, few_cold, grows_none, grows_one, legal_more, part_mine, held_mine, busy}
use Rattle.fx_lasting.proofs.{guards_same, Turn, turn_of, After, slot_word, Made, by_turn, its_log, its_work, in_range, tells, w, none_added}
use Rattle.fx_lasting.proofs.{slot_words, slot_hold, in_phase}
use Rattle.fx_lasting.proofs.range_lemmas.GroupSteps.{its_inside}
use Rattle.fx_lasting.proofs.hold_lemmas.Looking.{word, there, size_so, named, unnamed, name_cases}
use Rattle.fx_lasting.proofs.slot_lemmas.SlotSteps.{NamesSame, DeedStep, slot_after, SlotStep, slot_kept, covers_slot}

-- one take more, and nothing else
pub one_take : (word : ℕ) → count_in word + 1 < 1048576 → (full_name_in (word + 1) ≡ full_name_in word) × (entry_in (word + 1) ≡ entry_in word)
    × (heat_in (word + 1) ≡ heat_in word) × (count_in (word + 1) ≡ count_in word + 1) × (name_in (word + 1) ≡ name_in word)
one_take word room = grind (arith, same_full_name)

-- a pass with the one work may take a file, and has the other work then
pub record MayTake (none : Work) (holding : File → ℕ → Work) : Type 0 where
  pub unheld : held_in none ≡ None
  pub untaken : (n : ℕ) → taking n none ≡ 0
  pub unguarded : (words : ℕ → ℕ) (phase : ℕ → Phase) (pass debt : ℕ) → GuardAgrees words phase pass debt none
  pub held : (f : File) (n : ℕ) → held_in (holding f n) ≡ Some f
  pub takes : (m : ℕ) (f : File) (n : ℕ) → taking m (holding f n) ≡ taking m (Counted f n)
  pub alone : (f : File) (n : ℕ) → (alone_in (holding f n) ≡ alone_in none) ⊎ (busy none ≡ 0)
  pub hold : (f : File) (n word debt : ℕ) → HoldAgrees word debt none → HoldAgrees word debt (holding f n)
  pub guarded : (f : File) (n : ℕ) (words : ℕ → ℕ) (phase : ℕ → Phase) (pass debt : ℕ) → GuardAgrees words phase pass debt (holding f n)
  pub allowed : (f : File) (n : ℕ) (stock : List ℕ) (listed : Bool) → IsAllowed stock listed none → IsAllowed stock listed (holding f n)
  pub work : (f : File) (n : ℕ) (k : Start) (phase : ℕ → Phase) (seat : ℕ) → WorkAgrees k phase seat none → HoldsAt k phase f n
      → WorkAgrees k phase seat (holding f n)
  pub inside : (f : File) (n : ℕ) (k : Start) → IsInside k none → n < nodes_of k → IsInside k (holding f n)

-- what a pass places
abbrev placed_in : Work → ℕ × Placement
placed_in (Placing own l) = (own, l)
placed_in _ = (0, as_written 0 Unlabelled)

placing_may : (own : ℕ) (l : Placement) → MayTake (Placing own l) (λ f n. Renewing f n own l)
placing_may own l = grind arith

module _ (turn : Turn) (s : ℕ) (inside : s < slots_of turn.v.start) where
  open turn use {st, v, r, id, x, here, one}

  abbrev found : ℕ
  found = slot_word st.words s

  -- a take leaves room: nobody takes twice beyond the takes of a cold slot
  room : count_in found + 1 < 1048576
  room = grind (arith, inside, tally_few, few_cold)

  -- what passes have done, after a deed of the pass at the slot
  abbrev does_here : Deed → ℕ → ℕ → Deed
  does_here e = changed_at r.deed s (changed_at (r.deed s) x.number e)

  does_at : (e : Deed) (q : ℕ) → does_here e s q ≡ changed_at (r.deed s) x.number e q
  does_at e q = ap (λ (f : ℕ → Deed). f q) (changed_here r.deed s (changed_at (r.deed s) x.number e) s refl)

  does_own : (e : Deed) → does_here e s x.number ≡ e
  does_own e = does_at e x.number ∙ changed_here (r.deed s) x.number e x.number refl

  does_other : (e : Deed) (q : ℕ) → q ≢ x.number → does_here e s q ≡ r.deed s q
  does_other e q other = does_at e q ∙ changed_else (r.deed s) x.number e q other

  does_there : (e : Deed) (i q : ℕ) → i ≢ s → does_here e i q ≡ r.deed i q
  does_there e i q other = ap (λ (f : ℕ → Deed). f q) (changed_else r.deed s (changed_at (r.deed s) x.number e) i other)

  counts_here : (e : Deed) (f : Deed → Bool) → tally (λ q. f (does_here e s q)) v.start.passes + one_if (f (r.deed s x.number))
      ≡ tally (λ q. f (r.deed s q)) v.start.passes + one_if (f e)
  counts_here e f = let a = tally_one (λ q. f (does_here e s q)) (λ q. f (r.deed s q)) v.start.passes x.number (in_range turn).0 (in_range turn).1
      (λ q other. ap f (does_other e q other)) in let b = ap (λ (z : Deed). one_if (f z)) (does_own e) in omega arith

  module _ (d : Work) (holding : File → ℕ → Work) (may : MayTake d holding) (has : x.listed ≡ true) (works : v.work ≡ d) (saw : v.glance ≡ Cold s)
      (fits : found < 18446744073709551616) where
    abbrev new : ℕ
    new = (found + 1) % 2 ^ 64

    not_taking : (n : ℕ) → taking n v.work ≡ 0
    not_taking n = ap (taking n) works ∙ may.untaken n

    not_holding : held_in v.work ≡ None
    not_holding = ap held_in works ∙ may.unheld

    knows_none : IsInside v.start d
    knows_none = subst (IsInside v.start) works (its_inside turn)

    new_is : new ≡ found + 1
    new_is = let a = room in omega arith

    same_heat : heat_in new ≡ heat_in found
    same_heat = ap heat_in new_is ∙ (one_take found room).2

    same_word : NamesSame new found
    same_word = grind (arith, one_take, room, new_is, same_heat)

    one_more : count_in new ≡ count_in found + 1
    one_more = ap count_in new_is ∙ (one_take found room).3

    -- the pass had done nothing at the slot
    nothing_done : r.deed s x.number ≡ untouched
    nothing_done = (rw saw at (its_log turn).sees).1

    -- nor has it a slot to heat
    no_heat : (i : ℕ) → i < slots_of v.start → r.deed i x.number ≢ over
    no_heat i l is = let bad : Cold s ≡ Heating i = sym saw ∙ (its_log turn).heats i l is in cc bad

    -- what the pass has done at the slot, after its take
    pub record Standing (g : Glance) (deed' : ℕ → ℕ → Deed) : Type 0 where
      pub deeds : DeedStep turn s new deed'
      pub sees : GlanceAgrees v.start (slot_word (slot_words turn s inside new)) (λ i. deed' i x.number) g
      pub heats : Heats v.start (λ i. deed' i x.number) g
      pub is : g ≡ glance_after v.start.passes s found

    heats_now : cold_takes v.start.passes ≤ count_in found → Standing (Heating s) (does_here over)
    heats_now many = record {
      deeds = record {
        takes = let a = one_more in let b = (r.slots s inside).takes in let c = counts_here over has_acted in
            let d = ap (λ (e : Deed). one_if (has_acted e)) nothing_done in omega arith;
        heat = let a = same_heat in let b = (r.slots s inside).heat in let c = counts_here over has_heated in
            let d = ap (λ (e : Deed). one_if (has_heated e)) nothing_done in omega arith;
        elsewhere = does_there over;
        others = does_other over;
        its = λ is. inr has;
      };
      sees = (inside, λ bad. let e : over ≡ heated = sym (does_own over) ∙ bad in cc e);
      heats = λ i l is. dite (ℕ_discrete i s) (λ same. ap Heating (sym same))
          (λ other. absurd (no_heat i l (sym (does_there over i x.number other) ∙ is)));
      is = sym (ap (λ (b : Bool). cond b Nothing (Heating s)) (le-ltb (count_in found) (cold_takes v.start.passes) many));
    }

    -- what the pass does now, that found this file or none, on this node
    module _ (g : Glance) (deed' : ℕ → ℕ → Deed) (so : Standing g deed') where
      abbrev h₀ : List Event
      h₀ = pass_event x (Look s None) ∷ r.history

      abbrev after₀ : After turn
      after₀ = slot_after turn s inside new h₀ d g deed'

      -- no file
      none_taken : there turn s inside ≡ None → SlotStep turn s inside new h₀ d g deed'
      none_taken is = let o = its_log turn in let h = rw works at o.hold in record {
        files = record { grows = grows_one x.number r.history _ refl; legal = legal_more v.start r.life.legal (size_so turn s inside, sym is) tt; at = refl; fresh = refl; removed = refl };
        names = same_word;
        moved = inl (r.history, pass_event x (Look s None), ([], refl), ([], refl), refl, refl);
        deeds = so.deeds;
        counts = λ n f l at. let e = (in_phase turn l at).there in let bad : None ≡ Some f = sym is ∙ e in absurd (cc bad);
        taken = λ n l else. sym (ap (taking n) works);
        owners = inl (ap alone_in (sym works));
        held = held_mine (pass_event x (Look s None)) r.history refl ∙ sym may.unheld;
        allowed = rw works at o.allowed;
        its = record {
          hold = rw (slot_hold turn s inside new x.number (in_range turn).0) h;
          guarded = may.unguarded _ _ _ _;
          sees = so.sees;
          heats = so.heats;
          work = subst (WorkAgrees v.start r.phase id) works (its_work turn);
        };
        holds = λ n. let a = ap (λ (e : Work). if_file n (held_in e)) works in omega arith;
      }

      module _ (n : ℕ) (f : File) (is : there turn s inside ≡ Some f) (l : n < nodes_of v.start) (at : r.phase n ≡ seated s f) where
        abbrev h₁ : List Event
        h₁ = pass_event x (Look s (Some f)) ∷ r.history

        abbrev after₁ : After turn
        after₁ = slot_after turn s inside new h₁ (holding f n) g deed'

        -- the node of the file at the slot is one
        one_seat : (m : ℕ) (h : File) → m < nodes_of v.start → r.phase m ≡ seated s h → m ≡ n
        one_seat m h l' at' = grind (arith, in_phase, is)

        file_taken : SlotStep turn s inside new h₁ (holding f n) g deed'
        file_taken = let o = its_log turn in let h = rw works at o.hold in record {
          files = record { grows = grows_one x.number r.history _ refl; legal = legal_more v.start r.life.legal (size_so turn s inside, sym is) tt; at = refl; fresh = refl; removed = refl };
          names = same_word;
          moved = inl (r.history, pass_event x (Look s (Some f)), ([], refl), ([], refl), refl, refl);
          deeds = so.deeds;
          counts = λ m h l' at'. let same = one_seat m h l' at' in let c = (in_phase turn l' at').counts in let a = one_more in
              let t = sum_set (taken_of m) st.views id v (w turn after₁) here in let b = not_taking m in
              let e : taking m (holding f n) ≡ 1 = may.takes m f n ∙ bit_here m n (sym same) in omega arith;
          taken = λ m l' else. may.takes m f n ∙ (bit_else m n (λ same. else f (ap r.phase (sym same) ∙ at)) ∙ sym (not_taking m));
          owners = ⊎_elim (λ e. inl (e ∙ ap alone_in (sym works))) (λ none. inr (ap busy works ∙ none)) (may.alone f n);
          held = held_mine (pass_event x (Look s (Some f))) r.history refl ∙ sym (may.held f n);
          allowed = may.allowed f n x.stock x.listed (rw works at o.allowed);
          its = record {
            hold = rw (slot_hold turn s inside new x.number (in_range turn).0) (may.hold f n _ _ h);
            guarded = may.guarded f n _ _ _ _;
            sees = so.sees;
            heats = so.heats;
            work = may.work f n v.start r.phase id (subst (WorkAgrees v.start r.phase id) works (its_work turn)) (l, ap file_in at);
          };
          holds = λ m. let a = one_more_at (state_after_all v.start r.history).holds f.number m in
              let b = ap (if_file m) not_holding in let c = ap (if_file m) (may.held f n) in omega arith;
        }

      pub takes_either : (slots : ℕ) (carried : List (ℕ × Option Closed))
          → Made turn carried (slot_place s) (λ word. (word + 1) % 2 ^ 64) (TakesAs d holding (step slots (slot_place s) 1 0 none) (v, carried))
      takes_either slots carried = ⊎_elim
          (λ (none_named : full_name_in found ≡ 0). let e = none_taken (unnamed turn s inside none_named) in (
            w turn after₀,
            keeps,
            tt,
            slot_kept turn s inside new h₀ d g deed' e,
            record {
              empty = λ i saw' _. let same : s ≡ i = cc (sym saw ∙ saw') in rw (← same, ← so.is) record {
                stepped = tells turn after₀ refl carried carried ([] ▷ Look s None) e.files.grows e.files.legal (part_mine r.history refl) knows_none;
                carried = refl;
              };
              holds = λ i n saw' is. absurd (omega arith);
            },
          ))
          (λ (z : (n : ℕ) × (full_name_in found ≡ n + 1)). let o = named turn s inside z.1 in let e = file_taken z.0 o.0 o.1 o.3 o.4 in (
            w turn (after₁ z.0 o.0 o.1 o.3 o.4),
            keeps,
            tt,
            slot_kept turn s inside new (h₁ z.0 o.0 o.1 o.3 o.4) (holding o.0 z.0) g deed' e,
            record {
              empty = λ i saw' is. absurd (let a = z.1 in omega arith);
              holds = λ i n saw' is. let same : s ≡ i = cc (sym saw ∙ saw') in let at : z.0 ≡ n = (let a = z.1 in omega arith) in
                  rw (← same, ← at, ← so.is) (
                    o.0,
                    o.2,
                    record {
                      stepped = tells turn (after₁ z.0 o.0 o.1 o.3 o.4) refl carried carried ([] ▷ Look s (Some o.0)) e.files.grows e.files.legal
                          (part_mine r.history refl) (may.inside o.0 z.0 v.start knows_none o.3);
                      carried = refl;
                    },
                  );
            },
          ))
          (name_cases turn s inside)

    pub takes_once : (slots : ℕ) (carried : List (ℕ × Option Closed))
        → Made turn carried (slot_place s) (λ word. (word + 1) % 2 ^ 64) (TakesAs d holding (step slots (slot_place s) 1 0 none) (v, carried))
    takes_once slots carried = dite (dec_le (cold_takes v.start.passes) (count_in found))
        (λ many. takes_either (Heating s) (does_here over) (heats_now (omega (arith, many))) slots carried)
        (λ few. takes_either Nothing r.deed (grind (arith, one_more, same_heat, inside, no_heat)) slots carried)

  -- the slot becomes hot, or hotter
  module _ (has : x.listed ≡ true) (saw : v.glance ≡ Heating s) (fits : found < 18446744073709551616) where
    abbrev hot_word : ℕ
    hot_word = (found + heat_unit) % 2 ^ 64

    not_counted : has_heated (r.deed s x.number) ≡ false
    not_counted = go (r.deed s x.number) refl
      where
        go : (e : Deed) → r.deed s x.number ≡ e → has_heated e ≡ false
        go heated is = absurd ((rw saw at (its_log turn).sees).1 is)
        go _ is = refl

    -- a heat leaves room: no pass heats twice
    heat_room : heat_in found + 1 < 2048
    heat_room = let a = (r.slots s inside).heat in let c = r.shape.passes in
        let b = tally_room (λ q. has_heated (r.deed s q)) v.start.passes x.number (in_range turn).0 (in_range turn).1 not_counted in omega arith

    hot_is : hot_word ≡ found + 2097152
    hot_is = let a = heat_room in omega arith

    parts_of : (full_name_in hot_word ≡ full_name_in found) × (entry_in hot_word ≡ entry_in found) × (heat_in hot_word ≡ heat_in found + 1)
        × (count_in hot_word ≡ count_in found) × (name_in hot_word ≡ name_in found)
    parts_of = grind (arith, same_full_name, heat_room, hot_is)

    is_hot : IsHot hot_word
    is_hot = let a = parts_of.2 in omega arith

    -- the pass may have taken what the slot named before
    counts_over : tally (λ q. has_acted (r.deed s q)) v.start.passes ≤ tally (λ q. has_acted (does_here heated s q)) v.start.passes
    counts_over = let a = counts_here heated has_acted in let b = bit_few (has_acted (r.deed s x.number)) in omega arith

    abbrev hot_after : After turn
    hot_after = slot_after turn s inside hot_word r.history v.work Nothing (does_here heated)

    heats_it : SlotStep turn s inside hot_word r.history v.work Nothing (does_here heated)
    heats_it = let z = parts_of in let o = its_log turn in
        let own = guards_same turn hot_after x.number v.work (slot_hold turn s inside hot_word x.number (in_range turn).0) refl
        (covers_slot turn s inside hot_word r.history v.work Nothing (does_here heated) (λ _. is_hot) x.number) o.hold o.guarded in record {
          files = none_added turn;
          names = record { own = z.4; full = z.0; entry = z.1; hot = λ _. is_hot };
          moved = inr (let b = z.2 in omega arith);
          deeds = record {
            takes = let a = (r.slots s inside).takes in let b = z.3 in let c = counts_over in omega arith;
            heat = let a = (r.slots s inside).heat in let b = z.2 in let c = counts_here heated has_heated in let d = ap one_if not_counted in omega arith;
            elsewhere = does_there heated;
            others = does_other heated;
            its = λ is. inr has;
          };
          counts = λ n f l at. let c = (in_phase turn l at).counts in let a = z.3 in
              let t = sum_set (taken_of n) st.views id v (w turn hot_after) here in omega arith;
          taken = λ n l else. refl;
          owners = inl refl;
          held = o.held;
          allowed = o.allowed;
          its = record {
            hold = own.0;
            guarded = own.1;
            sees = tt;
            heats = λ i l is. absurd (dite (ℕ_discrete i s)
                (λ same. let bad : heated ≡ over = sym (does_own heated) ∙ (ap (λ (j : ℕ). does_here heated j x.number) (sym same) ∙ is) in cc bad)
                (λ other. let same : s ≡ i = cc (sym saw ∙ o.heats i l (sym (does_there heated i x.number other) ∙ is)) in other (sym same)));
            work = its_work turn;
          };
          holds = λ n. omega arith;
        }

    pub heats_up : (slots : ℕ) (carried : List (ℕ × Option Closed))
        → Made turn carried (slot_place s) (λ word. (word + heat_unit) % 2 ^ 64) (HeatsSlot (step slots (slot_place s) heat_unit 0 none) (v, carried))
    heats_up slots carried = (
      w turn hot_after,
      keeps,
      tt,
      slot_kept turn s inside hot_word r.history v.work Nothing (does_here heated) heats_it,
      record {
        goes = record {
          stepped = tells turn hot_after refl carried carried [] (grows_none x.number r.history) r.life.legal refl (its_inside turn);
          carried = refl;
        };
      },
    )

pub takes_once_keep : TakesOnceKeep Takes
takes_once_keep k slots id i s m x has listed works saw place = by_turn slots (λ _. Unit {0}) (λ _. slot_place s) (λ word. (word + 1) % 2 ^ 64)
    (λ i. Takes (step slots i 1 0 none) m) has tt place
    (λ st r here _ fits. let turn = turn_of m x has.1 id st r here in let o = rw saw at (its_log turn).sees in
    takes_once turn s o.0 Idle Counted (grind arith) listed works saw fits slots m.1)

pub takes_beside_keep : TakesBesideKeep TakesBeside
takes_beside_keep k slots id i s own l m x has listed works saw place = by_turn slots (λ _. Unit {0}) (λ _. slot_place s) (λ word. (word + 1) % 2 ^ 64)
    (λ i. TakesBeside (step slots i 1 0 none) m) has tt place
    (λ st r here _ fits. let turn = turn_of m x has.1 id st r here in let o = rw saw at (its_log turn).sees in
    let z = takes_once turn s o.0 (Placing own l) (λ f n. Renewing f n own l) (placing_may own l) listed works saw fits slots m.1 in (
      z.0,
      z.1,
      z.2,
      z.3,
      λ own' l' works'. subst (λ (e : Work). TakesAs e (λ f n. Renewing f n (placed_in e).0 (placed_in e).1)
          (step slots (slot_place s) 1 0 none) m (slot_word st.words s) (z.0, carried_after m.1 z.1)) (sym works ∙ works') z.4,
    ))

pub heats_keep : HeatsKeep HeatsSlot
heats_keep k slots id i s m x has listed saw place = by_turn slots (λ _. Unit {0}) (λ _. slot_place s) (λ word. (word + heat_unit) % 2 ^ 64)
    (λ i. HeatsSlot (step slots i heat_unit 0 none) m) has tt place
    (λ st r here _ fits. let turn = turn_of m x has.1 id st r here in heats_up turn s (rw saw at (its_log turn).sees).0 listed saw fits slots m.1)
