-- A swap of a slot's word keeps the rule: a removal, and an installation.
use Rattle.fx_counted.proofs.Words.{◌≡◌, ◌≢◌, ℕ, ◌-◌, ◌<◌, ◌≤◌, ◌^◌, false, List, [], ◌∷◌, set, length, sym, refl, ap, ◌∙◌, subst, arith, Option}
use Rattle.fx_counted.proofs.Words.{Some, None, dite, ◌⊎◌, inl, inr, ⊎_elim, some, ℕ_discrete, get_elem?, set_here, set_else, Closed, held_by}
use Rattle.fx_counted.proofs.Words.{held_after, ◌▷◌, changed_at, with_removed, State, numbered, File, Event, Bool, Action, no_use, one_number}
use Rattle.fx_counted.proofs.Words.{range_of, event_of, takes_in, slot_word_of, name_made, entry_made, takes_made, Names, NodeAgrees, OwnerAgrees}
use Rattle.fx_counted.proofs.Words.{WorkAgrees, PlacesNext, Agrees, ControlCounts, if_full, looks, all_looks, word_of, place_of, control_place}
use Rattle.fx_counted.proofs.Words.{slot_place, opening_of, slots_of, IsNumber, state_after_all, shown, end_in, next_in, held_in, placing, holding}
use Rattle.fx_counted.proofs.Words.{Phase, spare, placed, seated, leaving, file_in, IsInside, Stepped, retiring, turned, Change, Log, View}
use Rattle.fx_counted.proofs.Words.{Work, Idle, Placing, Retiring, Between, keeps, stepped, changed_here, changed_else, length-set, IsSeated}
use Rattle.fx_counted.proofs.Steps.{sees_now, in_phase, seat_in, busy, owner_stays, does_now, IsHistory, grows_one, part_mine, held_mine, each_changed}
use Rattle.fx_counted.proofs.Steps.{same_shape, Turn, Homes, word_at, now, logged, its_log, its_work, log_now, tells, went, tells_one, node_same}
use Rattle.fx_counted.proofs.Steps.{NodeIn, step_kept, slots_now, node_now, control_now, draws_now, words_now}
use Rattle.fx_counted.proofs.LettingGo.{else_place, unheld}
use Rattle.fx_counted.proofs.ControlSteps.{Stands, control_swap}

-- the phases after a file has left its slot for the seat id
abbrev pub gone_out : ℕ → Option File → ℕ → (ℕ → Phase) → ℕ → Phase
gone_out id None takes phase = phase
gone_out id (Some f) takes phase = changed_at phase f.number (leaving id takes f.identity)

-- the file doesn't have the number
abbrev pub NotOf : ℕ → Option File → Type 0
NotOf n old = (f : File) → old ≡ Some f → n ≢ f.number

out_else : (id : ℕ) (old : Option File) (takes : ℕ) (phase : ℕ → Phase) {n : ℕ} → NotOf n old → gone_out id old takes phase n ≡ phase n
out_else id old takes phase other = grind (arith, changed_else, leaving)

removed_else : (removed : ℕ → Option File) (old : Option File) {n : ℕ} → NotOf n old → with_removed removed old n ≡ removed n
removed_else removed old other = grind (arith, changed_else)

by_old : (old : Option File) {n : ℕ} (P : Type 0) → ((f : File) → old ≡ Some f → n ≡ f.number → P) → (NotOf n old → P) → P
by_old None P is else = else (λ f bad. absurd (cc bad))
by_old (Some f) {n} P is else = dite (ℕ_discrete n f.number) (λ same. is f refl same) (λ other. else (λ g e same. other (cc (e, same))))

-- the work of a pass that has a file to retire, or none
by_retiring : (old : Option File) (takes : ℕ) (P : Work → Type 0) → P (Between Idle)
    → ((f : File) → old ≡ Some f → P (Between (Retiring f takes))) → P (Between (retiring old takes))
by_retiring old takes P idle retires = grind arith

module _ (turn : Turn) (s : ℕ) (inside : s < slots_of turn.v.start) where
  open turn use {st, v, r, id, x, here, one}

  abbrev pub found : ℕ
  found = word_at st.words (slot_place s)

  abbrev pub state : State
  state = state_after_all v.start r.history

  pub in_size : s < state.size
  in_size = let z = (same_shape v.start r.history).0 in omega arith

  module _ (old : Option File) (was : state.at s ≡ old) where
    pub names_old : Names found old
    names_old = subst (Names found) was (r.each_slot s inside).names

    -- a number whose phase isn't that of a file at the slot is not the old file's
    not_old : {n : ℕ} {ph : Phase} → r.phase n ≡ ph → ((f : Closed) → ph ≢ seated s f) → NotOf n old
    not_old is not_seated f o same = not_seated f.identity (sym is ∙ (ap r.phase same ∙ (seat_in v.start st r inside (was ∙ o)).2))

    -- a seated file is elsewhere, if it is not the old one
    elsewhere : {n i : ℕ} {g : Closed} → NotOf n old → state.at i ≡ Some (numbered n g) → i ≢ s
    elsewhere {n} {g} other there same = other (numbered n g) (sym was ∙ (ap state.at (sym same) ∙ there)) refl

    abbrev d : Work
    d = Between (retiring old (takes_in found))

    inside_now : IsInside v.start d
    inside_now = by_retiring old (takes_in found) (IsInside v.start) tt (λ f is. (seat_in v.start st r inside (was ∙ is)).0)

    module _ (a : Action) where
      abbrev h' : List Event
      h' = event_of (shown x v.work) a ∷ r.history

      abbrev after : State
      after = state_after_all v.start h'

      abbrev Node : Homes → ℕ → Phase → Type 0
      Node homes' n = NodeAgrees after n (looks r.history n) (word_at st.words (word_of v.start n)) (get_elem? homes' (place_of v.start n))

      -- the effect of a removal or an installation on the state
      pub record Effect (new : Option File) (fresh : ℕ → Bool) : Type 0 where
        pub legal : IsHistory v.start h'
        pub state : after ≡ record state { at = changed_at state.at s new; removed = with_removed state.removed old; fresh = fresh }
        pub looked : looks h' ≡ looks r.history
        pub all : all_looks h' ≡ all_looks r.history
        pub held : held_after (held_by r.history x.number) a ≡ held_by r.history x.number

      module _ (word' : ℕ) (new : Option File) (homes' : Homes) (phase₁ : ℕ → Phase) (left : ℕ) (c : Change) where
        abbrev y : Log
        y = logged x h' left x.looks_left

        abbrev w : View
        w = now v y d c

        abbrev phase' : ℕ → Phase
        phase' = gone_out id old (takes_in found) phase₁

        record Swap : Type 0 where
          fresh : ℕ → Bool
          does : Effect new fresh
          homes : length homes' ≡ length st.homes
          -- the file that is put at the slot
          names : Names word' new
          no_takes : takes_in word' ≡ 0
          seat : IsSeated v.start (looks r.history) phase₁ s word' new
          new_apart : (f : File) → new ≡ Some f → NotOf f.number old
          -- the phases change at most where the pass was placing
          kept : (n : ℕ) → (phase₁ n ≡ r.phase n) ⊎ (r.phase n ≡ placed id)
          nodes : (n : ℕ) → IsNumber v.start n → NotOf n old → Node homes' n (phase₁ n)
          old_home : (f : File) → old ≡ Some f → get_elem? homes' (place_of v.start f.number) ≡ get_elem? st.homes (place_of v.start f.number)
          owners : (n : ℕ) → IsNumber v.start n → NotOf n old → OwnerAgrees (set st.views id w) n (phase₁ n)
          -- the pass
          fewer : left ≤ x.numbers_left
          spares : (n : ℕ) → next_in v.start y ≤ n → n < end_in v.start x → (phase₁ n ≡ spare x.number) × NotOf n old
          none_held : (held_in v.work ≡ None) × ((n : ℕ) → holding n v.work ≡ 0)
          control : ControlCounts (changed_at state.at s new) (range_of (opening_of v.start)) (set st.views id w) (word_at st.words control_place)

        module _ (p : Swap) where
          old_node : {f : File} → old ≡ Some f → Node homes' f.number (leaving id (takes_in found) f.identity)
          old_node {f} is = grind arith

          out_here : {f : File} → old ≡ Some f → phase' f.number ≡ leaving id (takes_in found) f.identity
          out_here {f} is = grind arith

          else_phase : {n : ℕ} → NotOf n old → phase' n ≡ phase₁ n
          else_phase {n} other = out_else id old (takes_in found) phase₁ other

          -- a number that is neither the old file's nor placed
          same_phase : {n : ℕ} {ph : Phase} → r.phase n ≡ ph → NotOf n old → (ph ≡ placed id → ⊥) → phase' n ≡ ph
          same_phase {n} is apart other = else_phase apart ∙ ⊎_elim (λ same. same ∙ is) (λ mine. absurd (other (sym is ∙ mine))) (p.kept n)

          -- there is no look-up
          now_in : (n : ℕ) {ph : Phase} → ph ≡ phase' n → Node homes' n ph → NodeIn v.start st.words homes' h' n (phase' n)
          now_in n is node = rw (← is, p.does.looked) node

          swap_agrees : Agrees v.start record { words = words_now turn s inside word'; homes = homes'; views = set st.views id w }
          swap_agrees = let o = its_log turn in step_kept turn y d c h' phase' (words_now turn s inside word') homes' record {
            words = length-set st.words (slot_place s) word';
            homes = p.homes;
            number = refl;
            grows = grows_one x.number r.history _ refl;
            legal = p.does.legal;
            slots = slots_now turn s inside word' (
                let at_is : after.at s ≡ new = ap (λ (z : State). z.at s) p.does.state ∙ changed_here state.at s new s refl in record {
                  names = subst (Names word') (sym at_is) p.names;
                  seat = subst (IsSeated v.start (looks h') phase' s word') (sym at_is) (seat_now new refl p.seat);
                  takes = let z = p.no_takes in omega arith;
                }
                ) (let z = p.does.all in omega arith) (λ i l other. (
                  ap (λ (z : State). z.at i) p.does.state ∙ changed_else state.at s new i other,
                  λ f there its. (
                    ap (λ (g : ℕ → ℕ). g f.number) p.does.looked,
                    same_phase its (not_old its (λ g bad. other (cc bad))) (λ bad. cc bad) ∙ sym its,
                  ),
                ));
            nodes = λ n has. node_now turn s inside word' h' homes' (phase' n) has (by_old old (NodeIn v.start st.words homes' h' n (phase' n))
                (λ f is same. rw same (now_in f.number (sym (out_here is)) (old_node is)))
                (λ other. now_in n (sym (else_phase other)) (p.nodes n has other)));
            owners = λ n has. by_old old (OwnerAgrees (set st.views id w) n (phase' n))
                (λ f is same. rw (same, out_here is) (does_now st.views id v w (Between (Retiring f (takes_in found))) here
                (ap (λ (o : Option File). Between (retiring o (takes_in found))) is)))
                (λ other. subst (OwnerAgrees (set st.views id w) n) (sym (else_phase other)) (p.owners n has other));
            no_other = λ n absent. grind (arith, removed_else, state, seat_in);
            stays = grind (arith, same_phase, not_old);
            keeps = λ j u f other there holds. by_old old (file_in (phase' f.number) ≡ file_in (r.phase f.number))
                (λ g is same. ap (λ (m : ℕ). file_in (phase' m)) same ∙ (ap file_in (out_here is)
                ∙ (sym (ap file_in (seat_in v.start st r inside (was ∙ is)).2) ∙ ap (λ (m : ℕ). file_in (r.phase m)) (sym same))))
                (λ apart. ap file_in (same_phase refl apart (λ bad. unheld turn f.number (ap file_in bad) j u f there holds refl)));
            seen = sees_now turn h' left x.looks_left;
            log = grind (arith, log_now, held_mine, shown, by_retiring, else_phase);
            work = grind (arith, by_retiring, seat_in, out_here);
            holds = λ n. grind (arith, by_retiring);
            look_ups = let z = p.does.all in omega arith;
            control = control_now turn s inside word' (rw p.does.state p.control);
            draws = draws_now turn s inside word' h' left x.looks_left d c (λ n is. same_phase is (not_old is (λ f bad. cc bad)) (λ bad. cc bad));
          }
            where
              seat_now : (file : Option File) → new ≡ file → IsSeated v.start (looks r.history) phase₁ s word' file
                  → IsSeated v.start (looks h') phase' s word' file
              seat_now None is z = tt
              seat_now (Some f) is z = (z.0, z.1 ∙ sym (ap (λ (g : ℕ → ℕ). g f.number) p.does.looked), else_phase (p.new_apart f is) ∙ z.2)

      module _ (stands : Stands (range_of (opening_of v.start)) s v.change) where
        -- a removal
        module _ (idle : v.work ≡ Between Idle) (does : Effect None state.fresh) where
          abbrev c₀ : Change
          c₀ = turned v.change (if_full old) 0

          abbrev pub removed_view : View
          removed_view = went turn h' d c₀

          pub removal_agrees : Agrees v.start (stepped st (slot_place s) 0 id [] removed_view keeps)
          removal_agrees = let o = its_log turn in swap_agrees 0 None st.homes r.phase x.numbers_left c₀ record {
            fresh = state.fresh;
            does = does;
            homes = refl;
            names = refl;
            no_takes = refl;
            seat = tt;
            new_apart = λ f is. absurd (cc is);
            kept = λ n. inl refl;
            nodes = λ n has other. grind (arith, node_same, state, looks, does, removed_else, changed_else, elsewhere);
            old_home = λ f is. refl;
            owners = λ n has other. owner_stays st.views id v removed_view here n (λ bad. let b = ap busy idle in omega arith) (r.phase n)
                (r.each_owner n has);
            fewer = omega arith;
            spares = λ n low high. let p = ap placing idle in let q = o.spares n (omega arith) high in (q, not_old q (λ g bad. cc bad));
            none_held = (ap held_in idle, λ n. ap (holding n) idle);
            control = control_swap state.at id _ s old None here was stands refl r.control;
          }

          pub removal_tells : (carried : List (ℕ × Option Closed)) → Stepped (v, carried) ([] ▷ a) no_use d c₀ (removed_view, carried)
          removal_tells carried = tells_one turn does.legal carried carried c₀ (inside_now)

        -- an installation
        module _ (n : ℕ) (file : Closed) (works : v.work ≡ Placing n) (small : file.entry < 2 ^ 8)
            (does : Effect (Some (numbered n file)) (changed_at state.fresh n false)) where
          its : IsNumber v.start n × (r.phase n ≡ placed id)
          its = subst (WorkAgrees v.start r.phase id) works (its_work turn)

          next : (n ≡ next_in v.start x) × (0 < x.numbers_left)
          next = subst (PlacesNext v.start x) works (its_log turn).next

          apart_old : NotOf n old
          apart_old = not_old its.1 (λ g bad. cc bad)

          abbrev homes₁ : Homes
          homes₁ = set st.homes (place_of v.start n) (some (Some file))

          abbrev phase₁ : ℕ → Phase
          phase₁ = changed_at r.phase n (seated s file)

          abbrev c₁ : Change
          c₁ = turned v.change (if_full old) 1

          abbrev pub installed_view : View
          installed_view = now v (logged x h' (x.numbers_left - 1) x.looks_left) d c₁

          node_here : Node homes₁ n (seated s file)
          node_here = grind (arith, set_here, in_size)

          node_else : {m : ℕ} → IsNumber v.start m → m ≢ n → NotOf m old → Node homes₁ m (r.phase m)
          node_else {m} has other apart =
              grind (arith, node_same, state, does, set_else, its, elsewhere, looks r.history m, changed_else state.fresh n false m other, removed_else state.removed old apart, some (Some file), else_place turn its.0 has other, r.phase m, r.each_node m has)

          pub installation_agrees : Agrees v.start record {
            words = set st.words (slot_place s) (slot_word_of n file.entry);
            homes = homes₁;
            views = set st.views id installed_view;
          }
          installation_agrees = let o = its_log turn in
              swap_agrees (slot_word_of n file.entry) (Some (numbered n file)) homes₁ phase₁ (x.numbers_left - 1) c₁ record {
                fresh = changed_at state.fresh n false;
                does = does;
                homes = length-set st.homes (place_of v.start n) (some (Some file));
                names = (name_made n file.entry small, entry_made n file.entry small);
                no_takes = takes_made n file.entry;
                seat = (
                  its.0,
                  takes_made n file.entry ∙ sym (in_phase v.start st r its.0 its.1).no_looks,
                  changed_here r.phase n (seated s file) n refl,
                );
                new_apart = λ f is. let same : n ≡ f.number = (let e : numbered n file ≡ f = cc is in
                    ap (λ (f : File). f.number) e) in subst (λ (m : ℕ). NotOf m old) same apart_old;
                kept = λ m. each_changed (λ m ph. (ph ≡ r.phase m) ⊎ (r.phase m ≡ placed id)) r.phase
                    (λ same. inr (ap r.phase same ∙ its.1)) (λ other. inl refl);
                nodes = λ m has apart. each_changed (Node homes₁) r.phase
                    (λ same. subst (λ (m : ℕ). Node homes₁ m (seated s file)) (sym same) node_here) (λ other. node_else has other apart);
                old_home = λ f is. let q = seat_in v.start st r inside (was ∙ is) in
                    set_else st.homes (place_of v.start n) (place_of v.start f.number) (some (Some file)) (else_place turn its.0 q.0
                    (λ same. let z : seated s f.identity ≡ placed id = sym q.2 ∙ (ap r.phase same ∙ its.1) in cc z));
                owners = λ m has apart. each_changed (OwnerAgrees (set st.views id installed_view)) r.phase (λ same. tt)
                    (λ other. owner_stays st.views id v installed_view here m (λ bad. let b = ap busy works in other (omega arith)) (r.phase m)
                    (r.each_owner m has));
                fewer = omega arith;
                spares = λ m low high. let p = ap placing works in let z = next in let few = o.left_inside in
                    let q = o.spares m (omega arith) high in (
                      each_changed (λ m ph. ph ≡ spare x.number) r.phase
                          (λ same. let bad : spare x.number ≡ placed id = sym q ∙ (ap r.phase same ∙ its.1) in absurd (cc bad)) (λ other. q),
                      not_old q (λ g bad. cc bad),
                    );
                none_held = (ap held_in works, λ m. ap (holding m) works);
                control = control_swap state.at id _ s old (Some (numbered n file)) here was stands refl r.control;
              }

          pub installation_tells : (carried homes : List (ℕ × Option Closed)) → Stepped (v, carried) ([] ▷ a) one_number d c₁ (installed_view, homes)
          installation_tells carried homes = tells turn carried homes h' (x.numbers_left - 1) x.looks_left d c₁ ([] ▷ a) one_number
              (grows_one x.number r.history _ refl) does.legal (part_mine r.history refl)
              (let z = next in omega arith) (omega arith) (inside_now)
