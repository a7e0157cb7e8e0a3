-- The slot of a file that a pass holds: the hold may end with the step that removes the file. If
-- the pass holds it by a take, the removal counts the takes without it; else the slot is hot, and
-- the pass's hold word names the node still.
use Rattle.fx_lasting.proofs.{◌≡◌, ◌≢◌, ℕ, ◌+◌, ◌-◌, ◌<◌, List, ◌∷◌, sym, refl, ap, ◌∙◌, arith, subst, Option, Some, None, Bool, true, false, File}
use Rattle.fx_lasting.proofs.{Event, Release, State, pass_event, HoldsAt, IsHistory, node_of_number, state_after_all, slots_of, count_in, heat_in}
use Rattle.fx_lasting.proofs.{hold_word_of, full_name_in, entry_in, Names, seated, taking, held_of, if_file, held_in, sum_at}
use Rattle.fx_lasting.proofs.{bit_here, one_less_at, Round, StillNames, NamesNode, MayBeUncharged, HasItsHold, ⊎_elim, guarded_round, first_visit}
use Rattle.fx_lasting.proofs.{new_round, removal_work, leaving_work, is_guarding, one_less, [], ◌▷◌, ◌++◌, map, part_of_pass, held_after, Action}
use Rattle.fx_lasting.proofs.{changed_at, with_removed, ActsAt, owed_at, legal_more, grows_one, grows_more, held_mine, part_mine, busy, Turn, its_log}
use Rattle.fx_lasting.proofs.{in_range, word_at, slot_word, in_phase, on_node}
use Rattle.fx_lasting.proofs.slot_lemmas.Swaps.{found, old_at, old_named, names_old, IsAlike, Begins, begins_first, Ends}

module _ (turn : Turn) (s : ℕ) (inside : s < slots_of turn.v.start) (f : File) (n : ℕ) (its : HoldsAt turn.v.start turn.r.phase f n)
    (holds_it : held_in turn.v.work ≡ Some f) (names_it : full_name_in (found turn s inside) ≡ n + 1) where
  open turn use {st, v, r, id, x, here, one}

  abbrev before : State
  before = state_after_all v.start r.history

  abbrev word : ℕ
  word = found turn s inside

  -- the file at the slot is the one that the pass holds
  pub there : before.at s ≡ Some f
  there = grind (arith, names_old, old_at, old_named)

  pub on_n : r.node_of f.number ≡ n
  on_n = on_node turn its.0 its.1

  pub sits : r.phase n ≡ seated s f
  sits = ap r.phase (sym on_n) ∙ (old_at turn s inside (Some f) there refl).1

  -- the pass releases the file
  abbrev pub h₀ : List Event
  h₀ = pass_event x (Release f) ∷ r.history

  held_now : 0 < before.holds f.number
  held_now = grind (arith, bit_here, sum_at)

  pub legal₀ : IsHistory v.start h₀
  legal₀ = legal_more v.start r.life.legal held_now ((its_log turn).held ∙ holds_it)

  -- the hold ends
  pub let_go : (m : ℕ) → (state_after_all v.start h₀).holds m + held_of m v ≡ before.holds m
  let_go m = let a = one_less_at before.holds f.number m held_now in let b = ap (if_file m) holds_it in omega arith

  named_there : Names r.node_of word (Some f)
  named_there = names_old turn s inside (Some f) there

  pub by_number : Names (node_of_number v.start) word (Some f)
  by_number = (named_there.0 ∙ ap (λ (i : ℕ). i + 1) (r.numbering f.number), named_there.1)

  -- the pass may remove the file so: the removal has this word from the slot, and is to make this
  -- round
  pub record IsHeld (guards : Bool) (counted : ℕ) (round : Round) : Type 0 where
    pub alike : IsAlike turn s inside counted
    pub taken : count_in counted + taking n v.work ≡ count_in word
    pub untaken : (m : ℕ) → m ≢ n → taking m v.work ≡ 0
    pub begins : Begins turn s inside round
    pub hold : StillNames round.guarded (word_at st.words (hold_word_of v.start x.number)) (r.debt x.number) n
    pub guarding : is_guarding v.work ≡ guards
    pub own : HasItsHold guards word
    pub leaves : leaving_work v.start guards word f ≡ removal_work round counted (Some f)

  -- by a take
  module _ (takes_it : taking n v.work ≡ 1) where
    some_takes : 0 < count_in word
    some_takes = grind (arith, in_phase, sits, sum_at)

    less : (full_name_in (word - 1) ≡ full_name_in word) × (heat_in (word - 1) ≡ heat_in word) × (count_in (word - 1) + 1 ≡ count_in word)
        × (entry_in (word - 1) ≡ entry_in word)
    less = one_less word some_takes

    pub by_take : is_guarding v.work ≡ false → ((m : ℕ) → m ≢ n → taking m v.work ≡ 0)
        → (word_at st.words (hold_word_of v.start x.number) ≡ 0) × (r.debt x.number ≡ 0)
        → IsHeld false (word - 1) (new_round (first_visit v.start.passes (word - 1)))
    by_take guarding untaken unnamed = record {
      alike = (less.0, less.1);
      taken = let a = less.2 in omega arith;
      untaken = untaken;
      begins = begins_first turn s inside (word - 1) (less.0, less.1);
      hold = unnamed;
      guarding = guarding;
      own = some_takes;
      leaves = refl;
    }

  -- by its hold word, which nobody has charged
  pub by_guard : is_guarding v.work ≡ true → ((m : ℕ) → taking m v.work ≡ 0) → NamesNode (word_at st.words (hold_word_of v.start x.number)) (r.debt x.number) n
      → (r.debt x.number ≡ 0 → MayBeUncharged (slot_word st.words) x.number (r.phase n)) → x.listed ≡ true → IsHeld true word guarded_round
  by_guard guarding untaken names guards listed = record {
    alike = (refl, refl);
    taken = let a = untaken n in omega arith;
    untaken = λ m other. untaken m;
    begins = record {
      some_next = omega arith;
      few_next = omega arith;
      visits = λ q low hot. (low, λ idle. let a = idle.0 in omega arith);
      listed = λ up. listed;
    };
    hold = names;
    guarding = guarding;
    own = subst (MayBeUncharged (slot_word st.words) x.number) sits (guards uncharged);
    leaves = refl;
  }
    where
      uncharged : r.debt x.number ≡ 0
      uncharged = let o = in_phase turn its.0 sits in let a = o.unowed in let range = in_range turn in ⊎_elim (λ clean. clean.1)
          (λ full. absurd (let b = owed_at r.debt v.start.passes x.number n range.0 range.1 full.1 in omega arith)) names

  -- the work of the pass afterwards, by how it held the file
  pub leaves_so : {guards : Bool} {counted : ℕ} {round : Round} → IsHeld guards counted round
      → leaving_work v.start (is_guarding v.work) word f ≡ removal_work round counted (Some f)
  leaves_so so = ap (λ (b : Bool). leaving_work v.start b word f) so.guarding ∙ so.leaves

  pub own_hold : {guards : Bool} {counted : ℕ} {round : Round} → IsHeld guards counted round → HasItsHold (is_guarding v.work) word
  own_hold so = subst (λ (b : Bool). HasItsHold b word) (sym so.guarding) so.own

  -- The pass releases the file, and removes it by this action
  module _ (a : Action) where
    abbrev pub h₁ : List Event
    h₁ = pass_event x a ∷ h₀

    pub own_part : part_of_pass x.number h₁ ≡ map (pass_event x) ([] ▷ Release f ▷ a) ++ part_of_pass x.number r.history
    own_part = part_mine h₀ refl ∙ ap (λ (l : List Event). pass_event x a ∷ l) (part_mine r.history refl)

    pub ends_held : {guards : Bool} {counted : ℕ} {round : Round} → IsHeld guards counted round → {busy_with : ℕ} → busy v.work ≡ busy_with
        → {new : Option File} {fresh : ℕ → Bool} → IsHistory v.start h₁ → ActsAt s a → held_after None a ≡ None
        → state_after_all v.start h₁ ≡ record before {
          at = changed_at before.at s new;
          removed = with_removed before.removed (Some f);
          fresh = fresh;
          holds = (state_after_all v.start h₀).holds;
        }
        → Ends turn s inside (Some f) counted round busy_with h₁ new fresh
    ends_held {counted = counted} {round = round} so works legal acts holds_none leads = record {
      grows = grows_more refl (grows_one x.number r.history (pass_event x (Release f)) refl);
      legal = legal;
      acted = (h₀, pass_event x a, (pass_event x (Release f) ∷ [], refl), ([], refl), refl, acts);
      holds = (state_after_all v.start h₀).holds;
      leads = leads;
      held = held_mine (pass_event x a) h₀ refl
          ∙ (ap (λ (o : Option File). held_after o a) (held_mine (pass_event x (Release f)) r.history refl) ∙ holds_none);
      let_go = let_go;
      taken = grind (arith, taking, on_n);
      untaken = λ m apart. so.untaken m (λ same. apart f refl (same ∙ sym on_n));
      works = works;
      begins = so.begins;
      hold_none = λ is. absurd (cc is);
      hold = λ g is. let e : f ≡ g = cc is in grind (arith, e, e, on_n);
    }
