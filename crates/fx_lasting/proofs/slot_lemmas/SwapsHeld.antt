-- A removal by a pass that holds the slot's file keeps the rule: the hold ends with the step, and
-- the removal counts the takes without the pass's own.
use Rattle.fx_lasting.proofs.{◌≡◌, HoldsAt, slots_of, name_in, held_in, bit_here, bit_else, Counted, Stepped, TakesHeld, IsAllowed, new_round, ℕ, ◌+◌}
use Rattle.fx_lasting.proofs.{◌-◌, ◌<◌, sym, ap, ◌∙◌, Some, None, none, some, File, Take, ◌▷◌, step, Bool, true, Work, List, WorkAgrees, full_name_in}
use Rattle.fx_lasting.proofs.{without_file, GuardAgrees, hold_word_of, first_visit, leaving_work, is_guarding, [], node_of_number, state_after_all}
use Rattle.fx_lasting.proofs.{range_at_start, empty_word_of, SwapsHeldKeep, TakesHeldKeep, guarded_round, refl, subst, arith, Option, keeps, Closed}
use Rattle.fx_lasting.proofs.{Event, Action, Names, taking, account, false, Round, Guarded, ⊎_elim, get_elem?, Release, slot_place, IsOffCount}
use Rattle.fx_lasting.proofs.{IsInStock, as_swapped, first_log, SwapsHeld, HoldsAlone, HoldAgrees, legal_more, same_shape, busy, Turn, turn_of, After}
use Rattle.fx_lasting.proofs.{Made, its_log, its_work, word_at, slot_word, w, slot_back}
use Rattle.fx_lasting.proofs.node_lemmas.StockMoves.{names_a_node}
use Rattle.fx_lasting.proofs.slot_lemmas.Sights.{by_exchange}
use Rattle.fx_lasting.proofs.slot_lemmas.Swaps.{found, Ends}
use Rattle.fx_lasting.proofs.slot_lemmas.Emptying.{left, left_agrees, left_tells, moved, moved_agrees, moved_tells}
use Rattle.fx_lasting.proofs.slot_lemmas.HeldSlots.{there as held_there, by_number as held_by_number, legal₀, IsHeld, by_take, by_guard, h₁, own_part}
use Rattle.fx_lasting.proofs.slot_lemmas.HeldSlots.{ends_held, leaves_so, own_hold}

-- the file that a pass holds alone
pub held_alone : {d : Work} {f : File} {n : ℕ} → HoldsAlone d f n → held_in d ≡ Some f
held_alone holds = ⊎_elim (λ is. ap held_in is) (λ is. ap held_in is) holds

module _ (turn : Turn) (s : ℕ) (inside : s < slots_of turn.v.start) (f : File) (n : ℕ) (its : HoldsAt turn.v.start turn.r.phase f n)
    (holds_it : held_in turn.v.work ≡ Some f) (names_it : full_name_in (found turn s inside) ≡ n + 1) (calm : busy turn.v.work ≡ 0)
    (off : IsOffCount turn.v.start s turn.v.change) (guards : Bool) (counted : ℕ) (round : Round)
    (so : IsHeld turn s inside f n its holds_it names_it guards counted round) where
  open turn use {st, v, r, id, x, here, one}

  abbrev pub word : ℕ
  word = found turn s inside

  abbrev take : Action
  take = Take s (Some f)

  abbrev take_h : List Event
  take_h = h₁ turn s inside f n its holds_it names_it take

  -- the file at the slot is the one that the pass holds
  pub there : (state_after_all v.start r.history).at s ≡ Some f
  there = held_there turn s inside f n its holds_it names_it

  ends : Ends turn s inside (Some f) counted round 0 take_h None (state_after_all v.start r.history).fresh
  ends = ends_held turn s inside f n its holds_it names_it take so calm
      (legal_more v.start (legal₀ turn s inside f n its holds_it names_it) (let z = (same_shape v.start r.history).0 in (omega arith, sym there)) tt) refl refl refl

  pub by_number : Names (node_of_number v.start) word (Some f)
  by_number = held_by_number turn s inside f n its holds_it names_it

  -- a file that the pass holds is this one
  same_file : {g : File} {m : ℕ} → HoldsAlone v.work g m → f ≡ g
  same_file holds = cc (sym holds_it ∙ held_alone holds)

  -- The slot keeps its name alone
  module _ (slots : ℕ) (carried : List (ℕ × Option Closed)) where
    abbrev gone : After turn
    gone = left turn s inside (Some f) there counted so.alike round take_h ends off

    gone_tells : Stepped (v, carried) ([] ▷ Release f ▷ take) (leaving_work v.start (is_guarding v.work) word f) v.glance
        (account (range_at_start v.start) s (Some f)) (w turn gone, carried)
    gone_tells = subst (λ (z : Work). Stepped (v, carried) ([] ▷ Release f ▷ take) z v.glance (account (range_at_start v.start) s (Some f)) (w turn gone, carried))
        (sym (leaves_so turn s inside f n its holds_it names_it so))
        (left_tells turn s inside (Some f) there counted so.alike round take_h ends off carried ([] ▷ Release f ▷ take)
        (own_part turn s inside f n its holds_it names_it take))

    abbrev Takes : (old_word : ℕ) → ℕ → Type 0
    Takes old_word y = Made turn carried (slot_place s) (λ _. y) (TakesHeld (step slots (slot_place s) old_word (without_file old_word) none) (v, carried))

    pub takes_held : (old_word : ℕ) → word ≡ old_word → Takes old_word (without_file old_word)
    takes_held old_word is = subst (λ (z : ℕ). Takes z (without_file z)) is (
      w turn gone,
      keeps,
      tt,
      left_agrees turn s inside (Some f) there counted so.alike round take_h ends off,
      record {
        wins = λ g node works' _. let same : f ≡ g = same_file works' in rw (← same, slot_back s)
            (own_hold turn s inside f n its holds_it names_it so, by_number, gone_tells, refl);
        loses = λ other. absurd (other refl);
      },
    )

  -- The slot names a node of the stock
  module _ (slots : ℕ) (carried : List (ℕ × Option Closed)) (m : ℕ) (stocked : IsInStock x.stock m) where
    abbrev swapped : After turn
    swapped = moved turn s inside (Some f) there counted so.alike round take_h ends off m stocked

    swapped_tells : (e : ℕ) → get_elem? (first_log v.logs).stock e ≡ some m
        → Stepped (as_swapped e (name_in word - 1) (v, carried)) ([] ▷ Release f ▷ take) (leaving_work v.start (is_guarding v.work) word f) v.glance
        (account (range_at_start v.start) s (Some f)) (w turn swapped, carried)
    swapped_tells e is = subst (λ (z : Work). Stepped (as_swapped e (name_in word - 1) (v, carried)) ([] ▷ Release f ▷ take) z v.glance
        (account (range_at_start v.start) s (Some f)) (w turn swapped, carried)) (sym (leaves_so turn s inside f n its holds_it names_it so))
        (moved_tells turn s inside (Some f) there counted so.alike round take_h ends off m stocked carried ([] ▷ Release f ▷ take)
        (own_part turn s inside f n its holds_it names_it take) e is)

    abbrev Swaps : (old_word : ℕ) → ℕ → Type 0
    Swaps old_word y = Made turn carried (slot_place s) (λ _. y) (SwapsHeld (step slots (slot_place s) old_word (empty_word_of m) none) (v, carried))

    pub swaps_held : (old_word : ℕ) → word ≡ old_word → Swaps old_word (empty_word_of m)
    swaps_held old_word is = (
      w turn swapped,
      keeps,
      tt,
      moved_agrees turn s inside (Some f) there counted so.alike round take_h ends off m stocked,
      record {
        wins = λ g node k e works' at makes _. let same : f ≡ g = same_file works' in let its_own : m ≡ k = omega (arith, makes) in
            rw (← same, slot_back s) (
              own_hold turn s inside f n its holds_it names_it so,
              by_number,
              names_a_node turn inside,
              swapped_tells e (at ∙ ap some (sym its_own)),
              refl,
            );
        loses = λ other. absurd (other is);
      },
    )

-- a pass that holds a file alone may remove it so
module _ (turn : Turn) (s : ℕ) (inside : s < slots_of turn.v.start) (f : File) (n : ℕ) (holds : HoldsAlone turn.v.work f n)
    (names_it : full_name_in (found turn s inside) ≡ n + 1) where
  open turn use {st, v, r, id, x, here, one}

  pub its_file : HoldsAt v.start r.phase f n
  its_file = ⊎_elim (λ is. subst (WorkAgrees v.start r.phase id) is (its_work turn)) (λ is. subst (WorkAgrees v.start r.phase id) is (its_work turn)) holds

  pub its_calm : busy v.work ≡ 0
  its_calm = ⊎_elim (λ is. ap busy is) (λ is. ap busy is) holds

  abbrev pub Held : Type 0
  Held = (guards : Bool) × (counted : ℕ) × (round : Round) × IsHeld turn s inside f n its_file (held_alone holds) names_it guards counted round

  pub held_so : Held
  held_so = let o = its_log turn in ⊎_elim
      (λ (is : v.work ≡ Counted f n). (
        false,
        found turn s inside - 1,
        new_round (first_visit v.start.passes (found turn s inside - 1)),
        by_take turn s inside f n its_file (held_alone holds) names_it (ap (taking n) is ∙ bit_here n n refl) (ap is_guarding is)
            (λ m other. ap (taking m) is ∙ bit_else m n (λ e. other (sym e))) (let h = rw is at o.hold in (h.0, h.1)),
      ))
      (λ (is : v.work ≡ Guarded f n). (
        true,
        found turn s inside,
        guarded_round,
        by_guard turn s inside f n its_file (held_alone holds) names_it (ap is_guarding is) (λ m. ap (taking m) is)
            (subst (HoldAgrees (word_at st.words (hold_word_of v.start x.number)) (r.debt x.number)) is o.hold)
            (subst (GuardAgrees (slot_word st.words) r.phase x.number (r.debt x.number)) is o.guarded)
            (subst (IsAllowed x.stock x.listed) is o.allowed),
      )) holds

pub swaps_held_keep : SwapsHeldKeep SwapsHeld
swaps_held_keep k slots id i s n old new node f m x has works named inside off stocked place made = rw made (by_exchange slots s
    (λ k. (s < slots_of k) × IsOffCount k s m.0.change) (λ st r its. its.0) old (empty_word_of n) SwapsHeld
    (λ seen found other sees. record { wins = λ g node k e works at makes is. absurd (other is); loses = λ _. sees }) has (inside, off) place
    (λ st r here is same. let turn = turn_of m x has.1 id st r here in
    let name = ap full_name_in same ∙ named in let h = held_so turn s is.0 f node works name in
    swaps_held turn s is.0 f node (its_file turn s is.0 f node works name) (held_alone works) name (its_calm turn s is.0 f node works name) is.1 h.0 h.1 h.2 h.3
    slots m.1 n stocked old same))

pub takes_held_keep : TakesHeldKeep TakesHeld
takes_held_keep k slots id i s old new node f m x has works named inside off place made = rw made (by_exchange slots s
    (λ k. (s < slots_of k) × IsOffCount k s m.0.change) (λ st r its. its.0) old (without_file old) TakesHeld
    (λ seen found other sees. record { wins = λ g node works is. absurd (other is); loses = λ _. sees }) has (inside, off) place
    (λ st r here is same. let turn = turn_of m x has.1 id st r here in
    let name = ap full_name_in same ∙ named in let h = held_so turn s is.0 f node works name in
    takes_held turn s is.0 f node (its_file turn s is.0 f node works name) (held_alone works) name (its_calm turn s is.0 f node works name) is.1 h.0 h.1 h.2 h.3
    slots m.1 old same))
