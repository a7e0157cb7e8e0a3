-- A removal by an exchange of names keeps the rule: the slot's word names a node of the pass's
-- stock, and the node that it named takes that node's place.
use Rattle.fx_lasting.proofs.{◌≡◌, ℕ, ◌-◌, ◌<◌, List, [], ◌∷◌, sym, refl, ap, ◌∙◌, arith, Option, none, some, keeps, get_elem?, Closed, File, Take}
use Rattle.fx_lasting.proofs.{◌▷◌, pass_event, Agrees, slots_of, slot_place, Stepped, IsOffCount, account, range_at_start, step, retiring_work}
use Rattle.fx_lasting.proofs.{HasNoFile, IsInStock, as_swapped, first_log, name_in, empty_word_of, SwapsOut, SwapsOutKeep, part_mine, Turn, turn_of}
use Rattle.fx_lasting.proofs.{After, Made, by_turn, w, end, slot_back}
use Rattle.fx_lasting.proofs.node_lemmas.StockMoves.{names_a_node}
use Rattle.fx_lasting.proofs.slot_lemmas.Swaps.{found, found_so}
use Rattle.fx_lasting.proofs.slot_lemmas.Emptying.{moved, moved_agrees, moved_tells}
use Rattle.fx_lasting.proofs.slot_lemmas.SlotLaws.{old, its_round, ends}

module _ (turn : Turn) (s : ℕ) (inside : s < slots_of turn.v.start)
    (free_of : HasNoFile turn.v.work) (off : IsOffCount turn.v.start s turn.v.change) (n : ℕ) (stocked : IsInStock turn.x.stock n) where
  open turn use {st, v, r, id, x, here, one}

  abbrev was_there : Option File
  was_there = old turn s inside free_of off

  abbrev left : ℕ
  left = empty_word_of n

  abbrev pub removal : After turn
  removal = moved turn s inside was_there refl (found turn s inside) (refl, refl) (its_round turn s inside free_of off)
      (pass_event x (Take s was_there) ∷ r.history) (ends turn s inside free_of off) off n stocked

  pub removal_agrees : Agrees v.start (end turn removal)
  removal_agrees = moved_agrees turn s inside was_there refl (found turn s inside) (refl, refl) (its_round turn s inside free_of off)
      (pass_event x (Take s was_there) ∷ r.history) (ends turn s inside free_of off) off n stocked

  pub removal_tells : (carried : List (ℕ × Option Closed)) (e : ℕ) → get_elem? (first_log v.logs).stock e ≡ some n
      → Stepped (as_swapped e (name_in (found turn s inside) - 1) (v, carried)) ([] ▷ Take s was_there) (retiring_work v.start (found turn s inside) was_there)
      v.glance (account (range_at_start v.start) s was_there) (w turn removal, carried)
  removal_tells carried = moved_tells turn s inside was_there refl (found turn s inside) (refl, refl) (its_round turn s inside free_of off)
      (pass_event x (Take s was_there) ∷ r.history) (ends turn s inside free_of off) off n stocked carried ([] ▷ Take s was_there) (part_mine r.history refl)

  pub removal_made : (slots : ℕ) (carried : List (ℕ × Option Closed))
      → Made turn carried (slot_place s) (λ _. left) (SwapsOut (step slots (slot_place s) left 0 none) (v, carried))
  removal_made slots carried = (
    w turn removal,
    keeps,
    tt,
    removal_agrees,
    record {
      file = was_there;
      names = found_so turn s inside was_there refl;
      named = names_a_node turn inside;
      stepped = λ m e at makes. let same : n ≡ m = omega (arith, makes) in rw (slot_back s) (removal_tells carried e (at ∙ ap some (sym same)));
      carried = refl;
    },
  )

pub swap_takes_keep : SwapsOutKeep SwapsOut
swap_takes_keep k slots id i s n new m x has works inside off stocked place made = rw made (by_turn slots
    (λ k. (s < slots_of k) × IsOffCount k s m.0.change) (λ _. slot_place s) (λ _. empty_word_of n)
    (λ i. SwapsOut (step slots i (empty_word_of n) 0 none) m) has (inside, off) place
    (λ st r here is fits. removal_made (turn_of m x has.1 id st r here) s is.0 works is.1 n stocked slots m.1))
