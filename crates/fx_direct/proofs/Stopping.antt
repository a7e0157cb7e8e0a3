-- After a stop no life is left.
use Rattle.fx_direct.proofs.Words.{Transition, LifeKey, Phase, Slot, Ending, slot_numbered, phase_at, users_in, calls_in, lives_in, is_live, key_concerned, life_at}
use Rattle.fx_direct.proofs.Words.{common_steps, arith, ◌≡◌, ◌≢◌, ℕ, ◌&&◌, Bool, true, false, List, [], ◌∷◌, refl, sym, ap, ◌∙◌, subst}
use Rattle.fx_direct.proofs.Words.{FitsPhase, phase_after, get_or-set_same, get_or-set_other, unused, DirectMachine, machine_with}
use Rattle.fx_direct.proofs.Words.{becomes_live, when_ended, unless_live}
use Rattle.fx_direct.specs.Counts.{times, ends}
use Rattle.fx_direct.specs.Lives.{NoCloseIsDue, IsMachineRun, AStopLeavesNothing}
use Rattle.fx_direct.proofs.Asking.{phase_left, is_begun}
use Rattle.fx_direct.proofs.Counting.{IsProper, proper_after, possible, phase_here, number_before, no_ends, two_slots}
use Rattle.fx_direct.proofs.Calls.{not_true}
use Rattle.fx_direct.proofs.Lives.{Leaves, call_leaves, not_due}
use Rattle.fx_direct.proofs.Sums.{none_of_all, each_none}
use Rattle.fx_direct.proofs.Moves.{by_slot}
use Rattle.fx_direct.proofs.Turns.{within}

-- each chain is one, and no close is due
record Settled (m : DirectMachine) : Type 0 where
  proper : (s : ℕ) → IsProper (phase_at m.list s)
  due : NoCloseIsDue m.list

-- the life of this number was live at the stop, and wasn't ended since
abbrev Stays : List Slot → List Transition → ℕ → ℕ → Type 0
Stays stops h s number =
    (is_live (phase_at stops s) ≡ true) × ((slot_numbered stops s).number ≡ number) × (times (ends (record { slot = s; number = number })) h ≡ 0)

abbrev Remains : List Slot → List Transition → List Slot → Type 0
Remains stops h now = (s : ℕ) → is_live (phase_at now s) ≡ true → Stays stops h s (slot_numbered now s).number

proper_unless : (b : Bool) (p : Phase) → (b ≡ true → is_live p ≡ true) → IsProper p → IsProper (unless_live b p)
proper_unless b p live proper = grind arith

proper_left : (b : Bool) (t : Transition) (p : Phase) → FitsPhase t p → IsProper p → IsProper (phase_left b t p)
proper_left b t p may proper = proper_unless (becomes_live t p && b) (phase_after t p) (is_begun t p b) (proper_after t p may proper)

ended_unlive : (p : Phase) → is_live (when_ended p) ≡ false
ended_unlive p = grind arith

-- a call and its slot
module _ (old new : DirectMachine) (t : Transition) (leaves : Leaves old t new) where
  abbrev k : LifeKey
  k = key_concerned t

  abbrev p : Phase
  p = phase_at old.list k.slot

  here : slot_numbered new.list k.slot ≡ record { number = k.number; phase = leaves.phase }
  here = ap (λ (xs : List Slot). slot_numbered xs k.slot) leaves.list ∙ get_or-set_same old.list k.slot _ unused (within old.list t leaves.can)

  away : (s : ℕ) → s ≢ k.slot → slot_numbered new.list s ≡ slot_numbered old.list s
  away s ne = ap (λ (xs : List Slot). slot_numbered xs s) leaves.list ∙ get_or-set_other old.list k.slot s _ unused ne

  settled : Settled old → Settled new
  settled was = grind (arith, common_steps, here, proper_left, possible, away, not_due)

  -- a life that is live after a call was so before
  was_live : old.stopped ≡ true → is_live leaves.phase ≡ true
      → (is_live p ≡ true) × ((slot_numbered old.list k.slot).number ≡ k.number) × ((j : LifeKey) → ends j t ≡ 0)
  was_live stopped live = grind (arith, number_before, possible)

  remains : (stops : List Slot) (h : List Transition) → old.stopped ≡ true → Remains stops h old.list → Remains stops (t ∷ h) new.list
  remains stops h stopped was = by_slot _ k.slot
      (grind (arith, here, was_live))
      (λ s ne. subst (λ (x : Slot). is_live x.phase ≡ true → Stays stops (t ∷ h) s x.number) (sym (away s ne)) (λ live. let r = was s live in
      (r.0, r.1, omega (arith, r.2, no_ends (life_at old.list s) t (two_slots k (life_at old.list s) (λ (q : k.slot ≡ s). ne (sym q)))))))

by_run : (start m : DirectMachine) (h : List Transition) → IsMachineRun start h m → Settled start → Settled m
by_run start m [] run was = subst Settled (sym run) was
by_run start m (t ∷ h) run was = settled run.0 m t (call_leaves run.0 m t run.2) (by_run start run.0 h run.1 was)

stays_stopped : (start m : DirectMachine) (h : List Transition) → IsMachineRun start h m → m.stopped ≡ start.stopped
stays_stopped start m [] run = ap (λ (x : DirectMachine). x.stopped) run
stays_stopped start m (t ∷ h) run = (call_leaves run.0 m t run.2).same ∙ stays_stopped start run.0 h run.1

remains_by_run : (start m : DirectMachine) (h : List Transition) → start.stopped ≡ true → IsMachineRun start h m → Remains start.list h m.list
remains_by_run start m [] stopped run = subst (λ (x : DirectMachine). Remains start.list [] x.list) (sym run) (λ s live. (live, refl, refl))
remains_by_run start m (t ∷ h) stopped run =
    remains run.0 m t (call_leaves run.0 m t run.2) start.list h (stays_stopped start run.0 h run.1 ∙ stopped) (remains_by_run start run.0 h stopped run.1)

over_one : (p : Phase) → IsProper p → (p ≡ Ending 0 0 → ⊥) → calls_in p ≡ 0 → users_in p ≡ 0 → is_live p ≡ false → lives_in p ≡ 0
over_one p proper due calls users live = grind arith

pub a_stop_leaves_nothing : AStopLeavesNothing
a_stop_leaves_nothing start stops end earlier later free before after ended calls users =
    let begun : Settled start = record { proper = λ s. subst IsProper (sym (free s)) tt; due = λ s e. let f = free s in cc } in
    let at_stop = by_run start stops earlier before begun in
    let at_end = by_run (machine_with stops.list stops.range true) end later after (record { proper = at_stop.proper; due = at_stop.due }) in
    let left = remains_by_run (machine_with stops.list stops.range true) end later refl after in
    none_of_all (λ (x : Slot). lives_in x.phase) end.list (λ s.
    over_one (phase_at end.list s) (at_end.proper s) (at_end.due s) (each_none (λ (x : Slot). calls_in x.phase) end.list s refl calls) (users s)
    (not_true (is_live (phase_at end.list s)) (λ live.
    let r = left s live in let some_end = ended (life_at end.list s) (ap is_live (phase_here stops.list (life_at end.list s) r.1) ∙ r.0) in let none = r.2 in omega arith)))
