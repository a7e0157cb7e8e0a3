use Rattle.fx_plain.proofs.Words.{ℕ, ◌<◌, ◌≤◌, IsSome, slot_at}
use Rattle.fx_plain.proofs.table.PlainTable.free_slot.Given as goal

-- the slots of the range so far have files
abbrev pub invariant-loop-slot : goal.invariant-loop-slot
invariant-loop-slot l = (u : ℕ) → l.self.range.0 ≤ u → u < l.slot → IsSome (slot_at l.self.slots u)
