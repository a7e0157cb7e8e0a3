use Rattle.fx_direct.proofs.Words.{ℕ, ◌≤◌, ◌<◌, ◌-◌, length, IsNamed}
use Rattle.fx_direct.proofs.slot_list.SlotList.key_in.Given as goal

abbrev pub invariant-loop-slot : goal.invariant-loop-slot
invariant-loop-slot l = record {
  above : l.fn.from ≤ l.slot;
  passed : (other : ℕ) → l.fn.from ≤ other → other < l.slot → IsNamed l.self-inside.slots.items l.fn.name other → ⊥;
}

abbrev pub decreases-loop-slot : goal.decreases-loop-slot
decreases-loop-slot l = length l.self-inside.slots.items - l.slot
