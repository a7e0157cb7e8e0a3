use Rattle.check_judge.proofs.{◌≡◌, ℕ, ◌<◌, None, Some, slice_index_or, Closed, IsFileInRange, ring_with_slots, IsOfRing}
use Rattle.check_judge.proofs.kept.are_of_ring.Given as goal

-- each file that was looked at may be there
abbrev pub invariant-loop-slot : goal.invariant-loop-slot
invariant-loop-slot l = (k : ℕ) (f : Closed) → k < l.slot → slice_index_or l.at k None ≡ Some f
    → IsOfRing (ring_with_slots l.catalogue l.ring) f × IsFileInRange f
