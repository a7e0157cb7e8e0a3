use Rattle.check_flight.proofs.{◌≡◌, ℕ, ◌<◌, slice_index_or, HeldFile}
use Rattle.check_flight.proofs.player.is_held.Given as goal

abbrev pub invariant-loop-hold : goal.invariant-loop-hold
invariant-loop-hold l = (k : ℕ) (d : HeldFile) → k < l.hold-index → (slice_index_or l.holds k d).file ≡ l.file → ⊥
