use Rattle.fx_lasting.proofs.{length, seats, IsIdleSeatOf, IsGathering}
use Rattle.fx_lasting.proofs.table.LastingTable.gather.Given as goal

abbrev pub invariant-loop-pass : goal.invariant-loop-pass
invariant-loop-pass l =
    IsGathering seats (IsIdleSeatOf l.self) (λ p. p.seat) l.initial.seat l.seat l.initial.passes.items l.passes.items

abbrev pub decreases-loop-pass : goal.decreases-loop-pass
decreases-loop-pass l = length l.passes.items
