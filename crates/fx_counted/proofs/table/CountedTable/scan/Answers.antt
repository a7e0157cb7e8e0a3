use Rattle.fx_counted.proofs.Words.{◌∙◌}
use Rattle.fx_counted.proofs.Showing.{still_then, allocated_then}
use Rattle.fx_counted.proofs.table.CountedTable.scan.Goals as goal

pub returns-then-try_slot-clause-found : goal.returns-then-try_slot-clause-found
returns-then-try_slot-clause-found c = allocated_then c.loop-slot.invariant.still (rw c.if-try_slot.true at c.try_slot.ensures.tries)

pub loop-slot-preserved : goal.loop-slot-preserved
loop-slot-preserved c = record {
  table = c.try_slot.ensures.table ∙ c.loop-slot.invariant.table;
  still = still_then c.loop-slot.invariant.still (rw c.if-try_slot.false at c.try_slot.ensures.tries);
}
