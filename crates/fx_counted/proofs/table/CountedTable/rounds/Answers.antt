use Rattle.fx_counted.proofs.Words.{◌∙◌}
use Rattle.fx_counted.proofs.Showing.{still_then, allocated_then, full_then}
use Rattle.fx_counted.proofs.table.CountedTable.rounds.Goals as goal

pub returns-in-At-clause-found : goal.returns-in-At-clause-found
returns-in-At-clause-found g c = allocated_then c.loop.invariant.still (rw c.in-At.is at c.round.ensures.ends).1

pub returns-in-AllFull-clause-full : goal.returns-in-AllFull-clause-full
returns-in-AllFull-clause-full g c none = full_then c.loop.invariant.still (rw c.in-AllFull.is at c.round.ensures.ends)

pub loop-preserved : goal.loop-preserved
loop-preserved g c = record {
  table = c.round.ensures.table ∙ c.loop.invariant.table;
  still = still_then c.loop.invariant.still (rw c.in-Again.is at c.round.ensures.ends);
  can = tt;
  ends = tt;
}
