use Rattle.fx_ring.proofs.Words.{◌+◌, length, state_of, tags_for, AreFresh}
use Rattle.fx_ring.proofs.ListSteps.{IsApplied}
use Rattle.fx_ring.proofs.list.apply_list.Given as goal

abbrev pub invariant-loop-i : goal.invariant-loop-i
invariant-loop-i l = record {
  applied : IsApplied l.numbers.k l.numbers.off l.numbers.list.now (tags_for l.numbers.list.now l.numbers.tags)
      (state_of l.fn.table) (state_of l.table) l.fn.closes l.closes l.i;
  fresh : AreFresh (state_of l.table) (l.first + l.i) (l.first + length l.numbers.list.now);
}
