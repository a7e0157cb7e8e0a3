use Rattle.fx_plain.specs.State.{IsSettled}
use Rattle.fx_plain.specs.Contents.{state_of}
use Rattle.bench_tables.proofs.refusals.tables.open.Given as goal

abbrev pub invariant-loop : goal.invariant-loop
invariant-loop g l = IsSettled (state_of l.plain)
