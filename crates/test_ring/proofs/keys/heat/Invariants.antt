use Rattle.fx_lasting.specs.Tables.{IsPassOfTable}
use Rattle.test_ring.proofs.keys.heat.Given as goal

-- the pass is one of the table
abbrev pub invariant-loop : goal.invariant-loop
invariant-loop g l = IsPassOfTable l.table l.pass
