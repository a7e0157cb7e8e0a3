use Rattle.fx_table.specs.Pass.{IsIdle}
use Rattle.example_library.proofs.tasks.work.Given as goal

abbrev pub invariant-loop : goal.invariant-loop
invariant-loop g l = g.T.FileTable.fits l.table l.pass × IsIdle (g.T.FileTable.view l.pass)
