use Rattle.std.proofs.Common.{◌≡◌, ◌+◌}
use Rattle.fx_table.specs.Pass.{IsIdle}
use Rattle.example_library.proofs.tasks.open_until_full.Given as goal

abbrev pub invariant-loop-opened : goal.invariant-loop-opened
invariant-loop-opened g l = g.T.FileTable.fits l.table l.pass × IsIdle (g.T.FileTable.view l.pass)
    × ((g.T.FileTable.view l.pass).numbers_left + l.opened ≡ l.left)
