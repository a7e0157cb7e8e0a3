use Rattle.fx_lasting.specs.Tables.{IsPassOfTable, view_of}
use Rattle.fx_table.specs.Pass.{IsIdle}
use Rattle.example_library.proofs.lasting.work.Given as goal

abbrev pub invariant-loop : goal.invariant-loop
invariant-loop l = IsPassOfTable l.table l.pass × IsIdle (view_of l.pass)
