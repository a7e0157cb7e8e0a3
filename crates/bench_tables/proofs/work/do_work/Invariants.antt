use Rattle.std.proofs.Common.{◌≤◌, vec_capacity}
use Rattle.fx_table.specs.Pass.{IsIdle}
use Rattle.bench_tables.specs.declared.shared.TheConstants.{READ_LEN}
use Rattle.bench_tables.proofs.work.do_work.Given as goal

abbrev pub invariant-loop-i : goal.invariant-loop-i
invariant-loop-i g l = record {
  ready : g.T.FileTable.fits l.table l.pass × IsIdle (g.T.FileTable.view l.pass);
  room : READ_LEN ≤ vec_capacity l.into;
}
