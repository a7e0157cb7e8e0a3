use Rattle.fx_baton.proofs.Words.{subst, arith, Start, IsKept, may_observe}
use Rattle.fx_baton.proofs.Closing.{settles}
use Rattle.fx_table.proofs.FileLemmas.{idle_task}
use Rattle.fx_baton.proofs.calls.BatonTableFileTable.settle.Goals as goal

pub load-requires : goal.load-requires
load-requires c =
    let counts = c.args.self.now.counts in let fits = c.requires.fits in (fits.table, omega arith, may_observe _ _ 0 fits.seated.start)

pub returns-clause-settled : goal.returns-clause-settled
returns-clause-settled c =
    let t = c.args.self.now.table.shared in let f = c.requires in let o = c.load.ensures.2 in
    let r = subst (λ (z : Start). IsKept z o.last) f.fits.seated.start o.rule in
    rw o.same (settles t.table_id t.key c.args.pass.now f.fits (idle_task _ f.idle) f.alone o.last r o.seat o.view)
