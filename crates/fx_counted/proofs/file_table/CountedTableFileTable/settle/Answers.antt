use Rattle.fx_counted.proofs.Words.{arith, may_observe}
use Rattle.fx_counted.proofs.Seats.{settles}
use Rattle.fx_counted.proofs.file_table.CountedTableFileTable.settle.Goals as goal

pub load-requires : goal.load-requires
load-requires c = let fits = c.requires.fits in (fits.table, omega (arith, c.args.self.now.words), may_observe _ _ _ fits.seated.start)

pub returns-clause-settled : goal.returns-clause-settled
returns-clause-settled c =
    let t = c.args.self.now.table.shared in let o = c.load.ensures.2 in
    rw o.same (settles t.table_id t.key c.args.pass.now c.requires.fits c.requires.idle c.requires.alone
    (rw c.requires.fits.seated.start at o.rule) o.seat o.view)
