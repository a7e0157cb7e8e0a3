use Rattle.fx_counted.proofs.{refl, arith, begins_keep}
use Rattle.fx_counted.proofs.table.CountedTable.begin.Goals as goal

pub fetch_add-requires : goal.fetch_add-requires
fetch_add-requires c = (
  c.requires.table,
  omega (arith, c.args.self.now.words),
  rw c.begin_amount.ensures (begins_keep _ _ _ _ c.args.seat.now.me _ c.requires.seated.pass c.requires.change refl),
)
