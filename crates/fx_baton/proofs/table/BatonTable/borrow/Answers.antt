use Rattle.fx_baton.proofs.Passing.{has_table}
use Rattle.fx_baton.proofs.table.BatonTable.borrow.Goals as goal

pub returns : goal.returns
returns g c = let f = c.requires in has_table f c.grab.new.seat c.grab.ensures.same.0 (c.grab.ensures.taken f.seated.log f.seated.one)
