use Rattle.fx_counted.proofs.Showing.{may_show}
use Rattle.fx_counted.proofs.shown.CountedTableRealTime.show.Goals as goal

pub show-requires-clause-table : goal.show-requires-clause-table
show-requires-clause-table c = c.requires.fits.table

pub show-requires-clause-may : goal.show-requires-clause-may
show-requires-clause-may c = may_show _ _ _ c.requires.fits.seated.one
