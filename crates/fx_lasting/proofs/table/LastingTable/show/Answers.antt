use Rattle.fx_lasting.proofs.table.LastingTable.show.Goals as goal
use Rattle.fx_lasting.proofs.Words.{seats_show}
use Rattle.fx_lasting.proofs.life_lemmas.Openings.{laws}
use Rattle.fx_lasting.proofs.life_lemmas.Seats.{is_rule}

pub show-requires-clause-table : goal.show-requires-clause-table
show-requires-clause-table c = c.requires.fits.seated.table

pub show-requires-clause-may : goal.show-requires-clause-may
show-requires-clause-may c = seats_show is_rule laws _ _ _ c.requires.fits.seated.at.pass.1
