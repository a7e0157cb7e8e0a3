use Rattle.fx_lasting.proofs.table.LastingTable.renew_cold.Goals as goal

pub renew-renewed-requires-clause-aimed : goal.renew-renewed-requires-clause-aimed
renew-renewed-requires-clause-aimed c = c.requires.cold
