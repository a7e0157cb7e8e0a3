use Rattle.fx_lasting.proofs.{arith}
use Rattle.fx_lasting.proofs.range_lemmas.Trying.{in_range}
use Rattle.fx_lasting.proofs.table.LastingTable.first_slot.Goals as goal

pub returns-then-from-self : goal.returns-then-from-self
returns-then-from-self c = in_range c.args.self.now c.args.from (omega (arith, c.if-self-from.true)) (omega (arith, c.if-from-self.true))
