use Rattle.fx_plain.proofs.Words.{arith}
use Rattle.fx_plain.proofs.Removals.{seen_at}
use Rattle.fx_plain.proofs.Holding.{look_steps, few_held}
use Rattle.fx_plain.proofs.table.PlainTable.look.Goals as goal

pub overflow_add-self : goal.overflow_add-self
overflow_add-self c = omega (arith, few_held c.self.invariant.0.0 c.self.invariant.0.1)

pub returns-clause-step : goal.returns-clause-step
returns-clause-step c = grind (arith, seen_at, look_steps)
