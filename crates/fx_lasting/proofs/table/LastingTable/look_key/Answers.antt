use Rattle.fx_lasting.proofs.{arith}
use Rattle.fx_lasting.proofs.table.LastingTable.look_key.Goals as goal

pub returns-then-number-ne0-clause-met : goal.returns-then-number-ne0-clause-met
returns-then-number-ne0-clause-met c = let a = c.look_up-found.ensures.met in let b = c.number_of-number.ensures.met in
    (omega (arith, a.0, b.0), λ s. let x = a.1 s in let y = b.1 s in omega arith)

pub returns-clause-met : goal.returns-clause-met
returns-clause-met c = let a = c.look_up-found.ensures.met in let b = c.number_of-number.ensures.met in let d = c.release-released.ensures.met in
    (omega (arith, a.0, b.0, d.0), λ s. let x = a.1 s in let y = b.1 s in let z = d.1 s in omega arith)
