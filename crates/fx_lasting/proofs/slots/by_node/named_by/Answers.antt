use Rattle.fx_lasting.proofs.{ℕ, ◌+◌, refl, ap, ◌∙◌, arith, no_name, its_name}
use Rattle.fx_lasting.proofs.slots.by_node.named_by.Goals as goal

pub returns-in-None : goal.returns-in-None
returns-in-None c = no_name c.args.word c.in-None.ensures

pub returns-then-named-node : goal.returns-then-named-node
returns-then-named-node c = (refl, its_name c.args.word c.in-Some.named c.in-Some.ensures ∙ ap (λ (n : ℕ). n + 1) c.if-named-node.true)

pub returns-else-named-node : goal.returns-else-named-node
returns-else-named-node c = let is = its_name c.args.word c.in-Some.named c.in-Some.ensures in let other = c.if-named-node.false in
    ((λ zero. omega (arith, is, zero)), (λ same. other (omega (arith, is, same))))
