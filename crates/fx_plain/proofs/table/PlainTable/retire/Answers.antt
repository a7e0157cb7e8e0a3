use Rattle.fx_plain.proofs.Words.{rules, Gone, sym, ◌∙◌, the_view}
use Rattle.fx_plain.proofs.Cells.{leaving-nodes}
use Rattle.fx_plain.proofs.Holding.{node_inside, retires, retire_closes, retire_waits, retire_close_keeps, retire_wait_keeps}
use Rattle.fx_plain.proofs.table.PlainTable.retire.Goals as goal
use Rattle.std.proofs.Common.{arith}

pub invariant_of-self : goal.invariant_of-self
invariant_of-self c =
    (rw c.take_file.ensures.after (retire_close_keeps c.args.number c.self.invariant.0.0 (search rules) c.self.invariant.0.1), c.self.invariant.1)

pub returns-then-of-eq0-clause-steps : goal.returns-then-of-eq0-clause-steps
returns-then-of-eq0-clause-steps c = grind (arith, retire_closes)

pub returns-then-of-eq0-clause-leaving : goal.returns-then-of-eq0-clause-leaving
returns-then-of-eq0-clause-leaving c = rw (sym c.self.view_is, c.take_file.ensures.after)
    (leaving-nodes (the_view c.self.inside) Gone (node_inside c.args.number c.self.invariant.0.0 (search rules)))

pub invariant_of-self-2 : goal.invariant_of-self-2
invariant_of-self-2 c = (
  rw (c.retire.ensures, retires c.args.number c.self.invariant.0.0 (search rules)) (retire_wait_keeps c.args.number c.self.invariant.0.0
      (search rules) c.self.invariant.0.1 (λ is. c.if-of-eq0.false (c.of.ensures ∙ is))),
  c.self.invariant.1,
)

pub returns-clause-steps : goal.returns-clause-steps
returns-clause-steps c = rw (sym c.self.view_is, c.retire.ensures, retires c.args.number c.self.invariant.0.0 (search rules))
    (retire_waits c.args.number c.self.invariant.0.0 (search rules) (λ is. c.if-of-eq0.false (c.of.ensures ∙ is)))

pub returns-clause-leaving : goal.returns-clause-leaving
returns-clause-leaving c = rw (sym c.self.view_is, c.retire.ensures, retires c.args.number c.self.invariant.0.0 (search rules))
    (leaving-nodes (the_view c.self.inside) _ (node_inside c.args.number c.self.invariant.0.0 (search rules)))

pub returns-then-of-eq0-clause-sound : goal.returns-then-of-eq0-clause-sound
returns-then-of-eq0-clause-sound c = (invariant_of-self c).0.0

pub returns-clause-sound : goal.returns-clause-sound
returns-clause-sound c = (invariant_of-self-2 c).0.0
