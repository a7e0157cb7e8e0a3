use Rattle.fx_plain.proofs.Words.{rules, sym, ◌∙◌, arith}
use Rattle.fx_plain.proofs.Holding.{let_go_counted, let_go_releases, more_releases, open_releases}
use Rattle.fx_plain.proofs.table.PlainTable.release.Goals as goal

pub invariant_of-self-2 : goal.invariant_of-self-2
invariant_of-self-2 c =
    let closed = sym c.is_retired.ensures ∙ c.if-not-is_retired.false in
    let kept = let_go_counted c.args.number c.self.invariant.0.0 (search rules) (omega arith) closed c.self.invariant.0.1 in
    (rw (c.end_hold-left.ensures.after, c.take_file.ensures.after) kept, c.self.invariant.1)

pub returns : goal.returns
returns c =
    let closed = sym c.is_retired.ensures ∙ c.if-not-is_retired.false in
    rw (sym c.self.view_is, c.end_hold-left.ensures.after, c.take_file.ensures.after)
    (let_go_releases c.args.number c.self.invariant.0.0 (search rules) (omega arith) closed c.take_file.ensures.answer)

pub returns-then-left-ne0 : goal.returns-then-left-ne0
returns-then-left-ne0 c = rw (sym c.self.view_is, c.end_hold-left.ensures.after)
    (more_releases c.args.number c.self.invariant.0.0 (search rules) c.end_hold-left.ensures.left c.if-left-ne0.true)

pub returns-then-not-is_retired : goal.returns-then-not-is_retired
returns-then-not-is_retired c = rw (sym c.self.view_is, c.end_hold-left.ensures.after)
    (open_releases c.args.number c.self.invariant.0.0 (search rules) (sym c.is_retired.ensures ∙ c.if-not-is_retired.true))
