use Rattle.check_lines.proofs.{drop, ◌∙◌, ap, sym, arith, decimal, parts_are, decimal_without}
use Rattle.check_lines.proofs.report_lines.number_before.Goals as goal

pub returns : goal.returns
returns c = λ n rest small here same.
    let parts = parts_are c.cut.ensures (decimal n) rest (decimal_without c.args.at n c.requires (omega arith)) here same in
    (c.number.ensures.parsed n (omega arith) (sym parts.0), ap (drop 1) parts.1 ∙ sym c.behind_first.ensures)
