use Rattle.check_lines.proofs.{arith, ◌∙◌, ap, unwrap_or, at_most, number_is}
use Rattle.check_lines.proofs.report_lines.number.Goals as goal

pub returns : goal.returns
returns c =
    let is = c.unwrap_or.ensures ∙ ap (λ o. unwrap_or o 0) c.number_up_to.ensures in
    record { most = rw is (at_most c.args.largest c.args.word.now); parsed = number_is {largest = c.args.largest} is (omega arith) }
