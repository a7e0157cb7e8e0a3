use Rattle.check_lines.proofs.{Decides-eqb, rules, strip_prefix_is}
use Rattle.check_lines.proofs.report_lines.rest_after.Goals as goal

pub returns : goal.returns
returns c =
    let is = strip_prefix_is Decides-eqb c.args.text.now c.args.expected.now c.strip_prefix.result c.strip_prefix.ensures.cases in
    search rules
