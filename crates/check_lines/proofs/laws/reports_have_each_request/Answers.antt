use Rattle.check_lines.proofs.{each_request}
use Rattle.check_lines.proofs.laws.reports_have_each_request.Goals as goal

pub returns : goal.returns
returns c = each_request
