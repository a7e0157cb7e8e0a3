use Rattle.check_outcomes.proofs.First.{each_outcome_is_listed}
use Rattle.check_outcomes.proofs.laws.each_outcome_is_listed.Goals as goal

pub returns : goal.returns
returns c = each_outcome_is_listed
