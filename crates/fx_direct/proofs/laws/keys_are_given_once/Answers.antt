use Rattle.fx_direct.proofs.Counting.{keys_are_given_once}
use Rattle.fx_direct.proofs.laws.keys_are_given_once.Goals as goal

pub returns : goal.returns
returns c = keys_are_given_once
