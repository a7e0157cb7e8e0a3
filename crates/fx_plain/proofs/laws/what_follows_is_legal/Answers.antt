use Rattle.fx_plain.proofs.Leading.{legal_behind}
use Rattle.fx_plain.proofs.laws.what_follows_is_legal.Goals as goal

pub returns : goal.returns
returns c = legal_behind
