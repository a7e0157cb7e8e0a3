use Rattle.fx_direct.proofs.Lives.{each_close_is_asked_for_once}
use Rattle.fx_direct.proofs.laws.each_close_is_asked_for_once.Goals as goal

pub returns : goal.returns
returns c = each_close_is_asked_for_once
