use Rattle.fx_lasting.proofs.WholeHistory.{user_is}
use Rattle.fx_lasting.proofs.laws.removed_files_have_users.Goals as goal

pub returns : goal.returns
returns c = user_is
