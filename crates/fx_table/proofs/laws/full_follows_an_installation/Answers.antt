use Rattle.fx_table.proofs.Finding.{full_follows}
use Rattle.fx_table.proofs.laws.full_follows_an_installation.Goals as goal

pub returns : goal.returns
returns c = full_follows
