use Rattle.fx_table.proofs.Chains.{part_of_drawn}
use Rattle.fx_table.proofs.laws.chain_is_part_of_its_pass.Goals as goal

pub returns : goal.returns
returns c = part_of_drawn
