use Rattle.fx_table.proofs.Chains.{one_pass_of_chain}
use Rattle.fx_table.proofs.laws.chain_has_one_pass.Goals as goal

pub returns : goal.returns
returns c = one_pass_of_chain
