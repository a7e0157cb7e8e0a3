use Rattle.fx_chain.proofs.OtherNumbers.{explains}
use Rattle.fx_chain.proofs.laws.chains_answer_by_any_numbers.Goals as goal

pub returns : goal.returns
returns c = λ r catalogue size place requests. explains r catalogue size requests place
