use Rattle.fx_lasting.proofs.node_lemmas.KeptNodes.{resumes_keep}
use Rattle.fx_lasting.proofs.laws.resume_keeps_rule.Goals as goal

pub returns : goal.returns
returns c = resumes_keep
