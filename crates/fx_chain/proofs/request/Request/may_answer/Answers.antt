use Rattle.fx_chain.proofs.Words.{ap, ◌∙◌, operation_of, may_answer}
use Rattle.fx_chain.proofs.MayAnswer.{table_may_answer}
use Rattle.fx_chain.proofs.request.Request.may_answer.Goals as goal

pub returns-clause-all : goal.returns-clause-all
returns-clause-all c = λ catalogue place found is. let operation = operation_of c.args.self.now.op in
    c.fits.ensures ∙ (ap (may_answer operation) is ∙ table_may_answer catalogue place operation found)
