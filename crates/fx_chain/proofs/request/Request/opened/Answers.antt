use Rattle.fx_chain.proofs.Words.{sym}
use Rattle.fx_chain.proofs.MayAnswer.{found_named}
use Rattle.fx_chain.proofs.request.Request.opened.Goals as goal

pub returns-in-Open-clause-exact : goal.returns-in-Open-clause-exact
returns-in-Open-clause-exact c = λ is. rw (c.in-Open.is, sym c.deref.ensures)
    (found_named c.args.catalogue.now c.deref.result.now c.find.result is c.find.ensures.found c.find.ensures.variant)
