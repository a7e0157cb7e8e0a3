use Rattle.fx_chain.proofs.Words.{◌≡◌, Some, rules, size_of, operation_of, refusal_of}
use Rattle.fx_chain.proofs.ActsInTurn.{so_nothing}
use Rattle.fx_chain.proofs.steps.answer.Goals as goal

pub returns-in-Some-clause-performed : goal.returns-in-Some-clause-performed
returns-in-Some-clause-performed g c =
    let seen = (g.met.T.FileTable g.world.𝓛 g.world.𝓜 g.world.𝓡 ((λ s x. x), (λ x. x), (λ x. x), λ x. x)).fronts _ _ c.requires.ready.0 in
    let refused : refusal_of c.args.context.now.catalogue.now (size_of (g.T.FileTable.opening c.args.context.now.table.now))
    (operation_of c.args.request.now.op) ≡ Some c.in-Some.errno = search rules in
    so_nothing _ seen c.requires.ready.1 (rw refused (search rules))
