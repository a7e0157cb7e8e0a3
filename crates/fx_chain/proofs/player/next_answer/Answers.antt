use Rattle.fx_chain.proofs.Words.{rules}
use Rattle.fx_chain.proofs.ActsInTurn.{so_nothing}
use Rattle.fx_chain.proofs.player.next_answer.Goals as goal

pub returns-then-severed-clause-answered : goal.returns-then-severed-clause-answered
returns-then-severed-clause-answered g c =
    search (rules, so_nothing, (g.met.T.FileTable g.world.𝓛 g.world.𝓜 g.world.𝓡 ((λ s x. x), (λ x. x), (λ x. x), λ x. x)).fronts)
