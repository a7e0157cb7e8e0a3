use Rattle.fx_chain.proofs.Words.{refl}
use Rattle.fx_chain.proofs.ActsInTurn.{so_nothing}
use Rattle.fx_chain.proofs.removal.retire.Goals as goal

pub returns-in_default-clause-retired : goal.returns-in_default-clause-retired
returns-in_default-clause-retired g c =
    let seen = (g.met.T.FileTable g.world.𝓛 g.world.𝓜 g.world.𝓡 ((λ s x. x), (λ x. x), (λ x. x), λ x. x)).fronts _ _ c.requires.fits in
    rw c.in_default.is (so_nothing _ seen (rw c.in_default.is at c.requires.removed) refl)
