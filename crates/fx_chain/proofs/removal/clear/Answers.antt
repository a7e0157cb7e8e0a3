use Rattle.fx_chain.proofs.Words.{ℕ, Option, Some, None, refl, Clear, Cleared, no_use, Opening, PassView, Retired}
use Rattle.fx_chain.proofs.ActsInTurn.{Removed, removes}
use Rattle.fx_chain.proofs.removal.clear.Goals as goal

cleared : (o : Opening) (v w : PassView) (slot : ℕ) (removed : Option Retired) → Cleared o v slot removed w
    → Removed o v (Clear slot) no_use removed w
cleared o v w slot None adds = adds
cleared o v w slot (Some x) (f, value, adds) = (f, adds)

pub returns-clause-removed : goal.returns-clause-removed
returns-clause-removed g c =
    let (r, is, does) = removes _ (Clear c.args.slot) no_use _ (λ r. refl) (cleared _ _ _ _ _ c.clear-removed.ensures.cleared)
    c.retire.ensures.retired in
    (r, does)
