use Rattle.fx_chain.proofs.Words.{ℕ, Option, Some, None, refl, Put, one_number, Opening, PassView, Retired, File, PlacedFile}
use Rattle.fx_chain.proofs.ActsInTurn.{Removed, removes}
use Rattle.fx_chain.proofs.removal.put.Goals as goal

placed : (o : Opening) (v w : PassView) (slot : ℕ) (new : File) (removed : Option Retired) → PlacedFile o v slot new removed w
    → Removed o v (Put slot new) one_number removed w
placed o v w slot new None adds = adds
placed o v w slot new (Some x) (f, value, adds) = (f, adds)

pub returns-clause-removed : goal.returns-clause-removed
returns-clause-removed g c =
    let (new, its, adds) = c.put-removed.ensures.placed in
    let (r, is, does) = removes _ (Put c.args.slot new) one_number _ (λ r. refl) (placed _ _ _ _ new _ adds) c.retire.ensures.retired in
    (new, r, its.identity, does)
