use Rattle.fx_chain.proofs.Words.{◌≡◌, ℕ, Result, Ok, Err, Option, refl, ◌∙◌, Take, Taken, no_use, Opening, PassView, Retired, result_ok}
use Rattle.fx_table.specs.declared.values.Empty.{Empty}
use Rattle.fx_chain.proofs.ActsInTurn.{Removed, removes}
use Rattle.fx_chain.proofs.removal.take.Goals as goal

taken : (o : Opening) (v w : PassView) (slot : ℕ) (result : Result Retired Empty) (removed : Option Retired) → removed ≡ result_ok result
    → Taken o v slot result w → Removed o v (Take slot) no_use removed w
taken o v w slot (Err e) removed is adds = rw is adds
taken o v w slot (Ok x) removed is (f, value, adds) = rw is (f, adds)

pub returns-clause-removed : goal.returns-clause-removed
returns-clause-removed g c =
    let (r, is, does) = removes _ (Take c.args.slot) no_use _ (λ r. refl) (taken _ _ _ _ _ _ c.ok-removed.ensures.value c.take.ensures.taken)
    c.retire.ensures.retired in
    (r, c.is_some-found.ensures ∙ is, does)
