use Rattle.check_outcomes.proofs.{◌∙◌, sym, refl, not-false, slice_eq-Decides, file_Decides, progress_Decides}
use Rattle.check_outcomes.proofs.state.PlayState.is_same.Goals as goal

pub returns-then-are_all_same-clause-chains : goal.returns-then-are_all_same-clause-chains
returns-then-are_all_same-clause-chains c = λ _.
    (slice_eq-Decides progress_Decides _ _ _ refl).0 (not-false _ (sym c.ne.ensures ∙ c.if-ne.false))

pub returns-then-are_all_same-clause-removed : goal.returns-then-are_all_same-clause-removed
returns-then-are_all_same-clause-removed c = (slice_eq-Decides file_Decides _ _ _ c.eq.ensures).0
