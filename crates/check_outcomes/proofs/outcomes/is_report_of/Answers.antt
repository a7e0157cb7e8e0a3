use Rattle.check_outcomes.proofs.{◌≡◌, ◌∙◌, sym, slice_eq-Decides, file_Decides, rules}
use Rattle.check_outcomes.proofs.outcomes.is_report_of.Goals as goal

pub returns-then-are_recorded : goal.returns-then-are_recorded
returns-then-are_recorded c = λ is.
    let closes : c.args.report.now.closes.files ≡ c.args.state.now.way_report.removed.items =
    sym c.files.ensures ∙ (slice_eq-Decides file_Decides _ _ _ c.eq.ensures).0 is ∙ c.as_slice.ensures.value in
    search (rules, closes)
