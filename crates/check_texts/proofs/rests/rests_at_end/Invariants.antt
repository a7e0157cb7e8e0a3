use Rattle.check_texts.proofs.{[], All, IsRest}
use Rattle.check_texts.proofs.rests.rests_at_end.Given as goal

abbrev pub invariant-loop-last : goal.invariant-loop-last
invariant-loop-last l = All (IsRest l.setting.catalogue.now [] []) l.rests.items
