use Rattle.check_judge.proofs.{◌≡◌, ℕ, ◌<◌, operation_of, IsOpened}
use Rattle.check_judge.proofs.request_claims.only_opened.Given as goal

-- no other one of those that were looked at has the name
abbrev pub invariant-loop-other : goal.invariant-loop-other
invariant-loop-other l = (k : ℕ) → k < l.other → IsOpened l.catalogue (operation_of l.request.op) k → k ≡ l.entry
