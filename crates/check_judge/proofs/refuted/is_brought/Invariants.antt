use Rattle.check_judge.proofs.{All, Claim, Vec, take, Brings, Any}
use Rattle.check_judge.proofs.refuted.is_brought.Given as goal

-- none of those that were looked at does
abbrev pub invariant-loop-i : goal.invariant-loop-i
invariant-loop-i l = All (λ (claims : Vec Claim). Any (λ claim. Brings claim l.file) claims.items → ⊥) (take l.i l.chains)
