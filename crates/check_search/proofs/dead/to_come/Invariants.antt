use Rattle.check_search.proofs.Words.{◌≡◌, ◌+◌, drop, to_come}
use Rattle.check_search.proofs.dead.to_come.Given as goal

-- those so far, and those of the chains that are left, are all of them
abbrev pub invariant-loop-c : goal.invariant-loop-c
invariant-loop-c l = l.count + to_come l.change l.slot (drop l.c l.strands) (drop l.c l.places) ≡ to_come l.change l.slot l.strands l.places
