use Rattle.fx_ring.proofs.Words.{◌≡◌, ◌≤◌, ◌++◌, ◌+◌, length, map, vec_capacity}
use Rattle.fx_ring.proofs.crew.scatter.Given as goal

abbrev pub invariant-loop-crew : goal.invariant-loop-crew
invariant-loop-crew g l = record {
  passes_room : length l.passes.items + length l.crew.items ≤ vec_capacity l.passes;
  outcomes_room : length l.outcomes.items + length l.crew.items ≤ vec_capacity l.outcomes;
  passes : l.passes.items ++ map (λ w. w.pass) l.crew.items ≡ map (λ w. w.pass) l.initial.crew.items;
  outcomes : l.outcomes.items ++ map (λ w. w.outcome) l.crew.items ≡ map (λ w. w.outcome) l.initial.crew.items;
}

abbrev pub decreases-loop-crew : goal.decreases-loop-crew
decreases-loop-crew g l = length l.crew.items
