use Rattle.fx_ring.proofs.Words.{◌≡◌, ◌≤◌, ◌++◌, ◌+◌, length, map, vec_capacity}
use Rattle.fx_ring.proofs.crew.gather.Given as goal

abbrev pub invariant-loop-crew : goal.invariant-loop-crew
invariant-loop-crew g l = record {
  count : length l.outcomes.items ≡ length l.passes.items;
  room : length l.crew.items + length l.passes.items ≤ vec_capacity l.crew;
  passes_room : vec_capacity l.passes ≡ vec_capacity l.initial.passes;
  outcomes_room : vec_capacity l.outcomes ≡ vec_capacity l.initial.outcomes;
  passes : map (λ w. w.pass) l.crew.items ++ l.passes.items ≡ l.initial.passes.items;
  outcomes : map (λ w. w.outcome) l.crew.items ++ l.outcomes.items ≡ l.initial.outcomes.items;
}

abbrev pub decreases-loop-crew : goal.decreases-loop-crew
decreases-loop-crew g l = length l.passes.items
