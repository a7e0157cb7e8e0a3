use Rattle.fx_ring.proofs.Words.{◌≡◌, ◌≤◌, ◌++◌, ◌+◌, length, flat_map, sum_by, vec_len, vec_capacity}
use Rattle.fx_ring.proofs.outcome.Outcome.joined.Given as goal

abbrev pub invariant-loop-others : goal.invariant-loop-others
invariant-loop-others l = record {
  completions_room : vec_len l.self.completions + sum_by (λ other. length other.completions.items) l.others.items ≤ vec_capacity l.self.completions;
  closes_room : sum_by (λ other. length other.closes.files) l.others.items ≤ l.self.closes.room;
  completions : l.self.completions.items ++ flat_map (λ other. other.completions.items) l.others.items
      ≡ flat_map (λ other. other.completions.items) l.initial.others.items;
  closes : l.self.closes.files ++ flat_map (λ other. other.closes.files) l.others.items
      ≡ flat_map (λ other. other.closes.files) l.initial.others.items;
}

abbrev pub decreases-loop-others : goal.decreases-loop-others
decreases-loop-others l = length l.others.items
