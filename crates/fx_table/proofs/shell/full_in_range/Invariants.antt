use Rattle.fx_table.proofs.Words.{◌≡◌, ◌≤◌, ◌+◌, ◌-◌, state_of, full_in, first_at}
use Rattle.fx_table.proofs.shell.full_in_range.Given as goal

-- the full slots of the range so far
abbrev pub invariant-loop-slot : goal.invariant-loop-slot
invariant-loop-slot l = record {
  full : l.full ≡ full_in (first_at (state_of l.plain)) l.plain.range.0 (l.slot - l.plain.range.0);
  few : l.full + l.plain.range.0 ≤ l.slot;
}
