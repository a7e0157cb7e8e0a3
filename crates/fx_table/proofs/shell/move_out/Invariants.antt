use Rattle.fx_table.proofs.Words.{◌≡◌, ◌≤◌, ℕ, length, state_of, vec_capacity, identity_of, file_in_place}
use Rattle.fx_table.proofs.shell.move_out.Given as goal

abbrev pub invariant-loop : goal.invariant-loop
invariant-loop l = record {
  files : (place : ℕ) → file_in_place l.homes.items place ≡ identity_of ((state_of l.fn.plain).at place);
  count : length l.homes.items ≡ l.counter;
  room : l.count ≤ vec_capacity l.homes;
}
