use Rattle.check_search.proofs.Words.{◌≡◌, ℕ, ◌<◌, ◌≤◌, length, slice_index_or, cell_with, Cell}
use Rattle.check_search.proofs.cell.write.Given as goal

-- the cells so far were written, and the others weren't
abbrev pub invariant-loop-i : goal.invariant-loop-i
invariant-loop-i l = record {
  long : length l.cells ≡ length l.initial.cells;
  before : (k : ℕ) (d : Cell) → k < l.i → k < length l.initial.cells
      → slice_index_or l.cells k d ≡ cell_with l.slot l.file (slice_index_or l.initial.cells k d);
  behind : (k : ℕ) (d : Cell) → l.i ≤ k → slice_index_or l.cells k d ≡ slice_index_or l.initial.cells k d;
}
