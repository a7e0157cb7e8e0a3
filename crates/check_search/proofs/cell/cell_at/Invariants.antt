use Rattle.check_search.proofs.Words.{◌≡◌, drop, cell_at}
use Rattle.check_search.proofs.cell.cell_at.Given as goal

-- the cells that are left say what is at the slot
abbrev pub invariant-loop-cell : goal.invariant-loop-cell
invariant-loop-cell l = cell_at (drop l.cell-index l.cells) l.slot ≡ cell_at l.cells l.slot
