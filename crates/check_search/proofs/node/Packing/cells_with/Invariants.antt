use Rattle.check_search.proofs.Words.{◌≡◌, ◌++◌, drop, numbered_cells}
use Rattle.check_search.proofs.node.Packing.cells_with.Given as goal

-- the cells so far, and those that are left, are all of them
abbrev pub invariant-loop-i : goal.invariant-loop-i
invariant-loop-i l = l.cells.items ++ numbered_cells l.self.files.items l.numbers l.i (drop l.i l.self.cells.items)
    ≡ numbered_cells l.self.files.items l.numbers 0 l.self.cells.items
