use Rattle.std.proofs.Common.{◌≤◌, length}
use Rattle.std.specs.Prelude.{vec_len}
use Rattle.example_library.proofs.closes.close_all.Given as goal

-- the list of closes has room for the files that are left
abbrev pub invariant-loop-slot : goal.invariant-loop-slot
invariant-loop-slot l = vec_len l.left ≤ l.closes.room

abbrev pub decreases-loop-slot : goal.decreases-loop-slot
decreases-loop-slot l = length l.left.items
