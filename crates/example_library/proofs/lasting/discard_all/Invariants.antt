use Rattle.std.proofs.Common.{length}
use Rattle.example_library.proofs.lasting.discard_all.Given as goal

abbrev pub decreases-loop-slot : goal.decreases-loop-slot
decreases-loop-slot l = length l.left.items
