use Rattle.std.proofs.Common.{◌≡◌}
use Rattle.fx_plain.specs.State.{IsSettled}
use Rattle.fx_plain.specs.Contents.{IsPrepared, state_of}
use Rattle.example_library.proofs.first.full_table.Given as goal

abbrev pub invariant-loop-slot : goal.invariant-loop-slot
invariant-loop-slot l = IsSettled (state_of l.plain) × IsPrepared l.plain × ((state_of l.plain).size ≡ 4)
