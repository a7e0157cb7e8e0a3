-- Activities in a table whose holds and removals name files by their numbers.
use Rattle.std.specs.Prelude.{ℕ, Option, Some, None}
use Rattle.fx_plain.specs.declared.event.File.{File}
use Rattle.fx_table.specs.Pass.{hold_of, retired_of}
use Rattle.fx_table.specs.declared.values.Doing.{Doing}
use Rattle.fx_table.specs.declared.values.Doing.TheVariants as doing
use Rattle.fx_table.specs.declared.values.Task.{Task}
use Rattle.fx_table.specs.declared.values.Task.TheVariants.{Idle, Holding, Retiring}

-- the same activity, as the contract of all shared tables shows it
abbrev pub activity_of : Task → Doing
activity_of Idle = doing.Idle
activity_of (Holding f) = doing.Holding f (hold_of f)
activity_of (Retiring f takes) = doing.Retiring f (retired_of f takes)

-- the activity of a pass that removed a file with these takes, or found none
abbrev pub retiring : Option File → ℕ → Task
retiring None takes = Idle
retiring (Some f) takes = Retiring f takes
