-- The events that one turn at the table adds.
use Rattle.std.specs.Prelude.{◌∷◌}
use Rattle.fx_baton.specs.Words.{ℕ, List, [], map, Option, Some, None, Contents, state_of, close_of}
use Rattle.fx_baton.specs.Words.{◌▷◌, ◌▷▷◌, numbered, closed_by_release, closed_by_retirement, File}
use Rattle.fx_baton.specs.Words.{Event, Use, no_use, one_look, one_number, retiring, Task, Idle}
use Rattle.fx_baton.specs.Words.{Holding, Retiring, Call}
use Rattle.fx_plain.specs.declared.event.Action.{Action}
use Rattle.fx_plain.specs.declared.event.Action.TheVariants.{Look, Release, Put, Clear, Take}
use Rattle.fx_plain.specs.declared.event.Action.TheVariants.{Allocate, Full}
use Rattle.fx_baton.specs.declared.view.Call.TheVariants.{Look as LookCall, Release as ReleaseCall}
use Rattle.fx_baton.specs.declared.view.Call.TheVariants.{Put as PutCall, Allocate as AllocateCall}
use Rattle.fx_baton.specs.declared.view.Call.TheVariants.{Full as FullCall, Clear as ClearCall}
use Rattle.fx_baton.specs.declared.view.Call.TheVariants.{Take as TakeCall, Retire as RetireCall}
use Rattle.fx_baton.specs.Rule.{empty_table}

-- an action and its author
abbrev pub by : (pass chain : ℕ) → Action → Event
by pass chain action = record { pass = pass; chain = chain; action = action }

-- the table as the seat took it, and as the seat has it now
abbrev pub table_of_loan : Option Contents → Contents
table_of_loan None = empty_table
table_of_loan (Some c) = c

abbrev pub table_of_seats : List (ℕ × Contents) → Contents
table_of_seats [] = empty_table
table_of_seats (x ∷ xs) = x.1

-- the activity of a pass that found this file
abbrev pub holds_now : Option File → Task
holds_now None = Idle
holds_now (Some f) = Holding f

-- a release or a retirement, and the close of the file that it returns
abbrev pub release_in : Contents → Task → List Action
release_in c Idle = []
release_in c (Holding f) = [] ▷ Release f ▷▷ close_of (closed_by_release c f.number)
release_in c (Retiring f takes) = []

abbrev pub retirement_in : Contents → Task → List Action
retirement_in c Idle = []
retirement_in c (Holding f) = []
retirement_in c (Retiring f takes) = close_of (closed_by_retirement c f.number)

-- the actions of a call of the table c, for a pass with this activity
abbrev pub actions_of : Contents → Task → Call → List Action
actions_of c doing (LookCall slot) = [] ▷ Look slot ((state_of c).at slot)
actions_of c doing ReleaseCall = release_in c doing
actions_of c doing (PutCall slot number file) =
    [] ▷ Put slot (numbered number file) ((state_of c).at slot)
actions_of c doing (AllocateCall slot number file) = [] ▷ Allocate slot (numbered number file)
actions_of c doing FullCall = [] ▷ Full
actions_of c doing (ClearCall slot) = [] ▷ Clear slot ((state_of c).at slot)
actions_of c doing (TakeCall slot) = [] ▷ Take slot ((state_of c).at slot)
actions_of c doing RetireCall = retirement_in c doing

-- the activity of the pass afterwards
abbrev pub doing_of : Contents → Call → Task
doing_of c (LookCall slot) = holds_now ((state_of c).at slot)
doing_of c (PutCall slot number file) = retiring ((state_of c).at slot) 0
doing_of c (ClearCall slot) = retiring ((state_of c).at slot) 0
doing_of c (TakeCall slot) = retiring ((state_of c).at slot) 0
doing_of c _ = Idle

-- the numbers and look-ups that a call uses
abbrev pub use_of : Call → Use
use_of (LookCall slot) = one_look
use_of (PutCall slot number file) = one_number
use_of (AllocateCall slot number file) = one_number
use_of _ = no_use

-- the events of a call
abbrev pub events_of : Contents → (pass chain : ℕ) → Task → Call → List Event
events_of c pass chain doing call = map (by pass chain) (actions_of c doing call)
