-- A pass as contracts see it.
use Rattle.std.specs.Prelude.{◌≡◌, ℕ, ◌-◌, Bool, false, List, [], map, Contains}
use Rattle.std.specs.List.{range_with_len}
use Rattle.fx_plain.specs.declared.event.File.{File}
use Rattle.fx_plain.specs.declared.event.Event.{Event}
use Rattle.fx_plain.specs.declared.event.Action.{Action}
use Rattle.fx_plain.specs.History.{IsLegal, part_of_pass}
use Rattle.fx_table.specs.Numbers.{numbers_up_to}
use Rattle.fx_table.specs.Opening.{Opening, start_of, state_at}
use Rattle.fx_table.specs.declared.limits.TheConstants.{PASS_LOOKS}
use Rattle.fx_table.specs.declared.values.Doing.{Doing}
use Rattle.fx_table.specs.declared.values.Doing.TheVariants.{Idle, Holding, Retiring}
use Rattle.fx_table.specs.declared.values.Hold.{Hold}
use Rattle.fx_table.specs.declared.values.Retired.{Retired}

pub record PassView : Type 0 where
  pub number : ℕ
  -- the history that the pass has seen
  pub front : List Event
  -- the events that the pass has made
  pub own : List Event
  -- the chain that the pass drew last, or 0
  pub chain : ℕ
  -- all chains that the pass drew
  pub drawn : List ℕ
  -- the flag that a draw has returned `None`
  pub no_chains_left : Bool
  -- the number of file numbers of the chain that the pass has left
  pub numbers_left : ℕ
  pub looks_left : ℕ
  pub doing : Doing

abbrev pub IsIdle : PassView → Type 0
IsIdle v = v.doing ≡ Idle

-- a pass that has seen and made no event
abbrev pub new_pass : ℕ → PassView
new_pass number = record {
  number = number;
  front = [];
  own = [];
  chain = 0;
  drawn = [];
  no_chains_left = false;
  numbers_left = 0;
  looks_left =
      PASS_LOOKS;
  doing = Idle;
}

-- `n` new passes, numbered from `first`
abbrev pub new_passes_from : ℕ → ℕ → List PassView
new_passes_from first n = map new_pass (range_with_len first n)

-- `n` new passes, numbered from 1
abbrev pub new_passes : ℕ → List PassView
new_passes n = new_passes_from 1 n

-- the number that the pass's next installation uses; a chain's numbers are used in order
abbrev pub next_number : Opening → PassView → ℕ
next_number o v = numbers_up_to o.numbers v.chain - v.numbers_left

-- the event of an action of the pass
abbrev pub event_of : PassView → Action → Event
event_of v action = record { pass = v.number; chain = v.chain; action = action }

-- each event of the pass is for a chain that it drew
abbrev pub IsOfDrawnChains : PassView → Type 0
IsOfDrawnChains v = (e : Event) → Contains v.own e → Contains v.drawn e.chain

-- the front is legal, and its events of this pass are the pass's own
pub record IsFront (o : Opening) (v : PassView) : Type 0 where
  pub legal : IsLegal (start_of o) v.front (state_at o v.front)
  pub mine : part_of_pass v.number v.front ≡ v.own

-- the values that a table which doesn't last returns for a file
abbrev pub hold_of : File → Hold
hold_of f = record { node = f.number; entry = f.identity.entry }

abbrev pub retired_of : File → ℕ → Retired
retired_of f takes = record { node = f.number; entry = f.identity.entry; takes = takes }

-- the value that a look-up returns for a file has the file's entry, and is `hold_of` the file
-- unless the table lasts
pub record IsFileHold (o : Opening) (f : File) (hold : Hold) : Type 0 where
  pub entry : hold.entry ≡ f.identity.entry
  pub same : o.lasts ≡ false → hold ≡ hold_of f

-- the value that a removal returns for a file, in the same way
pub record IsFileRemoval (o : Opening) (f : File) (retired : Retired) : Type 0 where
  pub entry : retired.entry ≡ f.identity.entry
  pub same : o.lasts ≡ false → retired ≡ retired_of f retired.takes

-- the hold is the one that the pass got for the file that it looked up
abbrev pub IsHoldOf : PassView → Hold → Type 0
IsHoldOf v hold = (f : File) × (v.doing ≡ Holding f hold)

-- the value is the one that the pass got for the file that it removed
abbrev pub IsRetiredOf : PassView → Retired → Type 0
IsRetiredOf v retired = (f : File) × (v.doing ≡ Retiring f retired)
