-- File numbers are names: a later part of a table's history is also a history of a newly opened
-- table.
use Rattle.std.specs.Prelude.{◌≡◌, ℕ, ◌+◌, ◌≤◌, List, [], ◌∷◌, length, map, Option, Some, None}
use Rattle.std.specs.Prelude.{option_map}
use Rattle.fx_plain.specs.State.{State, IsSettled, opening}
use Rattle.fx_plain.specs.Contents.{Contents, state_of}
use Rattle.fx_plain.specs.History.{IsLegal, action_of, held_by, state_after, ◌▷▷◌}
use Rattle.fx_plain.specs.Laws.{IsStart, installed_by}
use Rattle.fx_plain.specs.Table.{identity_of}
use Rattle.fx_plain.specs.declared.event.File.{File}
use Rattle.fx_plain.specs.declared.event.Event.{Event}
use Rattle.fx_plain.specs.declared.event.Action.{Action}
use Rattle.fx_plain.specs.declared.event.Action.TheVariants.{Look, Release, Put, Clear, Take}
use Rattle.fx_plain.specs.declared.event.Action.TheVariants.{Allocate, Full, Close}

pub record Renaming : Type 0 where
  -- the new number of a file, and the new one of a chain
  pub number : ℕ → ℕ
  pub chain : ℕ → ℕ
  -- the old number of a new one
  pub back : ℕ → Option ℕ

abbrev pub renamed_file : Renaming → File → File
renamed_file r f = record f { number = r.number f.number }

abbrev pub renamed_found : Renaming → Option File → Option File
renamed_found r found = option_map (renamed_file r) found

abbrev pub renamed : Renaming → Action → Action
renamed r (Look slot found) = Look slot (renamed_found r found)
renamed r (Release f) = Release (renamed_file r f)
renamed r (Put slot f replaced) = Put slot (renamed_file r f) (renamed_found r replaced)
renamed r (Clear slot found) = Clear slot (renamed_found r found)
renamed r (Take slot found) = Take slot (renamed_found r found)
renamed r (Allocate slot f) = Allocate slot (renamed_file r f)
renamed r Full = Full
renamed r (Close f) = Close (renamed_file r f)

abbrev pub renamed_event : Renaming → Event → Event
renamed_event r e =
    record { pass = e.pass; chain = r.chain e.chain; action = renamed r e.action }

-- the numbers of the installed files, the last one first
abbrev pub with_number_of : Option File → List ℕ → List ℕ
with_number_of None numbers = numbers
with_number_of (Some f) numbers = f.number ∷ numbers

abbrev pub numbers_given : List Action → List ℕ
numbers_given [] = []
numbers_given (action ∷ h) = with_number_of (installed_by action) (numbers_given h)

-- the same files at the same slots; the other state is settled if the first one is
pub record HasOtherNumbers (one other : State) : Type 0 where
  pub size : other.size ≡ one.size
  pub range : other.range ≡ one.range
  pub files : (slot : ℕ) → identity_of (other.at slot) ≡ identity_of (one.at slot)
  pub settled : IsSettled one → IsSettled other

-- a table between submissions: the laws' histories may begin there, and it has no file past its
-- slots
pub record IsTableAtRest (st : State) : Type 0 where
  pub start : IsStart st
  pub inside : (slot : ℕ) → st.size ≤ slot → st.at slot ≡ None

-- a table that is opened is at rest, and is at rest again in each later settled state
abbrev pub OpeningIsAtRest : Type 0
OpeningIsAtRest = (plain : Contents) (numbers : ℕ) → IsTableAtRest (opening
    (state_of plain) numbers)

abbrev pub StaysAtRest : Type 0
StaysAtRest =
    (start end : State) (h : List Event)
    → IsTableAtRest start
    → IsLegal start h end
    → IsSettled end
    → IsTableAtRest end

-- what happens to a table at rest may also happen to a table that is opened with its files, if that
-- has numbers for all installed files; its events may be of other chains
abbrev pub OpenedAnew : Type 0
OpenedAnew =
    (chain : ℕ → ℕ) (numbers : ℕ) (start end : State) (h : List Event)
    → IsTableAtRest start
    → start.size + length (numbers_given (map action_of h)) ≤ numbers
    → IsLegal start h end
    → (r : Renaming) × (left : State) × (r.chain ≡ chain)
    × IsLegal (opening start numbers) (map (renamed_event r) h) left
    × HasOtherNumbers end left

-- if no pass holds a file, the continuation of a legal history is legal from the state reached so
-- far
abbrev pub LegalAfter : Type 0
LegalAfter =
    (start end : State) (h more : List Event)
    → ((pass : ℕ) → held_by h pass ≡ None)
    → IsLegal start (h ▷▷ more) end
    → IsLegal (state_after start (map action_of h)) more end
