-- The states of a submission with what was recorded on the way to them, so that their ends are
-- reports.
use Rattle.std.specs.Prelude.{◌≡◌, ◌+◌, ◌≤◌, ◌++◌}
use Rattle.check_outcomes.specs.Words.{ℕ, List, [], length, All, Contains, IsPermutation}
use Rattle.check_outcomes.specs.Words.{option_to_list, FileEntry, Closed, Completed, Asked, runs_of}
use Rattle.check_outcomes.specs.Words.{RingState, Reported, Permits, file_removed_by, Access}
use Rattle.check_outcomes.specs.Words.{IsOneOrder, table_of}
use Rattle.check_outcomes.specs.Rests.{HasMemory, IsNext, Rules, rules_of, step}
use Rattle.check_outcomes.specs.Idle.{has_none}
use Rattle.check_outcomes.specs.Parts.{AreParts, Parts}
use Rattle.check_outcomes.specs.Nodes.{AreAtStart, HasTurn, IsOver, LeadsByAccess, StateView}
use Rattle.check_outcomes.specs.Nodes.{ring_at, recorded_from}

-- a state, with what was answered and which files were taken from their slots on the way to it
pub record RecordedState : Type 0 where
  pub state : StateView
  -- of each chain, by its number from 1
  pub recorded : ℕ → List Completed
  pub removed : List Closed

-- an access of a chain leads from one to the other
pub record LeadsOn (rules : Rules) (here : RecordedState) (chain : ℕ) (a : Access)
    (next : RecordedState) : Type 0 where
  pub leads : LeadsByAccess rules here.state chain a next.state
  pub own : next.recorded chain ≡ here.recorded chain ++ (step rules (here.state.rests chain) a).0
  pub others : (other : ℕ) → 1 ≤ other → (other ≡ chain → ⊥)
      → next.recorded other ≡ here.recorded other
  pub removed : IsPermutation (here.removed ++ option_to_list (file_removed_by a)) next.removed

-- the list has each one to which an access leads from one of it, of a chain that has its turn
abbrev pub AreRecordedClosed : List FileEntry → ℕ → Parts → ℕ → List RecordedState → Type 0
AreRecordedClosed catalogue size parts chains states =
    (here : RecordedState) → Contains states here → (chain : ℕ) → 1 ≤ chain → chain ≤ chains
    → HasTurn has_none parts chains here.state chain
    → (a : Access) → IsNext catalogue size (here.state.rests chain) a
    → Permits here.state.table a
    → (next : RecordedState) × Contains states next
    × LeadsOn (rules_of catalogue size) here chain a next

-- the first one of a submission
pub record IsRecordedFirst (old : RingState) (requests : List Asked) (here : RecordedState)
    : Type 0 where
  pub table : here.state.table ≡ table_of old
  pub removed : here.removed ≡ []
  pub chains : AreAtStart (rules_of old.catalogue old.size)
      (λ chain recorded. here.recorded chain ≡ recorded)
      (old.submissions + 1) 1 (runs_of requests) here.state.rests

-- the list has the first one, and each one that is reached from it turn by turn
pub record AreAllRecorded (old : RingState) (requests : List Asked) (states : List RecordedState)
    : Type 0 where
  pub parts : Parts
  pub apart : AreParts (table_of old) parts 1 (runs_of requests)
  pub first : RecordedState
  pub begins : IsRecordedFirst old requests first
  pub inside : Contains states first
  pub closed : AreRecordedClosed old.catalogue old.size parts (length (runs_of requests)) states

-- one of them is over, lists this report, and leaves this ring
pub record HasReport (old : RingState) (requests : List Asked) (states : List RecordedState)
    (report : Reported) (left : RingState) : Type 0 where
  pub here : RecordedState
  pub inside : Contains states here
  pub over : IsOver has_none (length (runs_of requests)) here.state
  pub completions : report.completions ≡ recorded_from here.recorded 1 (runs_of requests)
  pub closes : IsPermutation here.removed report.closes.files
  pub leaves : left ≡ ring_at old here.state

-- one state of the list that is over lists each report that the submission may produce if no
-- request lacks memory
abbrev pub EachReportIsListed : Type 0
EachReportIsListed =
    (old : RingState) (requests : List Asked) (states : List RecordedState)
    → AreAllRecorded old requests states
    → (report : Reported) (left : RingState) → All HasMemory report.completions
    → IsOneOrder old requests report left → HasReport old requests states report left
