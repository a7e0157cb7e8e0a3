-- The states that a search met, and those of them that it has examined.
use Rattle.std.specs.Prelude.{◌≡◌, ◌+◌, ◌<◌}
use Rattle.check_outcomes.specs.Words.{ℕ, List, [], length, map, slice_index_or, false, Contains}
use Rattle.check_outcomes.specs.Words.{IsTrue, Option, Some, Vec, Completed, all_completed}
use Rattle.check_outcomes.specs.Words.{first_member, Asked, all_asked, Completion, Place}
use Rattle.check_outcomes.specs.Words.{ring_of_slots, table_of_slots, Access, Slots, Permits}
use Rattle.check_outcomes.specs.Words.{RingContents, RingState, ring_of, Reported, ChainAccess}
use Rattle.check_outcomes.specs.Rests.{Rest, settled_at}
use Rattle.check_outcomes.specs.Nodes.{AreAllStates, IsExplored, StateView}
use Rattle.check_outcomes.specs.Reports.{AreAllRecorded, LeadsOn, RecordedState}
use Rattle.check_outcomes.specs.Stands.{rest_in}
use Rattle.check_outcomes.specs.Tellings.{all_recorded, answers_of}
use Rattle.check_outcomes.specs.Views.{HasTurnIn, IsNextIn, IsOverIn, is_state_idle, is_idle_at}
use Rattle.check_outcomes.specs.Views.{not_begun, rules_in, runs_in, recorded_state_of, view_in}
use Rattle.fx_ring.specs.declared.report.Report.{Report}
use Rattle.check_outcomes.specs.Outcomes.{IsAnswer, IsPossible, IsReportBy, MayReport, answered}
use Rattle.check_outcomes.specs.Outcomes.{ring_following}
use Rattle.check_outcomes.specs.declared.closed.Claimed.{Claimed}
use Rattle.check_outcomes.specs.declared.outcomes.PossibleAnswer.{PossibleAnswer}
use Rattle.check_outcomes.specs.declared.player.OrderPlay.{OrderPlay}
use Rattle.check_outcomes.specs.declared.outcomes.PossibleReport.{PossibleReport}
use Rattle.check_outcomes.specs.declared.state.PlayState.{PlayState}
use Rattle.check_outcomes.specs.declared.submission.PlayedSubmission.{PlayedSubmission}
use Rattle.check_outcomes.specs.declared.submission.Progress.{Progress}

-- what is answered at the place, if there is one, is one of these
abbrev pub says : Option Place → List PossibleAnswer → Completed → Type 0
says place answers c = place ≡ Some c.place → Contains (answered answers) c

abbrev pub said_by : Claimed → Completed → Type 0
said_by claimed = says claimed.submission.now.asked claimed.answers.now

abbrev pub states_of : Claimed → List StateView
states_of claimed = map (view_in claimed.submission.now) claimed.found.now.states.items

abbrev pub recorded_by : Claimed → PlayState → RecordedState
recorded_by claimed state =
    recorded_state_of claimed.submission.now.number (runs_in claimed.submission.now) state

abbrev pub recorded_states : Claimed → List RecordedState
recorded_states claimed = map (recorded_by claimed) claimed.found.now.states.items

-- an access leads to one of the states, and so does what is recorded on the way
abbrev pub IsRecordedBy : Claimed → PlayState → ℕ → Access → Type 0
IsRecordedBy claimed state i a =
    (next : RecordedState) × Contains (recorded_states claimed) next
    × LeadsOn (rules_in claimed.submission.now) (recorded_by claimed state) (i + 1) a next

-- an access is explored, and so is what is recorded on the way, where the submission keeps it
pub record IsExploredBy (claimed : Claimed) (state : PlayState) (i : ℕ) (a : Access) : Type 0 where
  pub is : IsExplored (rules_in claimed.submission.now) (said_by claimed) (states_of claimed)
      (view_in claimed.submission.now state) (i + 1) a
  pub recorded : IsTrue claimed.submission.now.with_reports → IsRecordedBy claimed state i a

-- the chain's accesses are explored in its turn, unless it is idle
abbrev pub IsExploredInTurn : Claimed → PlayState → ℕ → Type 0
IsExploredInTurn claimed state i =
    HasTurnIn claimed.submission.now claimed.found.now.numbers state i
    → is_idle_at claimed.submission.now state i ≡ false
    → (a : Access) → IsNextIn claimed.submission.now state i a
    → Permits (table_of_slots state.slots) a → IsExploredBy claimed state i a

abbrev pub IsStateExploredBy : Claimed → PlayState → Type 0
IsStateExploredBy claimed state = (i : ℕ) → i < length claimed.submission.now.chains.now
    → IsExploredInTurn claimed state i

-- what is answered before a chain's first access, and where the chain is then, by its number from 0
abbrev pub settled_in : PlayedSubmission → ℕ → List Completed × Rest
settled_in submission i =
    settled_at (rules_in submission) (first_member submission.number (i + 1))
    (slice_index_or (runs_in submission) i [])

-- a chain is at its first access, and this is what the chains answered before, by their numbers
-- from 0
pub record IsAtStart (submission : PlayedSubmission) (recorded : List (Vec Completion))
    (chains : List Progress) (i : ℕ) : Type 0 where
  pub there : i < length recorded
  pub recorded_is : slice_index_or (answers_of recorded) i [] ≡ (settled_in submission i).0
  pub rest : rest_in (first_member submission.number (i + 1))
      (slice_index_or (runs_in submission) i []) (slice_index_or chains i not_begun)
      ≡ (settled_in submission i).1

-- the first state of the submission at these slots, and what the chains answered before, which the
-- state has, if the submission keeps it
pub record IsFirstState (submission : PlayedSubmission) (slots : Slots)
    (recorded : List (Vec Completion)) (state : PlayState) : Type 0 where
  pub table : table_of_slots state.slots ≡ table_of_slots slots
  pub chains : (i : ℕ) → i < length submission.chains.now
      → IsAtStart submission recorded state.chains.items i
  pub kept : IsTrue submission.with_reports
      → answers_of state.way_report.answers.items ≡ answers_of recorded
  pub removed : state.way_report.removed.items ≡ []

-- the states are all of the submission at these slots, and what is answered at the place is said
pub record AreAllBy (claimed : Claimed) (slots : Slots) : Type 0 where
  pub are : (submissions registrations : ℕ) → claimed.submission.now.number ≡ submissions + 1
      → AreAllStates (is_state_idle claimed.submission.now) (said_by claimed)
      (ring_of_slots claimed.submission.now.catalogue.now slots submissions registrations)
      (all_asked claimed.submission.now.requests.now) (states_of claimed)
  pub recorded : IsTrue claimed.submission.now.with_reports → (submissions registrations : ℕ)
      → claimed.submission.now.number ≡ submissions + 1 → AreAllRecorded
      (ring_of_slots claimed.submission.now.catalogue.now slots submissions registrations)
      (all_asked claimed.submission.now.requests.now) (recorded_states claimed)

-- of a submission at these slots, whatever was registered before
abbrev pub OfEach : PlayedSubmission → Slots → (RingState → List Asked → Type 0) → Type 0
OfEach submission slots P = (submissions registrations : ℕ)
    → submission.number ≡ submissions + 1
    → P (ring_of_slots submission.catalogue.now slots submissions registrations)
    (all_asked submission.requests.now)

abbrev pub report_of_play : PlayedSubmission → OrderPlay → Reported
report_of_play submission play = record {
  submission = submission.number;
  completions = all_completed play.completions.items;
  closes = record { files = play.closes.items; room = 0 };
}

-- the play's order produces what it says and leaves these slots, as each such ring may do
pub record IsConfirmedPlay (old : RingState) (requests : List Asked) (order : List ChainAccess)
    (report : Reported) (left : Slots) : Type 0 where
  pub by : IsReportBy old requests order report left
  pub may : (ring : RingContents) → ring_of ring ≡ old
      → (new : RingContents) × (ring_of new ≡ ring_following old left)
      × MayReport ring requests report new

abbrev pub IsPlayIn : PlayedSubmission → Slots → OrderPlay → Slots → Type 0
IsPlayIn submission slots play left = OfEach submission slots (λ old requests.
    IsConfirmedPlay old requests play.order.items (report_of_play submission play) left)

abbrev pub IsAnswerIn : PlayedSubmission → Slots → Place → PossibleAnswer → Type 0
IsAnswerIn submission slots place answer = OfEach submission slots (λ old requests.
    IsAnswer old requests place answer)

-- a report that comes of the submission at these slots
abbrev pub IsPossibleIn : PlayedSubmission → Slots → PossibleReport → Type 0
IsPossibleIn submission slots possible = OfEach submission slots (λ old requests.
    IsPossible old requests possible)

-- a report has what was recorded on the way to a state
pub record IsReportOf (submission : PlayedSubmission) (state : PlayState) (report : Report)
    : Type 0 where
  pub submission_is : report.submission ≡ submission.number
  pub completions : all_completed report.completions.items
      ≡ all_recorded (answers_of state.way_report.answers.items)
  pub chains : length state.way_report.answers.items ≡ length submission.chains.now
  pub closes : report.closes.files ≡ state.way_report.removed.items

-- a report leaves the table of a state, and has what was recorded, where the submission keeps it
pub record IsRecordedOf (submission : PlayedSubmission) (state : PlayState)
    (possible : PossibleReport) : Type 0 where
  pub table : table_of_slots possible.slots ≡ table_of_slots state.slots
  pub recorded : IsTrue submission.with_reports → IsReportOf submission state possible.report

-- if the state is over, one of the reports lists it
abbrev pub IsRecordedAt : PlayedSubmission → List PossibleReport → PlayState → Type 0
IsRecordedAt submission reports state = IsOverIn submission state
    → (possible : PossibleReport) × Contains reports possible
    × IsRecordedOf submission state possible
