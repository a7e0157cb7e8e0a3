-- The states of the program, read as states of a submission.
use Rattle.std.specs.Prelude.{◌≡◌, ◌+◌, ◌-◌, ◌<◌, ◌==◌, ◌&&◌, if◌then◌else◌}
use Rattle.check_outcomes.specs.Words.{ℕ, not, Bool, true, false, List, [], length, slice_index_or}
use Rattle.check_outcomes.specs.Words.{All, Contains, IfSome, Vec, Completed, first_member, Asked}
use Rattle.check_outcomes.specs.Words.{all_asked, runs_of, table_of_slots, Access, Permits, Slots}
use Rattle.check_outcomes.specs.Rests.{IsNext, Rest, Rules, rules_of, step}
use Rattle.check_outcomes.specs.Parts.{Parts, StaysIn}
use Rattle.check_outcomes.specs.Idle.{are_reads}
use Rattle.check_outcomes.specs.Nodes.{HasReadsAlone, HasTurn, IsOver, StateView, LeadsByAccess}
use Rattle.check_outcomes.specs.Reports.{RecordedState}
use Rattle.check_outcomes.specs.Stands.{asks_from, rest_in}
use Rattle.check_outcomes.specs.Tellings.{answers_of}
use Rattle.check_outcomes.specs.declared.submission.Progress.{Progress}
use Rattle.check_outcomes.specs.declared.parts.PartNumbers.{PartNumbers}
use Rattle.check_outcomes.specs.declared.state.PlayState.{PlayState}
use Rattle.check_outcomes.specs.declared.submission.PlayedSubmission.{PlayedSubmission}
use Rattle.check_outcomes.specs.declared.turns.ChainTurn.{ChainTurn}

-- the run of a chain, by the chain's number from 1
abbrev pub run_at : List (List Asked) → ℕ → List Asked
run_at runs chain = slice_index_or runs (chain - 1) []

abbrev pub not_begun : Progress
not_begun = record { done = 0; made = 0 }

abbrev pub view_of_state : ℕ → List (List Asked) → PlayState → StateView
view_of_state submission runs state = record {
  table = table_of_slots state.slots;
  rests = λ chain. rest_in (first_member submission chain) (run_at runs chain)
      (slice_index_or state.chains.items (chain - 1) not_begun);
}

-- with what was recorded on the way
abbrev pub recorded_state_of : ℕ → List (List Asked) → PlayState → RecordedState
recorded_state_of submission runs state = record {
  state = view_of_state submission runs state;
  recorded = λ chain. slice_index_or (answers_of state.way_report.answers.items) (chain - 1) [];
  removed = state.way_report.removed.items;
}

abbrev pub runs_in : PlayedSubmission → List (List Asked)
runs_in submission = runs_of (all_asked submission.requests.now)

abbrev pub view_in : PlayedSubmission → PlayState → StateView
view_in submission state = view_of_state submission.number (runs_in submission) state

abbrev pub rules_in : PlayedSubmission → Rules
rules_in submission = rules_of submission.catalogue.now submission.size

-- an access of a chain leads to the next state, and this is answered on the way
pub record IsStepTo (submission : PlayedSubmission) (state : PlayState) (i : ℕ) (a : Access)
    (answers : List Completed) (next : PlayState) : Type 0 where
  pub recorded : answers
      ≡ (step (rules_in submission) ((view_in submission state).rests (i + 1)) a).0
  pub leads : LeadsByAccess (rules_in submission) (view_in submission state) (i + 1) a
      (view_in submission next)

-- an access that a chain may make next, by its number from 0
abbrev pub IsNextIn : PlayedSubmission → PlayState → ℕ → Access → Type 0
IsNextIn submission state i a =
    IsNext submission.catalogue.now submission.size ((view_in submission state).rests (i + 1)) a

-- the list has each access that the chain may make next and the table permits
abbrev pub HasEachNextIn : PlayedSubmission → PlayState → ℕ → Vec Access → Type 0
HasEachNextIn submission state i accesses =
    (a : Access) → IsNextIn submission state i a → Permits (table_of_slots state.slots) a
    → Contains accesses.items a

-- the parts that the numbers name
abbrev pub parts_by_numbers : PartNumbers → Parts
parts_by_numbers numbers = record {
  of_chain = λ chain. slice_index_or numbers.of_chain.items (chain - 1) 0;
  of_slot = λ slot. slice_index_or numbers.of_slot.items slot 0;
}

-- the requests of a chain stay in its part, by the chain's number from 0
abbrev pub IsInPart : PlayedSubmission → Slots → PartNumbers → ℕ → Type 0
IsInPart submission slots numbers i =
    All (λ request. StaysIn (table_of_slots slots) (parts_by_numbers numbers).of_slot
    (slice_index_or numbers.of_chain.items i 0) request.operation)
    (slice_index_or (runs_in submission) i [])

abbrev pub ArePartsIn : PlayedSubmission → Slots → PartNumbers → Type 0
ArePartsIn submission slots numbers =
    (i : ℕ) → i < length submission.chains.now → IsInPart submission slots numbers i

-- no request of the chain is left, or nothing but reads, and nobody asks what these answer
abbrev pub is_state_idle : PlayedSubmission → Rest → Bool
is_state_idle submission rest =
    if length rest.requests == 0 then true
    else (if submission.with_reports then false
    else (are_reads rest.requests && not (asks_from submission.asked rest.place)))

-- whether a chain is, by its number from 0
abbrev pub is_idle_at : PlayedSubmission → PlayState → ℕ → Bool
is_idle_at submission state i = is_state_idle submission ((view_in submission state).rests (i + 1))

-- whether nothing but reads is left of a chain, by its number from 0
abbrev pub has_reads_at : PlayedSubmission → PlayState → ℕ → Bool
has_reads_at submission state i = are_reads ((view_in submission state).rests (i + 1)).requests

-- nothing but reads is left of each chain of a part
abbrev pub HasReadsAloneIn : PlayedSubmission → PartNumbers → PlayState → ℕ → Type 0
HasReadsAloneIn submission numbers state part =
    HasReadsAlone (parts_by_numbers numbers) (length (runs_in submission))
    (view_in submission state) part

-- a chain has its turn, by its number from 0
abbrev pub HasTurnIn : PlayedSubmission → PartNumbers → PlayState → ℕ → Type 0
HasTurnIn submission numbers state i =
    HasTurn (is_state_idle submission) (parts_by_numbers numbers) (length (runs_in submission))
    (view_in submission state) (i + 1)

-- each chain is
abbrev pub IsOverIn : PlayedSubmission → PlayState → Type 0
IsOverIn submission state =
    IsOver (is_state_idle submission) (length (runs_in submission)) (view_in submission state)

-- no chain of a later part has its turn
abbrev pub IsTurnOfPart : PlayedSubmission → PartNumbers → PlayState → ℕ → Type 0
IsTurnOfPart submission numbers state part =
    (i : ℕ) → part < slice_index_or numbers.of_chain.items i 0
    → HasTurnIn submission numbers state i → ⊥

-- no later chain of the part than the reader has its turn
abbrev pub IsTurnOfReader : PlayedSubmission → PartNumbers → PlayState → ℕ → ℕ → Type 0
IsTurnOfReader submission numbers state part reader =
    (i : ℕ) → slice_index_or numbers.of_chain.items i 0 ≡ part → reader < i
    → HasTurnIn submission numbers state i → ⊥

-- no chain of a later part has its turn, and none of the part after its reader
pub record IsTurnAt (submission : PlayedSubmission) (numbers : PartNumbers) (state : PlayState)
    (turn : ChainTurn) : Type 0 where
  pub part : IsTurnOfPart submission numbers state turn.part
  pub reader : IfSome turn.reader (IsTurnOfReader submission numbers state turn.part)

-- a chain has no turn in a state whose turn this is
abbrev pub Waits : PartNumbers → ChainTurn → ℕ → Type 0
Waits numbers turn i = (submission : PlayedSubmission) (state : PlayState)
    → IsTurnAt submission numbers state turn → HasTurnIn submission numbers state i → ⊥
