-- The states of a submission that is played by an order: the table, and where each chain is.
use Rattle.std.specs.Prelude.{◌≡◌, ◌+◌, ◌<◌, ◌≤◌, ◌∷◌, ◌++◌}
use Rattle.check_outcomes.specs.Words.{ℕ, Bool, true, false, List, [], length, Contains}
use Rattle.check_outcomes.specs.Words.{AllByRecursion, FileEntry, Completed, first_member, Asked}
use Rattle.check_outcomes.specs.Words.{runs_of, Place, RingState, Reported, Table, Permits}
use Rattle.check_outcomes.specs.Words.{table_with, Access, IsOneOrder, table_of}
use Rattle.check_outcomes.specs.Idle.{AreIdle, are_reads}
use Rattle.check_outcomes.specs.Parts.{AreParts, Parts}
use Rattle.check_outcomes.specs.Rests.{HasMemory, IsNext, Rest, Rules, rules_of, settled_at, step}

pub record StateView : Type 0 where
  pub table : Table
  -- of each chain, by its number from 1
  pub rests : ℕ → Rest

-- an access of a chain leads from one state to the other
pub record LeadsByAccess (rules : Rules) (state : StateView) (chain : ℕ) (a : Access) (next
    : StateView)
    : Type 0 where
  pub table : next.table ≡ table_with state.table a
  pub own : next.rests chain ≡ (step rules (state.rests chain) a).1
  pub others : (other : ℕ) → 1 ≤ other → (other ≡ chain → ⊥)
      → next.rests other ≡ state.rests other

-- what the access answers is said, and it leads to one of the states
pub record IsExplored (rules : Rules) (says : Completed → Type 0) (states : List StateView)
    (state : StateView) (chain : ℕ) (a : Access) : Type 0 where
  pub said : AllByRecursion says (step rules (state.rests chain) a).0
  pub next : StateView
  pub inside : Contains states next
  pub leads : LeadsByAccess rules state chain a next

-- each access that a chain may make next is explored
abbrev pub IsChainExplored : List FileEntry → ℕ → (Completed → Type 0) → List StateView
    → StateView → ℕ → Type 0
IsChainExplored catalogue size says states state chain =
    (a : Access) → IsNext catalogue size (state.rests chain) a → Permits state.table a
    → IsExplored (rules_of catalogue size) says states state chain a

-- each chain is idle
abbrev pub IsOver : (Rest → Bool) → ℕ → StateView → Type 0
IsOver idle chains state =
    (chain : ℕ) → 1 ≤ chain → chain ≤ chains → idle (state.rests chain) ≡ true

-- nothing but reads is left of each chain of this part
abbrev pub HasReadsAlone : Parts → ℕ → StateView → ℕ → Type 0
HasReadsAlone parts chains state part =
    (chain : ℕ) → 1 ≤ chain → chain ≤ chains → parts.of_chain chain ≡ part
    → are_reads (state.rests chain).requests ≡ true

-- each chain of a part before this chain's is idle, and where nothing but reads is left of its
-- part, so is each chain of the part before this one
pub record HasTurn (idle : Rest → Bool) (parts : Parts) (chains : ℕ) (state : StateView)
    (chain : ℕ) : Type 0 where
  pub part : (other : ℕ) → 1 ≤ other → other ≤ chains
      → parts.of_chain other < parts.of_chain chain → idle (state.rests other) ≡ true
  pub reader : HasReadsAlone parts chains state (parts.of_chain chain) → (other : ℕ)
      → 1 ≤ other → other < chain → parts.of_chain other ≡ parts.of_chain chain
      → idle (state.rests other) ≡ true

-- the list has each state to which an access leads from one of its states, of a chain that has its
-- turn and isn't idle, and what is answered on the way is said
abbrev pub AreClosed : List FileEntry → ℕ → (Rest → Bool) → Parts → (Completed → Type 0) → ℕ
    → List StateView → Type 0
AreClosed catalogue size idle parts says chains states =
    (state : StateView) → Contains states state → (chain : ℕ) → 1 ≤ chain → chain ≤ chains
    → HasTurn idle parts chains state chain → idle (state.rests chain) ≡ false
    → IsChainExplored catalogue size says states state chain

-- each chain from this one on is at its first request that reaches the table, and `Begins` has the
-- answers up to there
abbrev pub AreAtStart : Rules → (ℕ → List Completed → Type 0) → ℕ → ℕ → List (List Asked)
    → (ℕ → Rest) → Type 0
AreAtStart rules Begins submission chain [] rests = Unit {0}
AreAtStart rules Begins submission chain (run ∷ runs) rests =
    Begins chain (settled_at rules (first_member submission chain) run).0
    × (rests chain ≡ (settled_at rules (first_member submission chain) run).1)
    × AreAtStart rules Begins submission (chain + 1) runs rests

-- the first state of a submission
pub record IsFirst (says : Completed → Type 0) (old : RingState) (requests : List Asked)
    (state : StateView) : Type 0 where
  pub table : state.table ≡ table_of old
  pub chains : AreAtStart (rules_of old.catalogue old.size)
      (λ _ recorded. AllByRecursion says recorded)
      (old.submissions + 1) 1 (runs_of requests) state.rests

-- the list has the first state, and each one that is reached from it turn by turn, and what is
-- answered on the way is said
pub record AreAllStates (idle : Rest → Bool) (says : Completed → Type 0) (old : RingState)
    (requests : List Asked) (states : List StateView) : Type 0 where
  pub idling : AreIdle says idle
  pub parts : Parts
  pub apart : AreParts (table_of old) parts 1 (runs_of requests)
  pub first : StateView
  pub begins : IsFirst says old requests first
  pub inside : Contains states first
  pub closed : AreClosed old.catalogue old.size idle parts says (length (runs_of requests)) states

-- what the chains from this one on answered, one after another
abbrev pub recorded_from : (ℕ → List Completed) → ℕ → List (List Asked) → List Completed
recorded_from recorded chain [] = []
recorded_from recorded chain (run ∷ runs) =
    recorded chain ++ recorded_from recorded (chain + 1) runs

-- the ring that a state leaves
abbrev pub ring_at : RingState → StateView → RingState
ring_at old state = record old { at = state.table.at; submissions = old.submissions + 1 }

-- one of the states is over, and leaves this ring
pub record HasEnd (old : RingState) (requests : List Asked) (idle : Rest → Bool)
    (states : List StateView) (left : RingState) : Type 0 where
  pub state : StateView
  pub inside : Contains states state
  pub over : IsOver idle (length (runs_of requests)) state
  pub leaves : left ≡ ring_at old state

-- what is answered at the place is one of these answers
abbrev pub IsListed : Place → List Completed → Completed → Type 0
IsListed place answers c = c.place ≡ place → Contains answers c

-- whatever comes of a submission, where no request lacks memory: what is answered at the place is
-- listed, and the ring that is left is that of a state of the list
abbrev pub EachOutcomeIsListed : Type 0
EachOutcomeIsListed =
    (place : Place) (answers : List Completed) (idle : Rest → Bool) (old : RingState)
    (requests : List Asked) (states : List StateView)
    → AreAllStates idle (IsListed place answers) old requests states
    → (report : Reported) (left : RingState)
    → AllByRecursion HasMemory report.completions
    → IsOneOrder old requests report left
    → AllByRecursion (IsListed place answers) report.completions
    × HasEnd old requests idle states left
