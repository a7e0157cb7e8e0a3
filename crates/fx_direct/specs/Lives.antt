-- Laws of a whole life.
use Rattle.std.specs.Prelude.{◌≡◌, ◌⊎◌, ◌+◌, ◌≤◌, ◌<◌, ◌∷◌}
use Rattle.fx_direct.specs.Words.{ℕ, true, List, [], Option, ◌▷▷◌, LifeKey, Slot, Transition}
use Rattle.fx_direct.specs.Counts.{times, reserves, chains, opens, starts, finishes, holds}
use Rattle.fx_direct.specs.Counts.{releases, ends, asks, closes, fails, phase_of}
use Rattle.fx_direct.specs.Phases.{Ending, AllFree, bit, is_chained, is_live, phase_at, users_in}
use Rattle.fx_direct.specs.Phases.{calls_in_flight, lives_of}
use Rattle.fx_direct.specs.Transitions.{Reserves, Chains, Starts, Holds, key_concerned, HasLife}
use Rattle.fx_direct.specs.Transitions.{IsEnabled, AreEnabled, slots_left_by, Advances}
use Rattle.fx_direct.specs.Transitions.{AdvancesAndAsks, DirectMachine, machine_with}

-- no slot waits for its close to be asked for
abbrev pub NoCloseIsDue : List Slot → Type 0
NoCloseIsDue slots = (slot : ℕ) → phase_at slots slot ≡ Ending 0 0 → ⊥

-- the transitions after which no close is due
abbrev pub NeverAsks : Transition → Type 0
NeverAsks (Reserves k) = Unit {0}
NeverAsks (Chains k requests closes) = Unit {0}
NeverAsks (Starts k) = Unit {0}
NeverAsks (Holds k) = Unit {0}
NeverAsks t = ⊥

-- a call of the machine that makes the transition
abbrev pub IsMachineCall : DirectMachine → Transition → DirectMachine → Type 0
IsMachineCall old t new =
    (NeverAsks t × Advances old t new) ⊎ ((ask : Option ℕ) × AdvancesAndAsks old t ask new)

-- no close is due when a machine begins, nor after any of its calls: none is asked for late
abbrev pub NoCloseIsLate : Type 0
NoCloseIsLate =
    ((slots : List Slot) → AllFree slots → NoCloseIsDue slots)
    × ((old new : DirectMachine) (t : Transition)
    → NoCloseIsDue old.list → IsMachineCall old t new → NoCloseIsDue new.list)

-- the close of a file is asked for at most once, and again each time that it failed; where no file
-- was installed, only by a chain. It succeeds at most once, and where no file was installed, only
-- until its chain is over. Once the life of an installed file was ended and each request and each
-- user came back, its close has been asked for
abbrev pub EachCloseIsAskedForOnce : Type 0
EachCloseIsAskedForOnce =
    (start : List Slot) (h : List Transition) (k : LifeKey)
    → AllFree start
    → AreEnabled start h
    → (times (opens k) h ≤ 1)
    × (times (asks k) h ≤ 1 + times (fails k) h)
    × (times (asks k) h ≤ times (opens k) h + times (chains k) h + times (fails k) h)
    × (times (closes k) h ≤ 1)
    × (times (closes k) h
    ≤ times (opens k) h + bit (is_chained (phase_of (slots_left_by start h) k)))
    × (NoCloseIsDue (slots_left_by start h)
    → 0 < times (opens k) h
    → 0 < times (ends k) h
    → times (starts k) h ≡ times (finishes k) h
    → times (holds k) h ≡ times (releases k) h
    → times (asks k) h ≡ 1 + times (fails k) h)

-- calls lead from one machine to another. The newest is the first
abbrev pub IsMachineRun : DirectMachine → List Transition → DirectMachine → Type 0
IsMachineRun start [] end = end ≡ start
IsMachineRun start (t ∷ h) end =
    (m : DirectMachine) × IsMachineRun start h m × IsMachineCall m t end

-- after a stop, once each life that was live was ended, each call was completed and each user was
-- released, no life is under way
abbrev pub AStopLeavesNothing : Type 0
AStopLeavesNothing =
    (start stops end : DirectMachine) (earlier later : List Transition)
    → AllFree start.list
    → IsMachineRun start earlier stops
    → IsMachineRun (machine_with stops.list stops.range true) later end
    → ((k : LifeKey) → is_live (phase_of stops.list k) ≡ true → 0 < times (ends k) later)
    → calls_in_flight end.list ≡ 0
    → ((slot : ℕ) → users_in (phase_at end.list slot) ≡ 0)
    → lives_of end.list ≡ 0

-- once the life of a key that was given is over, no transition under the key is ever possible again
abbrev pub StaleKeysStayStale : Type 0
StaleKeysStayStale =
    (start : List Slot) (earlier later : List Transition) (t : Transition)
    → AllFree start
    → AreEnabled start (earlier ▷▷ later)
    → 0 < times (reserves (key_concerned t)) earlier
    → (HasLife (slots_left_by start earlier) (key_concerned t) → ⊥)
    → IsEnabled (slots_left_by start (earlier ▷▷ later)) t → ⊥
