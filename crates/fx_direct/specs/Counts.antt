-- The transitions of a key, counted.
use Rattle.std.specs.Prelude.{◌≡◌, ◌+◌, ◌<◌, ◌≤◌, ◌==◌, ◌∷◌, if◌then◌else◌}
use Rattle.fx_direct.specs.Words.{ℕ, Bool, true, false, List, [], ChainEnd, ChainOpen, LifeKey}
use Rattle.fx_direct.specs.Words.{Phase, Slot, Transition}
use Rattle.fx_direct.specs.Living.{same_key}
use Rattle.fx_direct.specs.Phases.{Chained, Free, Installed, Later, Due, AllFree, bit}
use Rattle.fx_direct.specs.Phases.{slot_numbered, phase_at, requests_in, users_in, is_installed}
use Rattle.fx_direct.specs.Phases.{is_closing, is_live, is_opening}
use Rattle.fx_direct.specs.Transitions.{Reserves, Adopts, Chains, Opens, Starts, Finishes, Holds}
use Rattle.fx_direct.specs.Transitions.{Releases, Ends, Asks, Closes, FailsToClose, IsEnabled}
use Rattle.fx_direct.specs.Transitions.{AreEnabled, slots_left_by}

-- the transitions, each counted as often as `each` says
abbrev pub times : (Transition → ℕ) → List Transition → ℕ
times each [] = 0
times each (t ∷ h) = times each h + each t

-- a number, if the keys are the same
abbrev pub of_key : LifeKey → LifeKey → ℕ → ℕ
of_key j k n = if same_key j k then n else 0

-- a life that begins, by a reservation or an adoption
abbrev pub reserves : LifeKey → Transition → ℕ
reserves k (Reserves j) = of_key j k 1
reserves k (Adopts j) = of_key j k 1
reserves k t = 0

abbrev pub chains : LifeKey → Transition → ℕ
chains k (Chains j requests closes) = of_key j k 1
chains k t = 0

-- an open that installed a file, or an adoption
abbrev pub opens : LifeKey → Transition → ℕ
opens k (Opens j true) = of_key j k 1
opens k (Adopts j) = of_key j k 1
opens k t = 0

-- a request, or those of a chain
abbrev pub starts : LifeKey → Transition → ℕ
starts k (Starts j) = of_key j k 1
starts k (Chains j requests closes) = of_key j k requests
starts k t = 0

abbrev pub finishes : LifeKey → Transition → ℕ
finishes k (Finishes j) = of_key j k 1
finishes k t = 0

abbrev pub holds : LifeKey → Transition → ℕ
holds k (Holds j) = of_key j k 1
holds k t = 0

abbrev pub releases : LifeKey → Transition → ℕ
releases k (Releases j) = of_key j k 1
releases k t = 0

-- an end, or the close of a chain
abbrev pub ends : LifeKey → Transition → ℕ
ends k (Ends j) = of_key j k 1
ends k (Chains j requests closes) = of_key j k (bit closes)
ends k t = 0

-- a close that is asked for, or that of a chain
abbrev pub asks : LifeKey → Transition → ℕ
asks k (Asks j) = of_key j k 1
asks k (Chains j requests closes) = of_key j k (bit closes)
asks k t = 0

abbrev pub closes : LifeKey → Transition → ℕ
closes k (Closes j) = of_key j k 1
closes k t = 0

-- a close that failed
abbrev pub fails : LifeKey → Transition → ℕ
fails k (FailsToClose j) = of_key j k 1
fails k t = 0

-- a chain's close was asked for, and its open wasn't seen to succeed
abbrev pub is_early_close : ChainOpen → ChainEnd → Bool
is_early_close Installed end = false
is_early_close opened Later = false
is_early_close opened Due = false
is_early_close opened end = true

abbrev pub is_early : Phase → Bool
is_early (Chained c) = is_early_close c.opened c.end
is_early p = false

-- the phase of a key's life. An earlier life of the slot has left nothing
abbrev pub phase_of : List Slot → LifeKey → Phase
phase_of slots k =
    if (slot_numbered slots k.slot).number == k.number then phase_at slots k.slot else Free

-- what was done under a key, if its life is in this phase now
pub record IsBalanced (h : List Transition) (k : LifeKey) (p : Phase) : Type 0 where
  -- each request that was started was finished once, or is in flight
  pub requests : times (starts k) h ≡ times (finishes k) h + requests_in p
  -- each user was released once, or is one now
  pub users : times (holds k) h ≡ times (releases k) h + users_in p
  -- the life of a file that was opened was ended once, or it is live
  pub ended : 0 < times (opens k) h → times (opens k) h ≡ times (ends k) h + bit (is_live p)
  -- where no file was opened, a chain alone was ended
  pub early : times (ends k) h ≤ times (opens k) h + times (chains k) h
  -- the close of a file that was opened was asked for once, and again each time that it failed, or
  -- the file is there. That of a chain was asked for before its open was seen
  pub asked : times (opens k) h + times (fails k) h + bit (is_early p)
      ≡ times (asks k) h + bit (is_installed p)
  -- each close that was asked for succeeded or failed, or is in flight
  pub closed : times (asks k) h ≡ times (closes k) h + times (fails k) h + bit (is_closing p)
  -- the key was given at most once, and then its open was completed at most once
  pub once : times (reserves k) h ≤ 1
  pub opened : times (opens k) h + bit (is_opening p) ≤ times (reserves k) h

-- whatever is done, each key is balanced
abbrev pub EachKeyIsBalanced : Type 0
EachKeyIsBalanced =
    (start : List Slot) (h : List Transition) (k : LifeKey)
    → AllFree start
    → AreEnabled start h
    → IsBalanced h k (phase_of (slots_left_by start h) k)

-- no key is given twice
abbrev pub KeysAreGivenOnce : Type 0
KeysAreGivenOnce =
    (start : List Slot) (h : List Transition) (k : LifeKey)
    → AllFree start
    → AreEnabled start h
    → times (reserves k) h ≤ 1

-- a slot is handed out only if nothing is left of any of its lives, and under a new key
abbrev pub NothingIsLeftOfALife : Type 0
NothingIsLeftOfALife =
    (start : List Slot) (h : List Transition) (given earlier : LifeKey)
    → AllFree start
    → AreEnabled start h
    → IsEnabled (slots_left_by start h) (Reserves given)
    → earlier.slot ≡ given.slot
    → IsBalanced h earlier Free × (times (reserves given) h ≡ 0)
