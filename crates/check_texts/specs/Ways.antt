-- The ways by which the plays of a script go if no allocation fails: the lines that each command
-- prints, and those of the end.
use Rattle.std.specs.Prelude.{◌≡◌, ◌≤◌, ◌<◌, ◌^◌, ◌-◌, ◌∷◌}
use Rattle.check_texts.specs.Words.{ℕ, List, [], Bool, Contains, IsTrue, length, map, Instruction}
use Rattle.check_texts.specs.Words.{Meaning, IsRing, RingContents, RingState, ring_of, IsNewRing}
use Rattle.check_texts.specs.Words.{PrintsEnd}
use Rattle.check_texts.specs.Rings.{LeadsRing, Stage}

-- the commands print these, one after another, and then the end of the script prints the last
abbrev pub GoesBy : RingContents → List Instruction → List (List ℕ) → Type 0
GoesBy ring [] way = (end : List ℕ) × PrintsEnd (ring_of ring) end × (way ≡ end ∷ [])
GoesBy ring (command ∷ commands) way =
    (next : RingContents) × (line : List ℕ) × (others : List (List ℕ))
    × LeadsRing ring command next line × (way ≡ line ∷ others) × GoesBy next commands others

-- no element of the list comes again
abbrev pub AreDistinct : {A : Type 0} → List A → Type 0
AreDistinct [] = Unit {0}
AreDistinct (x ∷ xs) = (Contains xs x → ⊥) × AreDistinct xs

-- a play of the script in which memory is found goes this way
abbrev pub IsWay : Meaning → List (List ℕ) → Type 0
IsWay script way = (ring : RingContents) × IsNewRing script ring × GoesBy ring script.commands way

-- the script has at least this number of ways, and no more if these are all
pub record HasWays (script : Meaning) (are_all : Bool) (count : ℕ) : Type 0 where
  pub ways : List (List (List ℕ))
  pub each : (way : List (List ℕ)) → Contains ways way → IsWay script way
  pub once : AreDistinct ways
  pub few : count ≤ length ways
  pub same : IsTrue are_all → count ≡ length ways
  pub all : IsTrue are_all → (way : List (List ℕ)) → IsWay script way → Contains ways way

-- whatever way a ring of this state goes is in the list
abbrev pub HasEachWay : RingState → List Instruction → List (List (List ℕ)) → Type 0
HasEachWay state commands ways =
    (ring : RingContents) (way : List (List ℕ)) → ring_of ring ≡ state → GoesBy ring commands way
    → Contains ways way

-- ways that each ring of this state may go by the commands, each once; all of them, if so said
pub record AreWays (state : RingState) (commands : List Instruction) (are_all : Bool)
    (ways : List (List (List ℕ))) : Type 0 where
  pub each : (way : List (List ℕ)) → Contains ways way
      → (ring : RingContents) → ring_of ring ≡ state → GoesBy ring commands way
  pub once : AreDistinct ways
  pub all : IsTrue are_all → HasEachWay state commands ways

-- a number that is at most the largest of its type, and that is right below it
pub record CountsUpTo (count number : ℕ) : Type 0 where
  pub few : count ≤ number
  pub same : count < 2 ^ 64 - 1 → count ≡ number

-- ways after a line
abbrev pub ways_after : List ℕ → List (List (List ℕ)) → List (List (List ℕ))
ways_after line others = map (λ way. line ∷ way) others

-- what every ring is, without what was printed before
abbrev pub IsBare : Stage → Type 0
IsBare s = IsRing s.ring × (s.printed ≡ [])

abbrev pub AreBare : List Stage → Type 0
AreBare stages = (s : Stage) → Contains stages s → IsBare s
