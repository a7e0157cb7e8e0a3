-- The exits of rings, and what is kept of their ways.
use Rattle.std.specs.Prelude.{◌≡◌, ◌∷◌, ℕ, List, [], Option, Some, None, true, Contains, IsTrue}
use Rattle.std.specs.Prelude.{All, length, map, slice_get, string_bytes, take}
use Rattle.check_texts.specs.Words.{flat_map, FileEntry, Instruction, instruction_of}
use Rattle.check_texts.specs.Words.{ring_with_slots, RingContents, ring_of}
use Rattle.std.specs.Global.{Vec}
use Rattle.fx_order.specs.declared.ring_slots.RingSlots.{RingSlots}
use Rattle.check_texts.specs.Rings.{HasEachNextStage, MayLeadTo, Stage, stages_of}
use Rattle.check_texts.specs.Ways.{AreDistinct, AreWays, CountsUpTo, GoesBy, ways_after}
use Rattle.check_texts.specs.declared.layers.Exits.{Exits}
use Rattle.check_texts.specs.declared.layers.Layer.{Layer}
use Rattle.check_texts.specs.declared.rests.KeptExit.{KeptExit}
use Rattle.check_texts.specs.declared.rests.KeptWays.{KeptWays}

-- a ring that is kept as slots, without what was printed before
abbrev pub bare : List FileEntry → RingSlots → Stage
bare catalogue ring = record { ring = ring_with_slots catalogue ring; printed = [] }

-- the command may lead to each of these exits; to no other, if so said
pub record AreExits (catalogue : List FileEntry) (command : Instruction) (exits : Exits) : Type 0
  where
    pub each : (s : Stage) → Contains (stages_of catalogue exits.to.items) s
        → MayLeadTo true (bare catalogue exits.ring) command s
    pub all : IsTrue exits.are_all → HasEachNextStage true (bare catalogue exits.ring) command
        (stages_of catalogue exits.to.items)

abbrev pub IsLayer : List FileEntry → Layer → Type 0
IsLayer catalogue layer =
    All (AreExits catalogue (instruction_of layer.command.now)) layer.exits.items

abbrev pub commands_in : List Layer → List Instruction
commands_in layers = map (λ layer. instruction_of layer.command.now) layers

-- the ways that begin with these exits; `behind` has those of a ring by its number
abbrev pub ways_from : (ℕ → List (List (List ℕ))) → List KeptExit → List (List (List ℕ))
ways_from behind exits =
    flat_map (λ exit. ways_after (string_bytes exit.line) (behind exit.number)) exits

abbrev pub ways_of : (ℕ → List (List (List ℕ))) → Option KeptWays → List (List (List ℕ))
ways_of behind None = []
ways_of behind (Some rest) = ways_from behind rest.exits.items

-- the ways that are kept of the ring of this number, among those before a command; after the end
-- there is one, in which nothing is printed
abbrev pub ways_at : List (List KeptWays) → ℕ → List (List (List ℕ))
ways_at [] number = [] ∷ []
ways_at (rests ∷ behind) number = ways_of (ways_at behind) (slice_get rests number)

abbrev pub ways_by : List (List KeptWays) → List KeptExit → List (List (List ℕ))
ways_by behind exits = ways_from (ways_at behind) exits

-- the ways of a ring, and those before each exit, are counted right
pub record AreCounted (behind : List (List KeptWays)) (rest : KeptWays) : Type 0 where
  pub ways : CountsUpTo rest.ways (length (ways_by behind rest.exits.items))
  pub before : (k : ℕ) (exit : KeptExit) → slice_get rest.exits.items k ≡ Some exit
      → CountsUpTo exit.before (length (ways_by behind (take k rest.exits.items)))

abbrev pub AreAllCounted : List (List KeptWays) → Type 0
AreAllCounted [] = Unit {0}
AreAllCounted (rests ∷ behind) = All (AreCounted behind) rests × AreAllCounted behind

-- these are ways of a ring by the commands and the end of the script, and known ones are counted
abbrev pub AreWaysOf : List FileEntry → List Instruction → RingSlots → List (List (List ℕ))
    → KeptWays → Type 0
AreWaysOf catalogue commands ring ways rest =
    AreWays (ring_with_slots catalogue ring) commands rest.are_all ways
    × CountsUpTo rest.ways (length ways)

-- the ways that are kept of a ring by the commands and the end of the script
pub record IsRest (catalogue : List FileEntry) (commands : List Instruction)
    (behind : List (List KeptWays)) (rest : KeptWays) : Type 0 where
  pub are : AreWays (ring_with_slots catalogue rest.ring) commands rest.are_all
      (ways_by behind rest.exits.items)
  pub counted : AreCounted behind rest

abbrev pub rests_in : List (Vec KeptWays) → List (List KeptWays)
rests_in rests = map (λ own. own.items) rests

-- the same of rings before the first command, and before each later one
abbrev pub AreRests : List FileEntry → List Instruction → List (List KeptWays) → Type 0
AreRests catalogue commands [] = ⊥
AreRests catalogue commands (rests ∷ behind) =
    All (IsRest catalogue commands behind) rests × AreAllCounted behind

-- the ways that are kept of a ring and begin with these exits; the first lines of the ways are
-- among these
pub record AreWaysBy (catalogue : List FileEntry) (command : Instruction)
    (commands : List Instruction) (behind : List (List KeptWays)) (exits : List Stage)
    (lines : List (List ℕ)) (rest : KeptWays) : Type 0 where
  pub each : (way : List (List ℕ)) → Contains (ways_by behind rest.exits.items) way
      → (ring : RingContents) → ring_of ring ≡ ring_with_slots catalogue rest.ring
      → GoesBy ring (command ∷ commands) way
  pub once : AreDistinct (ways_by behind rest.exits.items)
  pub first : (line : List ℕ) (way : List (List ℕ))
      → Contains (ways_by behind rest.exits.items) (line ∷ way) → Contains lines line
  pub all : IsTrue rest.are_all → (s : Stage) → Contains exits s
      → (ring : RingContents) (way : List (List ℕ)) → ring_of ring ≡ s.ring
      → GoesBy ring commands way → Contains (ways_by behind rest.exits.items) (s.printed ∷ way)
  pub counted : AreCounted behind rest
