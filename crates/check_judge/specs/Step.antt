-- Steps of a play: a text that begins with a text of the next command, the ring after it, and the
-- verdict on that command.
use Rattle.std.specs.Prelude.{◌≡◌, ◌≤◌, ◌++◌, ℕ, List, length, take, drop}
use Rattle.check_judge.specs.Words.{FileEntry, RingContents, RingState, ring_of, Instruction}
use Rattle.check_judge.specs.Words.{Prints, HasNoCloses, RingSlots, ring_with_slots}
use Rattle.check_judge.specs.declared.command.Met.{Met}
use Rattle.check_judge.specs.declared.command.Met.TheVariants.{Here, Apart}
use Rattle.check_judge.specs.Ordered.{MayPrintBy}
use Rattle.check_judge.specs.declared.command.CommandVerdict.{CommandVerdict}
use Rattle.check_judge.specs.declared.command.CommandVerdict.TheVariants.{Printed, Broken}
use Rattle.check_judge.specs.declared.command.CommandVerdict.TheVariants.{Undecided}

-- the first `count` bytes of the text are this line
pub record BeginsWith (text : List ℕ) (count : ℕ) (line : List ℕ) : Type 0 where
  pub inside : count ≤ length text
  pub is_line : take count text ≡ line

-- the text begins with the line, or it doesn't
abbrev pub IsMet : List ℕ → List ℕ → Met → Type 0
IsMet text line (Here count) = BeginsWith text count line
IsMet text line (Apart expected) = (others : List ℕ) → text ≡ line ++ others → ⊥

-- each ring of the one state may be led to the other by the command, and print this
abbrev pub MayPrint : RingState → Instruction → RingState → List ℕ → Type 0
MayPrint old command new line =
    (ring : RingContents) → ring_of ring ≡ old
    → (next : RingContents) × (ring_of next ≡ new) × Prints ring command next line

-- a ring of this state is led to the next one by the command, and the text is what that prints and
-- then the others
pub record ContinuesText (old : RingState) (command : Instruction) (text : List ℕ) (next
    : RingContents)
    (others : List ℕ) : Type 0 where
  pub ring : RingContents
  pub line : List ℕ
  pub same : ring_of ring ≡ old
  pub prints : Prints ring command next line
  pub split : text ≡ line ++ others
  pub behind : HasNoCloses others

-- each text of the command with which the text continues has `count` bytes, and leads to that ring
abbrev pub LeadsTo : RingState → Instruction → List ℕ → ℕ → RingState → Type 0
LeadsTo old command text count new =
    (next : RingContents) (others : List ℕ) → ContinuesText old command text next others
    → (ring_of next ≡ new) × (others ≡ drop count text)

-- the text continues with no text of the command
abbrev pub LeadsNowhere : RingState → Instruction → List ℕ → Type 0
LeadsNowhere old command text =
    (next : RingContents) (others : List ℕ) → ContinuesText old command text next others → ⊥

-- the text continues with a text of the command in one way alone, which leads to that ring, or in
-- no way
abbrev pub IsStep : List FileEntry → RingSlots → Instruction → List ℕ → Met → RingSlots → Type 0
IsStep catalogue old command text (Here count) new =
    (count ≤ length text)
    × MayPrint (ring_with_slots catalogue old) command (ring_with_slots catalogue new)
    (take count text)
    × LeadsTo (ring_with_slots catalogue old) command text count (ring_with_slots catalogue new)
IsStep catalogue old command text (Apart expected) new =
    LeadsNowhere (ring_with_slots catalogue old) command text

-- the text continues with a text of the command in one way alone, by this order if there is one,
-- and leads to that ring; or in no way; an undecided verdict says nothing
abbrev pub IsCommandVerdict :
    List FileEntry → RingSlots → Instruction → List ℕ → CommandVerdict → RingSlots → Type 0
IsCommandVerdict catalogue old command text (Printed count order) new =
    (count ≤ length text)
    × MayPrintBy (ring_with_slots catalogue old) command (ring_with_slots catalogue new)
    (take count text) order
    × LeadsTo (ring_with_slots catalogue old) command text count (ring_with_slots catalogue new)
IsCommandVerdict catalogue old command text (Broken fault) new =
    LeadsNowhere (ring_with_slots catalogue old) command text
IsCommandVerdict catalogue old command text (Undecided doubt) new = Unit {0}
