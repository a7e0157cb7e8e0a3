-- Judgements on a script and a text.
use Rattle.std.specs.Prelude.{◌≡◌, ◌≤◌, ◌<◌, ◌+◌, ◌∷◌, ◌++◌, ℕ, List, [], length, take, drop}
use Rattle.check_judge.specs.Words.{RingContents, RingState, new_ring, ring_of, Instruction, IsText}
use Rattle.check_judge.specs.Words.{Prints, PrintsAll, Meaning, HasNoCloses, Order}
use Rattle.check_judge.specs.Ordered.{IsTextBy, MayPrintAllBy}
use Rattle.check_judge.specs.declared.judgement.Break.{Break}
use Rattle.check_judge.specs.declared.judgement.Judgement.{Judgement}
use Rattle.check_judge.specs.declared.judgement.Judgement.TheVariants.{Legal, NotLegal, Undecided}

-- the commands may print this, one after another
abbrev pub PrintsFront : RingContents → List Instruction → List ℕ → Type 0
PrintsFront ring [] text = text ≡ []
PrintsFront ring (command ∷ commands) text =
    (next : RingContents) × (line : List ℕ) × (others : List ℕ)
    × Prints ring command next line × (text ≡ line ++ others) × PrintsFront next commands others

-- each ring of this state may print this by these commands
abbrev pub MayPrintFront : RingState → List Instruction → List ℕ → Type 0
MayPrintFront state commands text =
    (ring : RingContents) → ring_of ring ≡ state → PrintsFront ring commands text

-- the commands print a beginning of this text, and this is left after it: it doesn't begin with a
-- line of a closed file or a tag, which would be a line of the commands
abbrev pub PrintsBeginning : RingContents → List Instruction → List ℕ → List ℕ → Type 0
PrintsBeginning ring [] text left = HasNoCloses text × (left ≡ text)
PrintsBeginning ring (command ∷ commands) text left =
    (next : RingContents) × (line : List ℕ) × (others : List ℕ)
    × Prints ring command next line × (text ≡ line ++ others)
    × PrintsBeginning next commands others left

-- from a ring of this state the commands and the end of the script don't print the text: the first
-- commands may print the first bytes, and no other beginning of it, but with the next command they
-- print none
pub record IsBrokenFrom (start : RingState) (commands : List Instruction) (text : List ℕ)
    (broken : Break) : Type 0 where
  pub none : (ring : RingContents) → ring_of ring ≡ start → ¬ (PrintsAll ring commands text)
  pub counted : broken.commands ≤ length commands
  pub inside : broken.at ≤ length text
  pub front : MayPrintFront start (take broken.commands commands) (take broken.at text)
  pub place : (ring : RingContents) (left : List ℕ) → ring_of ring ≡ start
      → PrintsBeginning ring (take broken.commands commands) text left
      → left ≡ drop broken.at text
  pub next : broken.commands < length commands
      → (ring : RingContents) (left : List ℕ) → ring_of ring ≡ start
      → ¬ (PrintsBeginning ring (take (broken.commands + 1) commands) text left)

-- there is a ring of this state, and each may print this by the commands and the end of the script,
-- by these orders
abbrev pub MayPrintRest : RingState → List Instruction → List ℕ → List Order → Type 0
MayPrintRest start commands text orders =
    ((ring : RingContents) × (ring_of ring ≡ start)) × MayPrintAllBy start commands text orders

-- a text is judged from a ring of this state: where it is legal, the ring may print it by the
-- commands and the end of the script, and where it isn't, no ring of this state prints it
abbrev pub IsJudgedFrom : RingState → List Instruction → List ℕ → Judgement → Type 0
IsJudgedFrom start commands text (Legal orders) = MayPrintRest start commands text orders.items
IsJudgedFrom start commands text (NotLegal broken) = IsBrokenFrom start commands text broken
IsJudgedFrom start commands text (Undecided submission doubt) = Unit {0}

-- the script doesn't print the text: it breaks there from a ring without a table
pub record IsBroken (script : Meaning) (text : List ℕ) (broken : Break) : Type 0 where
  pub none : ¬ (IsText script text)
  pub breaks : IsBrokenFrom (new_ring script.catalogue) script.commands text broken

-- the script may print a legal text, by a play whose submissions come of these orders, and doesn't
-- print a text that isn't legal
abbrev pub IsJudged : Meaning → List ℕ → Judgement → Type 0
IsJudged script text (Legal orders) = IsText script text × IsTextBy script text orders.items
IsJudged script text (NotLegal broken) = IsBroken script text broken
IsJudged script text (Undecided submission doubt) = Unit {0}
