-- The rings that commands may lead to if no allocation fails.
use Rattle.std.specs.Prelude.{◌≡◌, ◌⊎◌, ◌+◌, ◌∷◌, ◌++◌, ℕ, List, [], map, string_bytes, Bool, true}
use Rattle.std.specs.Prelude.{false, Option, Contains, IsTrue}
use Rattle.check_texts.specs.Words.{FileEntry, Completed, completed_of, fault_of, Asked, all_asked}
use Rattle.check_texts.specs.Words.{Place, ring_following, IsRing, RingContents, RingState, ring_of}
use Rattle.check_texts.specs.Words.{Reported, reported, Instruction, SubmitsAll, instructions_of}
use Rattle.check_texts.specs.Words.{ring_with_slots, Prints, report_text, accepted_following}
use Rattle.check_outcomes.specs.declared.outcomes.PossibleReport.{PossibleReport}
use Rattle.check_texts.specs.Texts.{FoundMemory, IsReportFound, PrintsAllFound}
use Rattle.check_texts.specs.declared.walk.Inquiry.{Inquiry}
use Rattle.check_texts.specs.declared.request_answers.Said.{Said}
use Rattle.check_texts.specs.declared.walk.Reached.{Reached}

-- the count of accepted submissions after a command
abbrev pub count_after : ℕ → Instruction → ℕ
count_after count (SubmitsAll asked) = accepted_following count (fault_of asked)
count_after count _ = count

-- the same after commands
abbrev pub count_after_all : ℕ → List Instruction → ℕ
count_after_all count [] = count
count_after_all count (command ∷ commands) = count_after_all (count_after count command) commands

-- a command leads from one ring to the other, prints this and finds memory
abbrev pub LeadsRing : RingContents → Instruction → RingContents → List ℕ → Type 0
LeadsRing old command new line =
    (own : Option Reported) × Prints old command new line × FoundMemory old command new line own

-- the commands do, one after another
abbrev pub LeadsAll : RingContents → List Instruction → RingContents → List ℕ → Type 0
LeadsAll ring [] last text = (ring ≡ last) × (text ≡ [])
LeadsAll ring (command ∷ commands) last text =
    (next : RingContents) × (line : List ℕ) × (others : List ℕ)
    × LeadsRing ring command next line × (text ≡ line ++ others)
    × LeadsAll next commands last others

-- how far a play has come: its ring, and what was printed, where that is kept
pub record Stage : Type 0 where
  pub ring : RingState
  pub printed : List ℕ

-- what is kept of a text
abbrev pub kept_text : Bool → List ℕ → List ℕ
kept_text true text = text
kept_text false text = []

-- the stage with this ring, after this text
abbrev pub stage : Bool → RingContents → List ℕ → Stage
stage keeps ring text = record { ring = ring_of ring; printed = kept_text keeps text }

-- each ring of the one stage may be led to the other stage by the command
abbrev pub MayLeadTo : Bool → Stage → Instruction → Stage → Type 0
MayLeadTo keeps old command new =
    (ring : RingContents) → ring_of ring ≡ old.ring
    → (next : RingContents) × (line : List ℕ) × LeadsRing ring command next line
    × (stage keeps next (old.printed ++ line) ≡ new)

-- each ring of this state may be led there by the commands
abbrev pub MayLeadAllTo : Bool → RingState → List Instruction → Stage → Type 0
MayLeadAllTo keeps old commands new =
    (ring : RingContents) → ring_of ring ≡ old
    → (last : RingContents) × (text : List ℕ) × LeadsAll ring commands last text
    × (stage keeps last text ≡ new)

-- wherever a ring of this stage is led by the command, that is in the list
abbrev pub HasEachNextStage : Bool → Stage → Instruction → List Stage → Type 0
HasEachNextStage keeps old command stages =
    (ring next : RingContents) (line : List ℕ) → ring_of ring ≡ old.ring
    → LeadsRing ring command next line → Contains stages (stage keeps next (old.printed ++ line))

-- each of the one list is where the command may lead to from one of the other
abbrev pub AreStagesFrom : Bool → List Stage → Instruction → List Stage → Type 0
AreStagesFrom keeps old command new = (s : Stage) → Contains new s
    → (o : Stage) × Contains old o × MayLeadTo keeps o command s

-- wherever a ring of a stage of the one list is led, that is in the other
abbrev pub HasEachFrom : Bool → List Stage → Instruction → List Stage → Type 0
HasEachFrom keeps old command new =
    (o : Stage) → Contains old o → HasEachNextStage keeps o command new

-- wherever the commands lead a ring of this state, that is in the list
abbrev pub HasEachLast : Bool → RingState → List Instruction → List Stage → Type 0
HasEachLast keeps old commands stages =
    (ring last : RingContents) (text : List ℕ) → ring_of ring ≡ old
    → LeadsAll ring commands last text → Contains stages (stage keeps last text)

-- the stages have what every ring is
abbrev pub AreRings : List Stage → Type 0
AreRings stages = (s : Stage) → Contains stages s → IsRing s.ring

-- each ring of this state may print something by these commands and the end of the script
abbrev pub MayEnd : RingState → List Instruction → Type 0
MayEnd state commands =
    (ring : RingContents) → ring_of ring ≡ state
    → (text : List ℕ) × (reports : List Reported) × PrintsAllFound ring commands text reports

-- the other list has what the one has, and only these besides
pub record Grows {X : Type 0} (Adds : X → Type 0) (old new : List X) : Type 0 where
  pub kept : (x : X) → Contains old x → Contains new x
  pub from : (x : X) → Contains new x → Contains old x ⊎ Adds x

abbrev pub stage_of : List FileEntry → Reached → Stage
stage_of catalogue reached = record {
  ring = ring_with_slots catalogue reached.ring;
  printed = string_bytes reached.printed;
}

abbrev pub stages_of : List FileEntry → List Reached → List Stage
stages_of catalogue rings = map (stage_of catalogue) rings

-- rings that the command may lead to from one were appended; all of them, if so said
pub record AppendsNext (keeps : Bool) (catalogue : List FileEntry) (from : Reached)
    (command : Instruction) (old new : List Reached) (are_all : Bool) : Type 0 where
  pub grows : Grows (MayLeadTo keeps (stage_of catalogue from) command) (stages_of catalogue old)
      (stages_of catalogue new)
  pub all : IsTrue are_all
      → HasEachNextStage keeps (stage_of catalogue from) command (stages_of catalogue new)

-- where a report leads
abbrev pub stage_reported : Bool → Stage → PossibleReport → Stage
stage_reported keeps old possible = record {
  ring = ring_following old.ring possible.slots;
  printed = kept_text keeps
      (old.printed ++ report_text old.ring.catalogue (reported possible.report));
}

-- a ring of this state may answer so at the place, before these commands
pub record MaySay (old : RingState) (asked : List Asked) (behind : List Instruction) (place : Place)
    (c : Completed) : Type 0 where
  pub there : c.place ≡ place
  pub says : (ring : RingContents) → ring_of ring ≡ old
      → (next : RingContents) × (line : List ℕ) × (report : Reported)
      × Prints ring (SubmitsAll asked) next line × IsReportFound ring asked next line report
      × Contains report.completions c
      × ((text : List ℕ) × (reports : List Reported) × PrintsAllFound next behind text reports)

-- whatever a ring of this state may answer at the place is in the list
abbrev pub HasEachSaid : RingState → List Asked → Place → List Completed → Type 0
HasEachSaid old asked place said =
    (ring next : RingContents) (line : List ℕ) (report : Reported) (c : Completed)
    → ring_of ring ≡ old → Prints ring (SubmitsAll asked) next line
    → IsReportFound ring asked next line report
    → Contains report.completions c → c.place ≡ place → Contains said c

-- each of the answers is what a ring of one of the stages may answer
abbrev pub AreSaidFrom :
    List Stage → List Asked → List Instruction → Place → List Completed → Type 0
AreSaidFrom old asked behind place said = (c : Completed) → Contains said c
    → (o : Stage) × Contains old o × MaySay o.ring asked behind place c

-- whatever a ring of one of the stages may answer is in the list
abbrev pub HasEachSaidFrom : List Stage → List Asked → Place → List Completed → Type 0
HasEachSaidFrom old asked place said =
    (o : Stage) → Contains old o → HasEachSaid o.ring asked place said

-- the commands are those before the asked submission, it, and those after it; and it is the one of
-- the place
pub record IsAskedIn (commands : List Instruction) (place : Place) (asking : Inquiry) : Type 0 where
  pub place_same : asking.place ≡ place
  pub split : commands ≡ instructions_of asking.front.now
      ++ SubmitsAll (all_asked asking.requests.now) ∷ instructions_of asking.behind.now
  pub number : place.submission ≡ count_after_all 0 (instructions_of asking.front.now) + 1
  pub counted : accepted_following (count_after_all 0 (instructions_of asking.front.now))
      (fault_of (all_asked asking.requests.now)) ≡ place.submission

abbrev pub said_in : List Said → List Completed
said_in answers = map (λ said. completed_of said.completion) answers
