-- The calls between submissions, and refused submissions: if no allocation fails they lead to one
-- ring, and print one line.
use Rattle.check_texts.proofs.Words.{either_way, IsResultInRange, Errno, ENOMEM, call_of, fault_of, Asked, Instruction, SetsRange, SubmitsAll}
use Rattle.check_texts.proofs.Words.{MOST_SLOTS, IsRing, RingContents, RingState, ring_of, Reported, Prints, PrintsReport, HasEachNextStage, IsLineOf}
use Rattle.check_texts.proofs.Words.{LeadsRing, MayLeadTo, Stage, after_call, count_after, accepted_following, kept_text, IsCall, FoundMemory, Bool}
use Rattle.check_texts.proofs.Words.{List, None, Option, Some, [], ap, arith, refl, sym, ℕ, ◌++◌, ◌+◌, ◌<◌, ◌∙◌, ◌≡◌, ◌≤◌, Contains, ◌^◌, negated}
use Rattle.check_texts.proofs.Words.{AnswersFound, refusal_other, HasFound, Call, Tells, not_refused, Answers, answers, few_told, one_line_of}
use Rattle.check_lines.proofs.Decimals.{one_result}

pub submission_cases : {R : Type 0} (old next : RingContents) (asked : List Asked) (line : List ℕ)
    → (ring_of next ≡ ring_of old → accepted_following old.submissions (fault_of asked) ≡ old.submissions → R)
    → (PrintsReport old asked next line → accepted_following old.submissions (fault_of asked) ≡ old.submissions + 1 → R)
    → Prints old (SubmitsAll asked) next line → R
submission_cases old next asked line = grind (arith, either_way)

-- what a call leaves that found memory, and what it prints

call_parts : (old next : RingContents) (command : Instruction) (line : List ℕ) (own : Option Reported) → IsCall old.submissions command
    → Prints old command next line → FoundMemory old command next line own → Answers (ring_of old) command (ring_of next) line
call_parts old next command line own counts prints found = grind (arith, answers)

pub call_leaves : (old next : RingContents) (command : Instruction) (line : List ℕ) (own : Option Reported) → IsCall old.submissions command
    → Prints old command next line → FoundMemory old command next line own → ring_of next ≡ after_call (ring_of old) command
call_leaves old next command line own counts prints found = (call_parts old next command line own counts prints found).0

abbrev IsOther : Option Errno → Type 0
IsOther x = x ≡ Some ENOMEM → ⊥

-- a line that isn't that of -12

other_result : (errno : Errno) → IsOther (Some errno) → IsResultInRange (negated errno) × (negated errno ≡ negated ENOMEM → ⊥)
other_result errno other = grind arith

found_line : (ring : RingState) (call : Call) (x : Option Errno) {line : List ℕ} → IsOther x → (x ≡ None → call.res < 2 ^ 31)
    → AnswersFound x call.word (Tells ring call) line → HasFound call.word line
found_line ring call (Some errno) other few printed same =
    let result = other_result errno other in
    result.1 (one_result call.word (negated errno) (negated ENOMEM) [] [] result.0 (omega arith)
    (ap (λ (l : List ℕ). l ++ []) (sym printed ∙ same))).0
found_line ring call None {line} other few printed same =
    not_refused ring call.word call.res call.closed line [] [] (few refl) printed (ap (λ (l : List ℕ). l ++ []) same)

-- what a call leaves and prints, it may leave and print, and find memory

finds : (old next : RingContents) (command : Instruction) (line : List ℕ) → (ring_of old).size ≤ MOST_SLOTS
    → ring_of next ≡ after_call (ring_of old) command → IsLineOf (ring_of old) command line → FoundMemory old command next line None
finds old next (SetsRange off len) line few is printed = refl
finds old next (SubmitsAll asked) line few is printed = ap (λ (r : RingState). r.submissions) is
finds old next command line few is printed =
    let call = call_of (ring_of old) command in
    (refl, found_line (ring_of old) call call.refusal (refusal_other (ring_of old) command) (few_told (ring_of old) command few) printed)

pub call_leads : (old next : RingContents) (command : Instruction) (line : List ℕ) → (ring_of old).size ≤ MOST_SLOTS → IsCall old.submissions command
    → ring_of next ≡ after_call (ring_of old) command → IsLineOf (ring_of old) command line → LeadsRing old command next line
call_leads old next command line few counts is printed = grind (arith, answers, finds)

-- the same of stages: it may lead there, and nowhere else
module _ (keeps : Bool) (from new : Stage) (command : Instruction) (line : List ℕ) (call : IsCall from.ring.submissions command)
    (left : new.ring ≡ after_call from.ring command) (told : IsLineOf from.ring command line)
    (kept : new.printed ≡ kept_text keeps (from.printed ++ line)) where
  pub call_may_lead : (next : RingContents) → ring_of next ≡ new.ring → from.ring.size ≤ MOST_SLOTS → MayLeadTo keeps from command new
  call_may_lead next shows few = grind (arith, call_leads)

  pub call_only : (grown : List Stage) → IsRing from.ring → Contains grown new → HasEachNextStage keeps from command grown
  call_only grown is_ring there ring next other same holds = grind (arith, call_parts, one_line_of)

-- a call counts no submission
pub call_uncounted : {count : ℕ} (command : Instruction) → IsCall count command → count_after count command ≡ count
call_uncounted command call = grind arith
