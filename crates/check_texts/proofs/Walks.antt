-- Commands that lead on, one after another, and the rings that they lead to.
use Rattle.check_texts.proofs.Words.{IsOneHistory, IsAnswer, ring_following, PossibleAnswer, FileEntry, shown, Asked, Place, Instruction, SubmitsAll}
use Rattle.check_texts.proofs.Words.{ring_with_files, shows_ring, ring_with_slots, IsRing, RingContents, new_ring, ring_of, LeadsRing, LeadsAll}
use Rattle.check_texts.proofs.Words.{MayLeadAllTo, MayLeadTo, Stage, stage_of, Reached, Bool, List, [], ap, refl, subst, sym, ℕ, ◌∷◌, ◌≡◌, from_here}
use Rattle.check_texts.proofs.Words.{fault_of, instruction_of, instructions_of, Command, RingState, Reported, Prints, AreStagesFrom, HasEachFrom}
use Rattle.check_texts.proofs.Words.{HasEachLast, count_after, count_after_all, accepted_following, kept_text, stage, FoundMemory, Option, Some}
use Rattle.check_texts.proofs.Words.{arith, drop, length, slice_index_or, take, ◌++◌, ◌+◌, ◌<◌, ◌∙◌, ◌≤◌, append-nil, append_assoc, map-append}
use Rattle.check_texts.proofs.Words.{map_more, Contains, none_rings, take-append-drop, called_ring, called_submissions}
use Rattle.fx_ring.proofs.SubmittedRing.{submitted_rings}
use Rattle.check_texts.proofs.Calls.{call_leaves, submission_cases}

leads_ring : (old next : RingContents) (command : Instruction) (line : List ℕ) → IsRing (ring_of old)
    → LeadsRing old command next line → IsRing (ring_of next)
leads_ring old next (SubmitsAll asked) line is (own, prints, found) =
    submission_cases old next asked line (λ same _. rw same is) (λ p _. submitted_rings old next asked p.0 is p.1) prints
leads_ring old next command line is (own, prints, found) =
    subst IsRing (sym (call_leaves old next command line own tt prints found)) (called_ring command is)

all_ring : (ring last : RingContents) (commands : List Instruction) (text : List ℕ) → IsRing (ring_of ring) → LeadsAll ring commands last text
    → IsRing (ring_of last)
all_ring ring last [] text is leads = rw leads.0 at is
all_ring ring last (command ∷ commands) text is (next, line, others, one, split, rest) =
    all_ring next last commands others (leads_ring ring next command line is one) rest

-- a ring that shows a new one
pub starts : (catalogue : List FileEntry) → (start : RingContents) × (ring_of start ≡ new_ring catalogue)
starts catalogue = (ring_with_files (new_ring catalogue), shows_ring (new_ring catalogue) (λ slot past. refl))

-- the ring of each stage that a script may reach
pub stage_ring : (keeps : Bool) {catalogue : List FileEntry} (commands : List Instruction) {s : Stage}
    → MayLeadAllTo keeps (new_ring catalogue) commands s → IsRing s.ring
stage_ring keeps {catalogue} commands leads = grind (arith, all_ring, starts catalogue, none_rings (new_ring catalogue) refl)

-- that of the next stage of a ring that is kept as slots
pub next_ring : (keeps : Bool) {catalogue : List FileEntry} (from : Reached) (command : Instruction) {new : Stage}
    → IsRing (ring_with_slots catalogue from.ring) → MayLeadTo keeps (stage_of catalogue from) command new → IsRing new.ring
next_ring keeps {catalogue} from command is leads =
    let (start, shows) = shown catalogue from.ring in
    let (next, line, one, same) = leads start shows in
    subst IsRing (ap (λ (t : Stage). t.ring) same) (leads_ring start next command line (rw shows is) one)

-- that of a ring after a submission that gave an answer
pub answer_ring : {catalogue : List FileEntry} (from : Reached) {asked : List Asked} {place : Place} {answer : PossibleAnswer}
    → IsRing (ring_with_slots catalogue from.ring) → IsAnswer (ring_with_slots catalogue from.ring) asked place answer
    → IsRing (ring_following (ring_with_slots catalogue from.ring) answer.slots)
answer_ring {catalogue} from {asked} is a =
    let (start, shows) = shown catalogue from.ring in
    let (left, behind, may) = a.may start shows in
    subst IsRing behind (submitted_rings start left asked may.report (rw shows is) may.may.history)

-- Commands that lead on, one after others, and how many submissions a ring has counted after them.

-- how many submissions a ring has counted

-- a history counts its submission
pub history_counts : {old next : RingContents} {asked : List Asked} {report : Reported} → IsOneHistory old asked report next
    → next.submissions ≡ old.submissions + 1
history_counts history = ap (λ (r : RingState). r.submissions) history.after

pub submission_counts : (old next : RingContents) (asked : List Asked) (line : List ℕ) → Prints old (SubmitsAll asked) next line
    → next.submissions ≡ accepted_following old.submissions (fault_of asked)
submission_counts old next asked line = grind (arith, submission_cases, history_counts)

pub leads_counts : (old next : RingContents) (command : Instruction) (line : List ℕ) (own : Option Reported) → Prints old command next line
    → FoundMemory old command next line own → next.submissions ≡ count_after old.submissions command
leads_counts old next command line own prints found = grind (arith, submission_counts, call_leaves, called_submissions)

pub all_counts : (ring last : RingContents) (commands : List Instruction) (text : List ℕ) → LeadsAll ring commands last text
    → last.submissions ≡ count_after_all ring.submissions commands
all_counts ring last [] text leads = rw leads.0
all_counts ring last (command ∷ commands) text (next, line, others, (own, prints, found), split, rest) =
    rw (leads_counts ring next command line own prints found) at (all_counts next last commands others rest)

pub after_grows : (command : Instruction) (count : ℕ) → count ≤ count_after count command
after_grows command count = grind arith

pub all_grows : (commands : List Instruction) (count : ℕ) → count ≤ count_after_all count commands
all_grows [] count = omega arith
all_grows (command ∷ commands) count =
    let one = after_grows command count in let rest = all_grows commands (count_after count command) in omega arith

-- the report of a command is that of the next submission
pub own_number : (old next : RingContents) (command : Instruction) (line : List ℕ) (report : Reported)
    → FoundMemory old command next line (Some report) → (report.submission ≡ old.submissions + 1) × (next.submissions ≡ old.submissions + 1)
own_number old next command line report found = grind (arith, history_counts)

-- one more command after others

leads_behind : (ring mid last : RingContents) (front : List Instruction) (command : Instruction) (before line : List ℕ)
    → LeadsAll ring front mid before → LeadsRing mid command last line → LeadsAll ring (front ++ command ∷ []) last (before ++ line)
leads_behind ring mid last [] command before line (here, none) leads = (last, line, [], rw here leads, rw (none, append-nil), (refl, refl))
leads_behind ring mid last (first ∷ front) command before line (next, printed, others, one, split, rest) leads =
    (next, printed, others ++ line, one, rw (split, append_assoc), leads_behind next mid last front command others line rest leads)

-- the ring before the last of some commands, and what was printed there
before_last : (ring last : RingContents) (front : List Instruction) (command : Instruction) (text : List ℕ)
    → LeadsAll ring (front ++ command ∷ []) last text
    → (mid : RingContents) × (before : List ℕ) × (line : List ℕ)
    × LeadsAll ring front mid before × LeadsRing mid command last line × (text ≡ before ++ line)
before_last ring last [] command text (next, line, others, one, split, (here, none)) =
    (ring, [], line, (refl, refl), rw here at one, rw (split, none, append-nil))
before_last ring last (first ∷ front) command text (next, line, others, one, split, rest) =
    let (mid, before, behind, all, last_one, is) =
    before_last next last front command others rest in
    (mid, line ++ before, behind, (next, line, before, one, refl, all), last_one, rw (split, append_assoc) (ap (λ (t : List ℕ). line ++ t) is))

-- what is kept of a text and a line is what is kept of what was kept and the line
kept_on : (keeps : Bool) (before line : List ℕ) → kept_text keeps (before ++ line) ≡ kept_text keeps (kept_text keeps before ++ line)
kept_on keeps before line = grind arith

pub each_more : (keeps : Bool) {first : RingState} (front : List Instruction) (command : Instruction) (old new : List Stage)
    → ((s : Stage) → Contains old s → MayLeadAllTo keeps first front s) → AreStagesFrom keeps old command new
    → {s : Stage} → Contains new s → MayLeadAllTo keeps first (front ++ command ∷ []) s
each_more keeps front command old new each from {s} inside = λ ring same.
    let (o, there, leads) = from s inside in
    let (mid, before, all, mid_is) = each o there ring same in
    let (last, line, one, last_is) = leads mid (ap (λ (t : Stage). t.ring) mid_is) in
    grind (arith, leads_behind ring mid last front command before line all one, kept_on keeps before line)

pub all_more : (keeps : Bool) {first : RingState} (front : List Instruction) (command : Instruction) (old new : List Stage)
    → HasEachLast keeps first front old → HasEachFrom keeps old command new → HasEachLast keeps first (front ++ command ∷ []) new
all_more keeps front command old new all next ring last text same leads =
    let (mid, before, line, leads_there, one, split) = before_last ring last front command text leads in
    rw (split, kept_on keeps before line) (next (stage keeps mid before) (all ring mid before same leads_there) mid last line refl one)

-- a command among others: those before it with it, all by it, and the count after it
module _ (commands : List Command) {done : ℕ} {command : Command} (inside : done < length commands)
    (is : command ≡ slice_index_or commands done command) where
  pub taken_one : instructions_of (take (done + 1) commands) ≡ instructions_of (take done commands) ++ instruction_of command ∷ []
  taken_one = grind (arith, map_more instruction_of commands done command inside)

  pub around : instructions_of commands
      ≡ instructions_of (take done commands) ++ instruction_of command ∷ instructions_of (drop (done + 1) commands)
  around = ap (λ (cs : List Command). instructions_of cs) (sym (take-append-drop done commands)
      ∙ ap (λ (cs : List Command). take done commands ++ cs) (from_here commands done command inside is))
      ∙ map-append instruction_of (take done commands) (command ∷ drop (done + 1) commands)

  pub count_one : {count : ℕ} → count ≡ count_after_all 0 (instructions_of (take done commands))
      → count_after count (instruction_of command) ≡ count_after_all 0 (instructions_of (take (done + 1) commands))
  count_one counts = rw (counts, taken_one) (sym (count_behind_all 0 (instructions_of (take done commands)) (instruction_of command)))
    where
      count_behind_all : (count : ℕ) (front : List Instruction) (command : Instruction)
          → count_after_all count (front ++ command ∷ []) ≡ count_after (count_after_all count front) command
      count_behind_all count [] command = refl
      count_behind_all count (first ∷ front) command = count_behind_all (count_after count first) front command
