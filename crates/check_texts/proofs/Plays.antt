-- Plays in which memory is found: cut at a submission, and whole.
use Rattle.check_texts.proofs.{fault_of, Asked, Instruction, SubmitsAll, Meaning, RingContents, Reported, Prints, contains_none, LeadsAll}
use Rattle.check_texts.proofs.{count_after_all, accepted_following, FoundMemory, IsReportFound, IsTextFound, PrintsAllFound, List, Option, Some, []}
use Rattle.check_texts.proofs.{ap, arith, refl, ℕ, ⊎_elim, ◌++◌, ◌+◌, ◌∷◌, ◌≡◌, ◌≤◌, ◌⊎◌, append_assoc, option_to_list, Contains, FileEntry}
use Rattle.check_texts.proofs.{Completed, Place, RingState, files_of_ring, new_ring, ring_of, HasEachLast, HasEachSaidFrom, MayEnd, MayLeadAllTo}
use Rattle.check_texts.proofs.{MayLeadTo, MaySay, Stage, stage, MayAnswerIn, Bool, ◌<◌, ◌∙◌, Contains-append_cases, Contains-append_right}
use Rattle.check_texts.proofs.{contains_only, IsText, PrintsAll, teardown_text, after_grows, all_grows, leads_counts, own_number, starts, all_counts}
use Rattle.check_texts.proofs.{closes_for}

-- a text found is a text

all_printed : (ring : RingContents) (commands : List Instruction) (text : List ℕ) (reports : List Reported)
    → PrintsAllFound ring commands text reports → PrintsAll ring commands text
all_printed ring [] text reports found = found.0
all_printed ring (command ∷ commands) text reports (next, line, others, own, later, prints, memory, split, parts, rest) =
    (next, line, others, prints, split, all_printed next commands others later rest)

pub found_text : (script : Meaning) (text : List ℕ) → IsTextFound script text → IsText script text
found_text script text (reports, play) = (play.0, play.1, all_printed play.0 script.commands text reports play.2)

-- which of the reports a report is

-- its command's, or one of a later one
either_report : (old next : RingContents) (command : Instruction) (line : List ℕ) (own : Option Reported) (later : List Reported)
    {reports : List Reported} {report : Reported} → FoundMemory old command next line own → reports ≡ option_to_list own ++ later
    → Contains reports report → FoundMemory old command next line (Some report) ⊎ Contains later report
either_report old next command line own later memory parts inside = grind (arith, contains_none, contains_only, Contains-append_cases)

-- a play's reports are of the submissions that are counted on the way
pub numbers_behind : (ring : RingContents) (commands : List Instruction) (text : List ℕ) (reports : List Reported) {report : Reported}
    → PrintsAllFound ring commands text reports → Contains reports report
    → (ring.submissions + 1 ≤ report.submission) × (report.submission ≤ count_after_all ring.submissions commands)
numbers_behind ring [] text reports {report} found inside = absurd (contains_none report (rw found.1 at inside))
numbers_behind ring (command ∷ commands) text reports {report} (next, line, others, own, later, prints, memory, split, parts, rest) inside =
    let counts = leads_counts ring next command line own prints memory in
    let grows = rw counts at (all_grows commands next.submissions) in
    let more = after_grows command ring.submissions in
    ⊎_elim (λ found. let n = own_number ring next command line _ found in omega (arith, n.0, n.1))
    (λ there. let n = rw counts at (numbers_behind next commands others later {report = report} rest there) in omega (arith, n.0, n.1))
    (either_report ring next command line own later memory parts inside)

-- a play that goes on after others: its reports are among those of the whole
pub play_behind : (ring mid : RingContents) (front rest : List Instruction) (before text : List ℕ) (reports : List Reported)
    → LeadsAll ring front mid before → PrintsAllFound mid rest text reports
    → (all : List Reported) × PrintsAllFound ring (front ++ rest) (before ++ text) all
    × ((report : Reported) → Contains reports report → Contains all report)
play_behind ring mid [] rest before text reports (here, none) prints = (reports, rw (none, here) prints, λ report inside. inside)
play_behind ring mid (command ∷ front) rest before text reports (next, line, others, (own, one, memory), split, later) prints =
    let (all, whole, kept) = play_behind next mid front rest others text reports later prints in (
      option_to_list own ++ all,
      (next, line, others ++ text, own, all, one, memory, rw (split, append_assoc), refl, whole),
      λ report inside. Contains-append_right (option_to_list own) all report (kept report inside),
    )

-- where a submission's report comes from
pub record ReportAt (ring : RingContents) (front : List Instruction) (asked : List Asked) (report : Reported) : Type 0 where
  pub mid : RingContents
  pub next : RingContents
  pub before : List ℕ
  pub line : List ℕ
  pub leads : LeadsAll ring front mid before
  pub prints : Prints mid (SubmitsAll asked) next line
  pub found : IsReportFound mid asked next line report

pub report_at : {ring : RingContents} (front : List Instruction) {asked : List Asked} (behind : List Instruction) (text : List ℕ)
    (reports : List Reported) {report : Reported} → PrintsAllFound ring (front ++ SubmitsAll asked ∷ behind) text reports → Contains reports report
    → report.submission ≡ count_after_all ring.submissions front + 1
    → accepted_following (count_after_all ring.submissions front) (fault_of asked) ≡ count_after_all ring.submissions front + 1
    → ReportAt ring front asked report
report_at {ring} [] {asked} behind text reports (next, line, others, own, later, prints, memory, split, parts, rest) inside number counted =
    let counts = leads_counts ring next (SubmitsAll asked) line own prints memory in
    ⊎_elim
    (λ found. record { mid = ring; next = next; before = []; line = line; leads = (refl, refl); prints = prints; found = found })
    (λ there. let n = (numbers_behind next behind others later rest there).0 in absurd (omega arith))
    (either_report ring next (SubmitsAll asked) line own later memory parts inside)
report_at {ring} (command ∷ front) behind text reports (next, line, others, own, later, prints, memory, split, parts, rest) inside number counted =
    let counts = leads_counts ring next command line own prints memory in
    let grows = rw counts at (all_grows front next.submissions) in
    ⊎_elim (λ found. let n = own_number ring next command line _ found in absurd (omega (arith, n.0, n.1)))
    (λ there.
    let at = report_at front behind others later rest there (rw counts number) (rw counts counted) in
    record {
      mid = at.mid;
      next = at.next;
      before = line ++ at.before;
      line = at.line;
      leads = (next, line, at.before, (own, prints, memory), refl, at.leads);
      prints = at.prints;
      found = at.found;
    }) (either_report ring next command line own later memory parts inside)

-- The text of a whole play, and the answers of a request in it.

-- the end of the script can be printed
pub may_end : (state : RingState) → MayEnd state []
may_end state ring same =
    let (closes, has) = closes_for (files_of_ring (ring_of ring)) in
    (teardown_text (ring_of ring).catalogue closes.files, [], ((closes, has, refl), refl))

pub may_end_behind : (keeps : Bool) (old : Stage) {new : Stage} (command : Instruction) (commands : List Instruction)
    → MayLeadTo keeps old command new → MayEnd new.ring commands → MayEnd old.ring (command ∷ commands)
may_end_behind keeps old command commands leads ends ring same =
    let (next, line, (own, prints, found), is) = leads ring same in
    let (text, reports, rest) = ends next (ap (λ (s : Stage). s.ring) is) in
    (line ++ text, option_to_list own ++ reports, (next, line, text, own, reports, prints, found, refl, refl, rest))

none_counted : {catalogue : List FileEntry} (ring : RingContents) → ring_of ring ≡ new_ring catalogue → ring.submissions ≡ 0
none_counted ring new = ap (λ (r : RingState). r.submissions) new

module _ (script : Meaning) (place : Place) (front : List Instruction) (asked : List Asked) (behind : List Instruction)
    (split : script.commands ≡ front ++ SubmitsAll asked ∷ behind) (number : place.submission ≡ count_after_all 0 front + 1) where
  -- what is said after the first commands is an answer of a play
  pub said_is_answered : (keeps : Bool) {o : Stage} {c : Completed} → MayLeadAllTo keeps (new_ring script.catalogue) front o
      → MaySay o.ring asked behind place c → MayAnswerIn script place c
  said_is_answered keeps leads says =
      let (start, new) = starts script.catalogue in
      let (mid, before, all, mid_is) = leads start new in
      let (next, line, report, prints, found, inside, (text, reports, rest)) = says.says mid (ap (λ (s : Stage). s.ring) mid_is) in
      let (those, play, kept) = play_behind start mid front (SubmitsAll asked ∷ behind) before (line ++ text) (report ∷ reports) all
      (next, line, text, Some report, reports, prints, found, refl, refl, rest) in grind (arith, all_counts, none_counted)

  -- an answer of a play is said after the first commands
  pub answer_is_said : (keeps : Bool) (stages : List Stage) (said : List Completed) {c : Completed}
      → accepted_following (count_after_all 0 front) (fault_of asked) ≡ place.submission
      → HasEachLast keeps (new_ring script.catalogue) front stages → HasEachSaidFrom stages asked place said → MayAnswerIn script place c
      → Contains said c
  answer_is_said keeps stages said {c} counted last each may =
      let (ring, new, play) = may.play in
      let none = none_counted ring new in
      let at = report_at front behind may.text may.reports (rw split at play) may.among (rw none (may.submission ∙ number))
      (rw none (counted ∙ number)) in
      each (stage keeps at.mid at.before) (last ring at.mid at.before new at.leads) at.mid at.next at.line may.report c refl at.prints at.found
      may.inside may.there

-- no request answers in a submission that isn't there
pub none_answered : {script : Meaning} {place : Place} {c : Completed}
    → (place.submission ≡ 0) ⊎ (count_after_all 0 script.commands < place.submission) → MayAnswerIn script place c → ⊥
none_answered {script} none may =
    let (ring, new, play) = may.play in
    let n = rw (none_counted ring new) at (numbers_behind ring script.commands may.text may.reports play may.among) in grind arith
