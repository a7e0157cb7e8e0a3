-- Accepted submissions at a ring that is kept as slots, and their reports.
use Rattle.check_texts.proofs.Words.{IsPermutation, All-permutation, IsPermutation-sym, IsPermutation-cons, IsPermutation-middle, IsPermutation-trans}
use Rattle.check_texts.proofs.Words.{CloseListView, ChainAccess, Slots, report_text, IsAccepted, AreKnown, ring_left, Closed, List, [], arith, false}
use Rattle.check_texts.proofs.Words.{inl, inr, length, slice_index_or, suc, sym, true, zero, ℕ, ◌<◌, ◌∷◌, ◌≡◌, add-one, cases_Bool}
use Rattle.check_texts.proofs.Words.{IsPermutation-refl, HasEachEnd, HasEachReport, IsAnswer, IsPossible, IsTrue, ring_following, PossibleAnswer}
use Rattle.check_texts.proofs.Words.{PossibleReport, completed_of, fault_of, Asked, Place, Instruction, SubmitsAll, MOST_SLOTS, closes_text, IsRing}
use Rattle.check_texts.proofs.Words.{RingContents, RingState, ring_of, Reported, reported, MOST_SUBMISSIONS, Prints, contains_map, contains_mapped}
use Rattle.check_texts.proofs.Words.{HasEachNextStage, LeadsRing, MayEnd, MayLeadTo, MaySay, Stage, accepted_following, stage_reported, IsReportFound}
use Rattle.check_texts.proofs.Words.{Bool, None, Some, ap, map, refl, ◌++◌, ◌+◌, ◌≤◌, lt-leb, All, Contains, All-cons, All-nil, All-weaker}
use Rattle.check_texts.proofs.Words.{All-contains, All-contains_itself, HasClosed, IsReportBy, MayReport, ReportsOf, each_closed_file_is_known}
use Rattle.check_texts.proofs.Words.{completion_lines}
use Rattle.check_lines.proofs.Marks.{Rises, is_below, is_order, same_cmp, one_close_list}
use Rattle.check_search.proofs.Hopeless.{get_at}
use Rattle.check_texts.proofs.Growth.{stays}
use Rattle.check_texts.proofs.Walks.{history_counts, submission_counts}

-- a file among others in order of mark
put : (x : Closed) (ys : List Closed) → Rises ys → (zs : List Closed) × IsPermutation (x ∷ ys) zs × Rises zs
put x [] rises = (x ∷ [], IsPermutation-refl (x ∷ []), (All-nil (λ (z : Closed). is_below z x ≡ false), tt))
put x (y ∷ ys) rises = elim (cases_Bool (is_below y x)) [
  | inl is ↦ let (zs, moved, up) = put x ys rises.1 in (
    y ∷ zs,
    IsPermutation-trans (x ∷ y ∷ ys) (y ∷ x ∷ ys) (y ∷ zs)
        (IsPermutation-sym (y ∷ x ∷ ys) (x ∷ y ∷ ys) (IsPermutation-middle (y ∷ []) x ys)) (IsPermutation-cons y (x ∷ ys) zs moved),
    (
      All-permutation (λ (z : Closed). is_below z y ≡ false) (x ∷ ys) zs moved
          (All-cons (λ (z : Closed). is_below z y ≡ false) x ys (is_order.one_way y x is) rises.0),
      up,
    ),
  )
  | inr is ↦ (
    x ∷ y ∷ ys,
    IsPermutation-refl (x ∷ y ∷ ys),
    (
      All-cons (λ (z : Closed). is_below z x ≡ false) y ys is
          (All-weaker (λ (z : Closed). is_below z y ≡ false) (λ (z : Closed). is_below z x ≡ false)
          (λ z below. is_order.chain z y x below is) ys rises.0),
      rises,
    ),
  )
]

-- the files in order of mark
sorted : (xs : List Closed) → (ys : List Closed) × IsPermutation xs ys × Rises ys
sorted [] = ([], IsPermutation-refl [], tt)
sorted (x ∷ xs) =
    let (ys, moved, rises) = sorted xs in let (zs, placed, up) = put x ys rises in
    (zs, IsPermutation-trans (x ∷ xs) (x ∷ ys) zs (IsPermutation-cons x xs ys moved) placed, up)

rises_at : (xs : List Closed) (k : ℕ) (d : Closed) → Rises xs → suc k < length xs
    → is_below (slice_index_or xs (suc k) d) (slice_index_or xs k d) ≡ false
rises_at [] k d rises high = absurd (omega (arith, high))
rises_at (x ∷ xs) zero d rises high = rises.0 0 d (omega (arith, high))
rises_at (x ∷ xs) (suc k) d rises high = rises_at xs k d rises.1 (omega (arith, high))

pub closes_for : (files : List Closed) → (closes : CloseListView) × HasClosed files closes
closes_for files = let (xs, moved, rises) = sorted files in (
  record { files = xs; room = 0 },
  record {
    same_files = moved;
    in_order = λ k d low high.
        rw (add-one, sym (same_cmp (slice_index_or xs (suc k) d).mark (slice_index_or xs k d).mark)) (rises_at xs k d rises (omega (arith, high)));
  },
)

-- The outcomes of an accepted submission at a ring that is kept as slots.

pub counted_one : (requests : List Asked) {count : ℕ} → fault_of requests ≡ None → count < MOST_SUBMISSIONS
    → accepted_following count (fault_of requests) ≡ count + 1
counted_one requests {count} faultless few = rw (faultless, lt-leb MOST_SUBMISSIONS count few)

-- where a history leads and finds memory, the submission leads
report_leads : {ring next : RingContents} {asked : List Asked} {report : Reported} → fault_of asked ≡ None → ring.submissions < MOST_SUBMISSIONS
    → MayReport ring asked report next → LeadsRing ring (SubmitsAll asked) next (report_text ring.catalogue report)
report_leads {ring} {next} {asked} {report} faultless few may =
    let prints : Prints ring (SubmitsAll asked) next (report_text ring.catalogue report) =
    rw (faultless, lt-leb MOST_SUBMISSIONS ring.submissions few) (report, may.history, refl) in
    (Some report, prints, record { may = may; printed = refl })

module _ (keeps : Bool) (old : Stage) (asked : List Asked) (faultless : fault_of asked ≡ None) (few : old.ring.submissions < MOST_SUBMISSIONS) where
  pub possible_may_lead : {possible : PossibleReport} → IsPossible old.ring asked possible
      → MayLeadTo keeps old (SubmitsAll asked) (stage_reported keeps old possible)
  possible_may_lead {possible} is = λ ring same.
      let (left, behind, may) = is.may ring same in grind (arith, report_leads faultless (rw (sym same) at few) may)

pub answer_may_say : {old : RingState} {asked : List Asked} {place : Place} {answer : PossibleAnswer} {commands : List Instruction} → fault_of asked ≡ None
    → old.submissions < MOST_SUBMISSIONS → IsAnswer old asked place answer → MayEnd (ring_following old answer.slots) commands
    → MaySay old asked commands place (completed_of answer.completion)
answer_may_say faultless few is ends = record {
  there = is.there;
  says = λ ring same.
      let (left, behind, may) = is.may ring same in
      let (own, prints, found) = report_leads faultless (rw (sym same) at few) may.may in
      (left, report_text ring.catalogue may.report, may.report, prints, record { may = may.may; printed = refl }, may.inside, ends left behind);
}

-- the slots that are left are as many
pub few_left : {old : RingState} {asked : List Asked} {order : List ChainAccess} {report : Reported} {slots : Slots}
    → IsReportBy old asked order report slots → old.size ≤ MOST_SLOTS → length slots.at.items ≤ MOST_SLOTS
few_left by few = let same = ap (λ (r : RingState). r.size) by.leaves in omega arith

-- a submission that is counted has a report
has_report : {old : RingState} (ring next : RingContents) (asked : List Asked) (line : List ℕ) → ring_of ring ≡ old
    → accepted_following old.submissions (fault_of asked) ≡ old.submissions + 1 → LeadsRing ring (SubmitsAll asked) next line
    → (report : Reported) × IsReportFound ring asked next line report
has_report ring next asked line same counted holds = grind (arith, submission_counts)

-- and a refused submission has no report
pub no_report : {ring next : RingContents} {asked : List Asked} {line : List ℕ} {report : Reported}
    → IsReportFound ring asked next line report → Prints ring (SubmitsAll asked) next line
    → accepted_following ring.submissions (fault_of asked) ≡ ring.submissions → ⊥
no_report found prints stays = grind (arith, submission_counts, history_counts)

-- if a report lists another one, both print the same
module _ (old : RingState) (asked : List Asked) (is_ring : IsRing old) (accepted : IsAccepted asked) (ring next : RingContents)
    (same : ring_of ring ≡ old) (report : Reported) (may : MayReport ring asked report next)
    (possible : PossibleReport) (is : IsPossible old asked possible) (tells : ReportsOf old report (ring_of next) possible) where
  abbrev told : Reported
  told = reported possible.report

  known : AreKnown old asked told.closes.files
  known = grind (arith, each_closed_file_is_known old asked told (ring_left possible.order.items old) is_ring accepted, is.by.is)

  one_file : (x y : Closed) → Contains told.closes.files x → Contains told.closes.files y → x.mark ≡ y.mark → x ≡ y
  one_file x y holds also marks = grind (arith, get_at, known)

  closes_same : told.closes.files ≡ report.closes.files
  closes_same =
      one_close_list (Contains told.closes.files) one_file told.closes.files told.closes report.closes (All-contains_itself told.closes.files)
      (record { same_files = IsPermutation-refl told.closes.files; in_order = is.by.is.closed.in_order })
      (record { same_files = tells.closes; in_order = may.history.closed.in_order })

  pub texts_same : report_text ring.catalogue report ≡ report_text old.catalogue told
  texts_same = λ i. completion_lines (tells.completions i) ++ closes_text (same i).catalogue (sym closes_same i)

-- each stage that the submission leads to is that of a report; where it isn't kept what is printed,
-- the rings are enough
pub reports_are_all : (keeps : Bool) (old : Stage) {asked : List Asked} (reports : List PossibleReport) (stages : List Stage) → IsRing old.ring
    → IsAccepted asked → All (IsPossible old.ring asked) reports
    → ((s : Stage) → Contains (map (stage_reported keeps old) reports) s → Contains stages s)
    → accepted_following old.ring.submissions (fault_of asked) ≡ old.ring.submissions + 1 → HasEachEnd old.ring asked reports
    → (IsTrue keeps → HasEachReport old.ring asked reports) → HasEachNextStage keeps old (SubmitsAll asked) stages
reports_are_all true old {asked} reports stages is_ring accepted each inside counted ends all ring next line same leads =
    let (report, found) = has_report ring next asked line same counted leads in
    let (possible, there, tells) = all refl ring next report same found.may in
    let is = All-contains (IsPossible old.ring asked) reports possible each there in
    grind (arith, found.printed, texts_same old.ring asked is_ring accepted ring next same report found.may possible is tells, tells.leaves, contains_mapped (stage_reported true old) reports possible there)
reports_are_all false old {asked} reports stages is_ring accepted each inside counted ends all ring next line same leads =
    let (report, found) = has_report ring next asked line same counted leads in
    let (possible, there, is) = contains_map (λ (p : PossibleReport). ring_following old.ring p.slots) reports (ring_of next)
    (ends ring next report same found.may) in
    rw is (inside _ (contains_mapped (stage_reported false old) reports possible there))
