-- Accepted submissions, and the lines that a text goes on with.
use Rattle.check_judge.proofs.{◌≡◌, ℕ, ◌+◌, ◌≤◌, List, length, map, filter, not, ◌==◌, take, sym, ap, subst, ◌∙◌, arith, Some, refl, FileEntry}
use Rattle.check_judge.proofs.{tags_of, all_completed, Asked, runs_of, IsOneOrder, ChainAccess, MOST_SLOTS, RingState, IsRing, ring_of, Reported}
use Rattle.check_judge.proofs.{SubmitsAll, Closed, named_close_of, lines_in, lines_of, lines_text, named_closes, CameBy, recorded_report, RingSlots}
use Rattle.check_judge.proofs.{Recorded, IsRingKept, BeginsWith, MayPrintBy, AreAccessPlaces, AreChainsDone, Order, Prints, PrintsReport}
use Rattle.check_judge.proofs.{RingContents, ◌↔◌, ring_with_slots, printed_lines, IsOrderOf, ring_left, HasLines, ◌++◌, None, Result, Ok, Err, Lines}
use Rattle.check_judge.proofs.{ReadsReport, ContinuesText, LeadsNowhere, LeadsTo, AreApart, YieldsKnown, Fault, IsReportBefore, Yields, one_at}
use Rattle.check_judge.proofs.{IsRefuted, each_order_is_a_history, each_request, each_report_leads_to_one_ring, IsCounted, left_in_range, are_from}
use Rattle.check_judge.proofs.{may_close_all}
use Rattle.check_lines.specs.declared.report_lines.ReportLines.{ReportLines}
use Rattle.fx_order.proofs.Ordered.{each_history_is_an_order}
use Rattle.fx_script.specs.Text.{report_text}
use Rattle.std.proofs.lemmas.Simd.{map-map}
use Rattle.check_judge.proofs.Plays.{rest_behind}
use Rattle.check_judge.proofs.InRange.{report_in_range}

-- the lines of the completions and closes are those that were read
pub recorded_lines : (catalogue : List FileEntry) (lines : ReportLines) (files : List Closed)
    → named_closes catalogue files ≡ map named_close_of lines.closed.items
    → map (λ file. file.tag) (filter (λ file. not (file.tag == 0)) files) ≡ lines.tags.items
    → (number room : ℕ) → lines_of catalogue (record {
      submission = number;
      completions = all_completed lines.completions.items;
      closes = record { files = files; room = room };
    }) ≡ lines_in lines
recorded_lines catalogue lines files closed tags number room =
    let all : map (λ completion. completion.user_data) (tags_of files) ≡ lines.tags.items = rw map-map tags in
    λ i. record { completions = all_completed lines.completions.items; closed = closed i; tags = all i }

-- the tags of files are those of their lines
pub tags_again : {files others : List Closed} → files ≡ others
    → map (λ file. file.tag) (filter (λ file. not (file.tag == 0)) files) ≡ map (λ completion. completion.user_data) (tags_of others)
tags_again same = rw (same, map-map)

-- a submission that is counted prints a report
pub counted_prints : {catalogue : List FileEntry} {old : RingSlots} {asked : List Asked} → IsCounted catalogue old asked
    → (ring next : RingContents) (line : List ℕ) → ring_of ring ≡ ring_with_slots catalogue old
    → Prints ring (SubmitsAll asked) next line ↔ PrintsReport ring asked next line
counted_prints s ring next line same = grind arith

module _ {catalogue : List FileEntry} {old : RingSlots} {asked : List Asked} (s : IsCounted catalogue old asked) (new : RingSlots) (recorded : Recorded) where
  abbrev before : RingState
  before = ring_with_slots catalogue old

  abbrev after : RingState
  after = ring_with_slots catalogue new

  abbrev Came : List ChainAccess → Type 0
  Came accesses = CameBy before asked recorded accesses after

  -- an order of the submission, at the ring after it
  pub ordered_is : {accesses : List ChainAccess} → Came accesses → IsOrderOf accesses before asked (recorded_report before recorded 0)
  ordered_is came = rw (came 0).1 at (came 0).0.is

  abbrev AreDone : List ChainAccess → Type 0
  AreDone accesses =
      AreChainsDone catalogue (length new.slots.at.items) new.submissions 1 (runs_of asked) accesses (all_completed recorded.completions.items)

  pub ordered_done : {accesses : List ChainAccess} → Came accesses → AreDone accesses
  ordered_done {accesses} came =
      let one = (came 0).0 in
      rw (ap (λ (r : RingState). r.size) one.after, ap (λ (r : RingState). r.submissions) one.after) (ordered_is came).done

  abbrev PlacesAt : ℕ → ℕ → Order → Type 0
  PlacesAt size submission order =
      AreAccessPlaces catalogue size submission (runs_of asked) (all_completed recorded.completions.items) order.accesses.items order.places.items

  pub accepted_goes : (order : Order) (lines : ReportLines) {text : List ℕ} {count : ℕ} → Came order.accesses.items
      → order.submission ≡ new.submissions
      → PlacesAt (length new.slots.at.items) new.submissions order → HasLines catalogue lines recorded
      → BeginsWith text count (lines_text (lines_in lines))
      → (count ≤ length text) × MayPrintBy before (SubmitsAll asked) after (take count text) (Some order)
  accepted_goes order lines {text} {count} came numbered listed has begins = (
    begins.inside,
    λ ring same.
        let report : Reported = recorded_report before recorded 0 in
        let printed : take count text ≡ report_text ring.catalogue report =
        begins.is_line ∙ ap lines_text (sym (has (old.submissions + 1) 0)) ∙ sym (printed_lines catalogue report)
        ∙ ap (λ (r : RingState). report_text r.catalogue report) (sym same) in
        let small : (ring_of ring).size ≤ MOST_SLOTS = subst (λ (r : RingState). r.size ≤ MOST_SLOTS) (sym same) s.kept.few_slots in
        let accesses : List ChainAccess = order.accesses.items in
        let first : IsOneOrder before asked report after = (came 0).0 in
        let is : IsOrderOf accesses before asked report = ordered_is came in
        let size : length new.slots.at.items ≡ length old.slots.at.items = ap (λ (r : RingState). r.size) first.after in
        let led : after ≡ ring_left accesses before = first.after ∙ ap (λ (l : List ChainAccess). ring_left l before) (came 0).1 in
        let counted : new.submissions ≡ old.submissions + 1 = ap (λ (r : RingState). r.submissions) first.after in
        let one : IsOneOrder (ring_of ring) asked report after = subst (λ (r : RingState). IsOneOrder r asked report after) (sym same) first in
        let history = each_order_is_a_history ring asked report after small s.accepted one in
        let next = history.0 in (
          next,
          history.1,
          (counted_prints s ring next (take count text) same).1
              (report, history.2, printed),
          (
            asked,
            refl,
            record {
              report = report;
              history = history.2;
              printed = printed;
              explained = subst (λ (r : RingState). IsOrderOf accesses r asked report) (sym same) is;
              left = history.1 ∙ led ∙ ap (ring_left accesses) (sym same);
              submission = numbered ∙ counted;
              places = subst (λ (r : RingState). AreAccessPlaces r.catalogue r.size report.submission (runs_of asked) report.completions accesses order.places.items)
                  (sym same) (subst (λ (z : ℕ × ℕ). PlacesAt z.0 z.1 order) (λ t. (size t, counted t)) listed);
            },
          ),
        ),
  )

  pub same_slots : {accesses : List ChainAccess} → Came accesses → length new.slots.at.items ≤ MOST_SLOTS
  same_slots came = rw (ap (λ (r : RingState). r.size) (came 0).0.after) s.kept.few_slots

  pub accepted_keeps : {accesses : List ChainAccess} → Came accesses → IsRing after → IsRingKept catalogue new
  accepted_keeps came is =
      let one = (came 0).0 in
      let counted : new.submissions ≡ old.submissions + 1 = ap (λ (r : RingState). r.submissions) one.after in
      let few = s.few in
      record {
        few_slots = same_slots came;
        few_submissions = omega arith;
        few_registrations = rw (ap (λ (r : RingState). r.registrations) one.after) s.kept.few_registrations;
        is_ring = is;
        files = s.kept.files;
        in_range = left_in_range s one;
      }

-- An accepted submission: a text goes on with its lines in one way alone.

module _ {catalogue : List FileEntry} {old : RingSlots} {asked : List Asked} (s : IsCounted catalogue old asked) (text : List ℕ) where
  abbrev ring_before : RingState
  ring_before = ring_with_slots catalogue old

  -- the text continues with a report of one order, whose lines are read in one way
  record Played (next : RingContents) (others : List ℕ) : Type 0 where
    report : Reported
    order : IsOneOrder ring_before asked report (ring_of next)
    split : text ≡ lines_text (lines_of catalogue report) ++ others
    fits : IsReportBefore (length asked) (lines_of catalogue report, others)

  played : (next : RingContents) (others : List ℕ) → ContinuesText ring_before (SubmitsAll asked) text next others → Played next others
  played next others g =
      let (report, history, printed) =
      (counted_prints s g.ring next g.line g.same).0 g.prints in
      let order : IsOneOrder ring_before asked report (ring_of next) =
      subst (λ (r : RingState). IsOneOrder r asked report (ring_of next)) g.same (each_history_is_an_order g.ring next asked report history) in
      record {
        report = report;
        order = order;
        split = g.split ∙ ap (λ (l : List ℕ). l ++ others) (printed ∙ ap (λ (r : RingState). report_text r.catalogue report) g.same
            ∙ printed_lines catalogue report);
        fits = record { each = each_request g.ring asked report next history; in_range = report_in_range s order; behind = g.behind };
      }

  -- a text of which no report is read
  pub none_read : ReadsReport (length asked) text None → LeadsNowhere ring_before (SubmitsAll asked) text
  none_read none next others g =
      let p = played next others g in none (lines_of catalogue p.report, others) p.fits p.split

  module _ (lines : ReportLines) (rest : List ℕ) (found : ReadsReport (length asked) text (Some (lines_in lines, rest))) where
    same_front : (next : RingContents) (others : List ℕ) (p : Played next others)
        → ◌≡◌ {A = Lines × List ℕ} (lines_of catalogue p.report, others) (lines_in lines, rest)
    same_front next others p = found.only (lines_of catalogue p.report, others) p.fits p.split

    recorded_files : (next : RingContents) (others : List ℕ) (p : Played next others) (recorded : Result Recorded Fault)
        → (AreApart catalogue old.slots → YieldsKnown catalogue old.slots asked lines recorded) → Yields recorded (λ read. read.closes.items) p.report.closes.files
    recorded_files next others p recorded tells = tells (record { names = s.kept.files.catalogue; marks = one_at ring_before s.kept.is_ring }) p.report
        (may_close_all s p.order) (are_from s p.order) (ap (λ (front : Lines × List ℕ). front.0) (same_front next others p))

    -- lines of no report
    pub none_recorded : (fault : Fault) → (AreApart catalogue old.slots → YieldsKnown catalogue old.slots asked lines (Err fault))
        → LeadsNowhere ring_before (SubmitsAll asked) text
    none_recorded fault tells next others g =
        let p = played next others g in recorded_files next others p (Err fault) tells

    module _ (recorded : Recorded) (has : HasLines catalogue lines recorded)
        (tells : AreApart catalogue old.slots → YieldsKnown catalogue old.slots asked lines (Ok recorded)) where
      -- the report is the one that was read
      same_report : (next : RingContents) (others : List ℕ) (p : Played next others) → p.report ≡ recorded_report ring_before recorded p.report.closes.room
      same_report next others p =
          let files : recorded.closes.items ≡ p.report.closes.files = recorded_files next others p (Ok recorded) tells in
          let completions : all_completed recorded.completions.items ≡ p.report.completions =
          ap (λ (l : Lines). l.completions) (has 0 0 ∙ sym (ap (λ (front : Lines × List ℕ). front.0) (same_front next others p))) in
          λ i. record {
            submission = p.order.is.submission i;
            completions = sym completions i;
            closes = record { files = sym files i; room = p.report.closes.room };
          }

      recorded_order : (next : RingContents) (others : List ℕ) (p : Played next others)
          → IsOneOrder ring_before asked (recorded_report ring_before recorded p.report.closes.room) (ring_of next)
      recorded_order next others p = subst (λ (r : Reported). IsOneOrder ring_before asked r (ring_of next)) (same_report next others p) p.order

      pub none_ordered : IsRefuted ring_before asked recorded → LeadsNowhere ring_before (SubmitsAll asked) text
      none_ordered refuted next others g =
          let p = played next others g in refuted p.report.closes.room (ring_of next) (recorded_order next others p)

      pub one_ordered : {new : RingState} {count : ℕ} → BeginsWith text count (lines_text (lines_in lines))
          → ((room : ℕ) → IsOneOrder ring_before asked (recorded_report ring_before recorded room) new) → LeadsTo ring_before (SubmitsAll asked) text count new
      one_ordered {new} {count} begins ordered next others g =
          let p = played next others g in (
            each_report_leads_to_one_ring ring_before asked (recorded_report ring_before recorded p.report.closes.room) (ring_of next) new
                s.kept.files.catalogue s.kept.is_ring (recorded_order next others p) (ordered p.report.closes.room),
            ap (λ (front : Lines × List ℕ). front.1) (same_front next others p) ∙ rest_behind begins found.printed,
          )
