-- The states that were looked through show all reports of a submission.
use Rattle.check_outcomes.proofs.{◌≡◌, refl, ℕ, ◌+◌, ◌-◌, ◌<◌, List, [], length, map, sym, ap, ◌∙◌, arith, slice_index_or, All, Bool, IsTrue}
use Rattle.check_outcomes.proofs.{Completed, length-map, Asked, runs_of, first_member, table_of_slots, All-contains, AllByRecursion, true, false}
use Rattle.check_outcomes.proofs.{false≢true, Chain, members_of, ⊎_elim, ◌≤◌, subst, Contains, Some, Completion, Place, all_completed, completed_of}
use Rattle.check_outcomes.proofs.{ring_of_slots, IsOneOrder, RingState, ring_of, Reported, recursion_from_All, IsAccepted, IsOrderOf, RingContents}
use Rattle.check_outcomes.proofs.{ring_left, suc, ◌∷◌, ◌++◌, Closed, Vec, all_asked, Slots, contains_map, Rest, settled_at, Parts, StaysIn}
use Rattle.check_outcomes.proofs.{AreAtStart, AreAllBy, IsAtStart, IsFirstState, IsStateExploredBy, said_by, states_of, recorded_by, recorded_states}
use Rattle.check_outcomes.proofs.{settled_in, AreRecordedClosed, is_state_idle, parts_by_numbers, rules_in, runs_in, view_in, Claimed, PlayState}
use Rattle.check_outcomes.proofs.{has_none, is_idle_at, PlayedSubmission, cases_Bool, AreParts, AreClosed, ArePartsIn, HasReadsAloneIn, IsTurnOfPart}
use Rattle.check_outcomes.proofs.{IsTurnOfReader, ChainAccess, each_history_is_an_order, HasMemory, AreAllStates, StateView, IsReportBy, MayReport}
use Rattle.check_outcomes.proofs.{IsPossibleIn, IsPossible, IsRecordedAt, OfEach, says, PossibleAnswer, PossibleReport, contains_mapped, HasEnd}
use Rattle.check_outcomes.proofs.{ring_at, IsAnswer, HasEachAnswer, HasEachEnd, ring_following, recorded_from, IsConfirmedPlay, RecordedState}
use Rattle.check_outcomes.proofs.{recorded_state_of, all_recorded, answers_of, HasEachReport, IsOverIn, HasReport, IsRecordedOf, ReportsOf, IsOver}
use Rattle.check_outcomes.proofs.{All-from_recursion, All-map, get_or_from_slice_get, slice_get-get_or, are_idle, none_for, none_left, over_idle}
use Rattle.check_outcomes.proofs.{each_run, less_one}
use Rattle.check_outcomes.specs.declared.parts.PartNumbers.{PartNumbers}
use Rattle.fx_ring.specs.Submission.{reported}
use Rattle.check_outcomes.proofs.First.{all_said}
use Rattle.check_outcomes.proofs.RecordedStates.{each_report_is_listed}
use Rattle.fx_order.proofs.Histories.{each_order_is_a_history}
use Rattle.fx_plain.specs.declared.table.TheConstants.{MOST_SLOTS}
use Rattle.fx_base.specs.CloseListView.{CloseListView}

pub as_many : (asked : List Asked) (chains : List Chain) → map (members_of asked) chains ≡ runs_of asked → length (runs_of asked) ≡ length chains
as_many asked chains whole = ap length (sym whole) ∙ length-map chains (members_of asked)

-- no chain has its turn after the part of a chain that isn't idle
pub is_turn : (submission : PlayedSubmission) (numbers : PartNumbers) (state : PlayState) {i : ℕ} → i < length (runs_in submission)
    → is_idle_at submission state i ≡ false → IsTurnOfPart submission numbers state (slice_index_or numbers.of_chain.items i 0)
is_turn submission numbers state {i} within awake later less turn =
    false≢true (sym awake ∙ turn.part (i + 1) (omega arith) (omega arith) (rw (less_one i, less_one later) less))

-- nor after that chain, if nothing but reads is left of the part
pub is_reader : (submission : PlayedSubmission) (numbers : PartNumbers) (state : PlayState) {part i : ℕ} → HasReadsAloneIn submission numbers state part
    → slice_index_or numbers.of_chain.items i 0 ≡ part → is_idle_at submission state i ≡ false → IsTurnOfReader submission numbers state part i
is_reader submission numbers state alone own awake later its less turn = grind (arith, less_one)

abbrev parts_by : Claimed → Parts
parts_by claimed = parts_by_numbers claimed.found.now.numbers

abbrev idle_by : Claimed → Rest → Bool
idle_by claimed = is_state_idle claimed.submission.now

module _ {claimed : Claimed} (many : length (runs_in claimed.submission.now) ≡ length claimed.submission.now.chains.now)
    (each : All (IsStateExploredBy claimed) claimed.found.now.states.items) where
  -- each state of the list is explored, so the list is closed
  closed_all : AreClosed claimed.submission.now.catalogue.now claimed.submission.now.size (idle_by claimed) (parts_by claimed)
      (said_by claimed) (length (runs_in claimed.submission.now)) (states_of claimed)
  closed_all state there chain low high =
      let (here, inside, is) = contains_map (view_in claimed.submission.now) claimed.found.now.states.items state there in
      let number : chain ≡ chain - 1 + 1 = omega arith in
      let explored = All-contains (IsStateExploredBy claimed) claimed.found.now.states.items here each inside (chain - 1) (omega arith) in
      rw (is, number) (λ turn awake a next may. (explored turn awake a next may).is)

  -- and with what is recorded
  recorded_closed : IsTrue claimed.submission.now.with_reports → AreRecordedClosed claimed.submission.now.catalogue.now claimed.submission.now.size
      (parts_by claimed) (length (runs_in claimed.submission.now)) (recorded_states claimed)
  recorded_closed with_reports state there chain low high =
      let sub = claimed.submission.now in
      let (here, inside, is) = contains_map (recorded_by claimed) claimed.found.now.states.items state there in
      let number : chain ≡ chain - 1 + 1 = omega arith in
      let explored = All-contains (IsStateExploredBy claimed) claimed.found.now.states.items here each inside (chain - 1) (omega arith) in
      let rest : Rest = (view_in sub here).rests (chain - 1 + 1) in
      rw (is, number) (λ turn a next may. ⊎_elim (λ asleep. absurd (rw (none_left sub rest with_reports asleep) at next))
      (λ awake. (explored (record {
        part = λ other from to less. idles here other (turn.part other from to less);
        reader = λ alone other from less same. idles here other (turn.reader alone other from less same);
      }) awake a next may).recorded with_reports)
      (cases_Bool (idle_by claimed rest)))
    where
      idles : (here : PlayState) (other : ℕ) → has_none ((view_in claimed.submission.now here).rests other) ≡ true
          → idle_by claimed ((view_in claimed.submission.now here).rests other) ≡ true
      idles here other none = let its = (view_in claimed.submission.now here).rests other in over_idle claimed.submission.now its (none_for its none)

-- the chains stay in their parts
parts_in : (claimed : Claimed) (slots : Slots) → length (runs_in claimed.submission.now) ≡ length claimed.submission.now.chains.now
    → ArePartsIn claimed.submission.now slots claimed.found.now.numbers
    → AreParts (table_of_slots slots) (parts_by claimed) 1 (runs_in claimed.submission.now)
parts_in claimed slots many are = each_run
    (λ chain. All (λ r. StaysIn (table_of_slots slots) (parts_by claimed).of_slot ((parts_by claimed).of_chain chain) r.operation))
    (AreParts (table_of_slots slots) (parts_by claimed)) (λ _. tt) (λ _ _ _ one others. (one, others))
    1 (runs_in claimed.submission.now) (λ k few. rw (less_one k) (are k (omega arith)))

-- the answers of a chain before its first access, and where it is then
abbrev settled_by : Claimed → ℕ → List Asked → List Completed × Rest
settled_by claimed chain run = settled_at (rules_in claimed.submission.now) (first_member claimed.submission.now.number chain) run

-- the chains are at their start
starts : (claimed : Claimed) (first : PlayState) {recorded : List (Vec Completion)} (Begins : ℕ → List Completed → Type 0)
    → length (runs_in claimed.submission.now) ≡ length claimed.submission.now.chains.now
    → ((i : ℕ) → i < length claimed.submission.now.chains.now
    → IsAtStart claimed.submission.now recorded first.chains.items i)
    → ((i : ℕ) → i < length claimed.submission.now.chains.now → Begins (i + 1) (settled_in claimed.submission.now i).0)
    → AreAtStart (rules_in claimed.submission.now) Begins claimed.submission.now.number 1 (runs_in claimed.submission.now)
    (view_in claimed.submission.now first).rests
starts claimed first Begins many start begins =
    let rests = (view_in claimed.submission.now first).rests in
    each_run (λ chain run. Begins chain (settled_by claimed chain run).0 × (rests chain ≡ (settled_by claimed chain run).1))
    (λ chain runs. AreAtStart (rules_in claimed.submission.now) Begins claimed.submission.now.number chain runs rests) (λ _. tt)
    (λ _ _ _ one others. (one.0, one.1, others)) 1 (runs_in claimed.submission.now)
    (λ k few. (begins k (omega arith), rw (less_one k) (start k (omega arith)).rest))

-- the answers of a chain are said, if all of it is
said_at : (P : Completed → Type 0) (recorded : List (Vec Completion)) → All (λ own. All (λ c. P (completed_of c)) own.items) recorded
    → (i : ℕ) → i < length recorded → AllByRecursion P (slice_index_or (answers_of recorded) i [])
said_at P recorded all i within =
    let f : Vec Completion → List Completed = λ v. all_completed v.items in
    let here = slice_index_or (answers_of recorded) i [] in
    let low : i < length (answers_of recorded) = omega (arith, length-map recorded f) in
    let (own, inside, is) = contains_map f recorded here
    (i, low, get_or_from_slice_get (answers_of recorded) i here here (slice_get-get_or (answers_of recorded) i [] low)) in
    let its = All-contains (λ own. All (λ c. P (completed_of c)) own.items) recorded own all inside in
    rw is (recursion_from_All P (map completed_of own.items) (All-map P completed_of own.items its))

pub all_by : {claimed : Claimed} {slots : Slots} {first : PlayState} (recorded : List (Vec Completion))
    → length (runs_in claimed.submission.now) ≡ length claimed.submission.now.chains.now → IsFirstState claimed.submission.now slots recorded first
    → All (λ own. All (λ c. said_by claimed (completed_of c)) own.items) recorded
    → Contains (states_of claimed) (view_in claimed.submission.now first) → Contains (recorded_states claimed) (recorded_by claimed first)
    → claimed.submission.now.size ≡ length slots.at.items → ArePartsIn claimed.submission.now slots claimed.found.now.numbers
    → All (IsStateExploredBy claimed) claimed.found.now.states.items → AreAllBy claimed slots
all_by {claimed} {slots} {first} recorded many start listed inside among size in_parts each =
    let sub = claimed.submission.now in
    record {
      are = λ submissions registrations number. record {
        idling = are_idle claimed;
        parts = parts_by claimed;
        apart = parts_in claimed slots many in_parts;
        first = view_in sub first;
        begins = record {
          table = start.table;
          chains = rw (← size, ← number) (starts claimed first (λ _ recorded. AllByRecursion (said_by claimed) recorded) many start.chains
              (λ i few. let at = start.chains i few in rw (← at.recorded_is) (said_at (said_by claimed) recorded listed i at.there)));
        };
        inside = inside;
        closed = rw (← size) (closed_all many each);
      };
      recorded = λ with_reports submissions registrations number. record {
        parts = parts_by claimed;
        apart = parts_in claimed slots many in_parts;
        first = recorded_by claimed first;
        begins = record {
          table = start.table;
          removed = start.removed;
          chains = rw (← size, ← number) (starts claimed first (λ chain recorded. (recorded_by claimed first).recorded chain ≡ recorded) many start.chains
              (λ i few. rw (less_one i, start.kept with_reports) (start.chains i few).recorded_is));
        };
        inside = among;
        closed = rw (← size) (recorded_closed many each with_reports);
      };
    }

-- A ring's histories, as an order and a whole list of states show them.

-- an order of accesses is one history
pub may_of : {old : RingState} {asked : List Asked} {order : List ChainAccess} {report : Reported} {slots : Slots} → old.size ≤ MOST_SLOTS
    → IsAccepted asked → IsReportBy old asked order report slots → (ring : RingContents) → ring_of ring ≡ old
    → (left : RingContents) × (ring_of left ≡ ring_following old slots) × MayReport ring asked report left
may_of {asked} {order} {report} small accepted by ring same =
    let is = subst (λ (r : RingState). IsOrderOf order r asked report) (sym same) by.is in
    let (left, left_is, history) = each_order_is_a_history ring asked report (ring_left order (ring_of ring))
    (subst (λ (r : RingState). r.size ≤ MOST_SLOTS) (sym same) small) accepted (record { order = order; is = is; after = refl }) in
    (left, left_is ∙ (ap (ring_left order) same ∙ sym by.leaves), record { history = history; memory = by.memory })

-- all states show each outcome that a ring may have
shown : {idle : Rest → Bool} (P : Completed → Type 0) {old : RingState} {asked : List Asked} {states : List StateView}
    → AreAllStates idle P old asked states → {ring left : RingContents} {report : Reported} → ring_of ring ≡ old → MayReport ring asked report left
    → AllByRecursion P report.completions × HasEnd old asked idle states (ring_of left)
shown P {old} {asked} all {ring} {left} {report} same may =
    all_said _ P old asked _ all report (ring_of left) (recursion_from_All HasMemory report.completions may.memory)
    (subst (λ (r : RingState). IsOneOrder r asked report (ring_of left)) same (each_history_is_an_order ring left asked report may.history))

-- all states show all answers
each_answer : {idle : Rest → Bool} {old : RingState} {asked : List Asked} {place : Place} (answers : List PossibleAnswer) {states : List StateView}
    → AreAllStates idle (says (Some place) answers) old asked states → HasEachAnswer old asked place answers
each_answer {place} answers all ring left c same may there =
    let P = says (Some place) answers in
    let completions = may.report.completions in
    All-contains P completions c (All-from_recursion P completions (shown P all same may.may).0) may.inside (ap Some (sym there))

pub ring_same : (old : RingState) (slots : Slots) (order : List ChainAccess) (state : StateView) → ring_following old slots ≡ ring_left order old
    → state.table ≡ table_of_slots slots → ring_at old state ≡ ring_following old slots
ring_same old slots order state leaves is =
    λ i. record old { size = (sym leaves i).size; range = (sym leaves i).range; at = (is i).at; submissions = old.submissions + 1 }

-- a report has an answer
pub is_answer : {old : RingState} {asked : List Asked} {place : Place} {possible : PossibleReport} {completion : Completion} → IsPossible old asked possible
    → Contains (all_completed possible.report.completions.items) (completed_of completion) → completion.place ≡ place
    → IsAnswer old asked place (record { completion = completion; order = possible.order; slots = possible.slots })
is_answer is inside there = grind arith

-- what was looked through shows all answers
pub answers_by : {claimed : Claimed} {slots : Slots} {place : Place} {answers : List PossibleAnswer} → claimed.submission.now.asked ≡ Some place
    → claimed.answers.now ≡ answers → AreAllBy claimed slots
    → OfEach claimed.submission.now slots (λ old requests. HasEachAnswer old requests place answers)
answers_by {answers} asked are all submissions registrations number =
    each_answer answers (rw (asked, are) at (all.are submissions registrations number))

-- and all rings that are left
pub ends_by : {claimed : Claimed} {slots : Slots} (reports : List PossibleReport) → AreAllBy claimed slots
    → All (IsRecordedAt claimed.submission.now reports) claimed.found.now.states.items → All (IsPossibleIn claimed.submission.now slots) reports
    → OfEach claimed.submission.now slots (λ old requests. HasEachEnd old requests reports)
ends_by {claimed} {slots} reports all recorded each submissions registrations number ring left report same may =
    let sub = claimed.submission.now in
    let old = ring_of_slots sub.catalogue.now slots submissions registrations in
    let end = (shown (said_by claimed) (all.are submissions registrations number) same may).1 in
    let (here, inside, is) = contains_map (view_in sub) claimed.found.now.states.items end.state end.inside in
    let way_report = All-contains (IsRecordedAt sub reports) claimed.found.now.states.items here recorded inside (rw is at end.over) in
    let its = All-contains (IsPossibleIn sub slots) reports way_report.0 each way_report.1 submissions registrations number in
    rw (end.leaves ∙ ring_same old way_report.0.slots way_report.0.order.items end.state its.by.leaves
    (ap (λ (v : StateView). v.table) is ∙ sym way_report.2.table))
    (contains_mapped (λ (p : PossibleReport). ring_following old p.slots) reports way_report.0 way_report.1)

-- The examined states show all reports.

-- what the chains answered, one after another
recorded_all : (recorded : ℕ → List Completed) (chain : ℕ) (runs : List (List Asked)) (answers : List (List Completed)) → length answers ≡ length runs
    → ((k : ℕ) → k < length answers → recorded (k + chain) ≡ slice_index_or answers k []) → recorded_from recorded chain runs ≡ all_recorded answers
recorded_all recorded chain [] [] many each = refl
recorded_all recorded chain [] (own ∷ others) many each = absurd (omega arith)
recorded_all recorded chain (run ∷ runs) [] many each = absurd (omega arith)
recorded_all recorded chain (run ∷ runs) (own ∷ others) many each =
    let here : 0 + chain ≡ chain = omega arith in
    let first = rw here at (each 0 (omega arith)) in
    let rest = recorded_all recorded (chain + 1) runs others (omega arith) (λ k few.
    let on : k + (chain + 1) ≡ suc k + chain = omega arith in
    rw on (each (suc k) (omega arith))) in
    λ i. first i ++ rest i

-- a confirmed play yields a report
pub is_possible : {old : RingState} {asked : List Asked} {report : Reported} {possible : PossibleReport}
    → IsConfirmedPlay old asked possible.order.items report possible.slots → report ≡ reported possible.report
    → All (λ file. file.entry < length old.catalogue) possible.report.closes.files → IsPossible old asked possible
is_possible play same entries = record { by = rw same at play.by; may = λ ring is. rw same at (play.may ring is); entries = entries }

-- the closes of a report as they were played
pub same_report : (submission : ℕ) (completions : List Completed) {files : List Closed} {closes : CloseListView} → closes.files ≡ files
    → closes.room ≡ 0
    → ◌≡◌ {A = Reported} (record { submission = submission; completions = completions; closes = record { files = files; room = 0 } })
    (record { submission = submission; completions = completions; closes = closes })
same_report submission completions same none =
    λ j. record { submission = submission; completions = completions; closes = record { files = sym same j; room = sym none j } }

-- a report of the state that a history reaches is a report of the history
fits_the_report : {sub : PlayedSubmission} {old : RingState} {submissions : ℕ} (here : PlayState) (report : Reported) (left : RingState) {possible : PossibleReport}
    → sub.number ≡ submissions + 1 → old.submissions ≡ submissions → length (runs_in sub) ≡ length sub.chains.now
    → (one : IsOneOrder old (all_asked sub.requests.now) report left) (states : List RecordedState)
    → (has : HasReport old (all_asked sub.requests.now) states report left) → has.here ≡ recorded_state_of sub.number (runs_in sub) here
    → IsTrue sub.with_reports → IsRecordedOf sub here possible → IsPossible old (all_asked sub.requests.now) possible → ReportsOf old report left possible
fits_the_report {sub} {old} here report left {possible} number counted many one states has is with_reports leaves its =
    let recorded = leaves.recorded with_reports in
    let answers = here.way_report.answers.items in
    let same_many = length-map answers (λ (v : Vec Completion). all_completed v.items) in
    let all = recorded_all (recorded_state_of sub.number (runs_in sub) here).recorded 1 (runs_in sub) (answers_of answers) (omega (arith, recorded.chains))
    (λ k few. ap (λ (n : ℕ). slice_index_or (answers_of answers) n []) (less_one k)) in
    record {
      submission = one.is.submission ∙ (ap (λ (n : ℕ). n + 1) counted ∙ (sym number ∙ sym recorded.submission_is));
      completions = has.completions ∙ (ap (λ (h : RecordedState). recorded_from h.recorded 1 (runs_in sub)) is ∙ (all ∙ sym recorded.completions));
      closes = rw (recorded.closes) (rw is at has.closes);
      leaves = has.leaves ∙ ring_same old possible.slots possible.order.items has.here.state its.by.leaves
          (ap (λ (h : RecordedState). h.state.table) is ∙ sym leaves.table);
    }

pub reports_by : {claimed : Claimed} {slots : Slots} (reports : List PossibleReport) → AreAllBy claimed slots
    → All (IsRecordedAt claimed.submission.now reports) claimed.found.now.states.items → All (IsPossibleIn claimed.submission.now slots) reports
    → IsTrue claimed.submission.now.with_reports → OfEach claimed.submission.now slots (λ old requests. HasEachReport old requests reports)
reports_by {claimed} {slots} reports all recorded each with_reports submissions registrations number ring left report same may =
    let sub = claimed.submission.now in
    let old = ring_of_slots sub.catalogue.now slots submissions registrations in
    let requests = all_asked sub.requests.now in
    let one = subst (λ (r : RingState). IsOneOrder r requests report (ring_of left)) same
    (each_history_is_an_order ring left requests report may.history) in
    let has = each_report_is_listed old requests (recorded_states claimed) (all.recorded with_reports submissions registrations number) report (ring_of left)
    may.memory one in
    let (here, inside, is) = contains_map (recorded_by claimed) claimed.found.now.states.items has.here has.inside in
    let over : IsOverIn sub here = λ chain low high.
    let rest : Rest = (view_in sub here).rests chain in
    over_idle sub rest (none_for rest (subst (λ (h : RecordedState). IsOver has_none (length (runs_in sub)) h.state) is has.over chain low high)) in
    let way_report = All-contains (IsRecordedAt sub reports) claimed.found.now.states.items here recorded inside over in
    let its = All-contains (IsPossibleIn sub slots) reports way_report.0 each way_report.1 submissions registrations number in (
      way_report.0,
      way_report.1,
      fits_the_report here report (ring_of left) number (λ _. submissions) (as_many requests sub.chains.now sub.runs)
          one (recorded_states claimed) has is with_reports way_report.2 its,
    )
