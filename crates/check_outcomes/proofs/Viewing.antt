-- The states of the program, chain by chain, and how a chain goes on.
use Rattle.check_outcomes.proofs.Words.{◌≡◌, ℕ, ◌-◌, ◌<◌, ◌≤◌, List, [], ◌∷◌, ◌++◌, length, map, take, drop, refl, sym, ap, ◌∙◌, arith}
use Rattle.check_outcomes.proofs.Words.{slice_index_or, false≢true, Vec, Completed, Completion, all_completed, completed_of, map-append, take_all}
use Rattle.check_outcomes.proofs.Words.{get_or-map, take-append-drop, suc, ◌+◌, ◌==◌, false, Option, Some, None, append-nil, append_assoc, severs}
use Rattle.check_outcomes.proofs.Words.{Asked, Place, next_member, eq-eqb, All, length-map, not, ◌&&◌, Contains, IsTrue, table_of_slots, first_member}
use Rattle.check_outcomes.proofs.Words.{Request, all_asked, asked_of, get_or_from_slice_get, recursion_from_All, slice_get, slice_get_within, All-map}
use Rattle.check_outcomes.proofs.Words.{slice_set, length-drop, map-set, all_recorded, answers_of, Access, Rules, Settles, gone_on, moved, rest_for}
use Rattle.check_outcomes.proofs.Words.{settled_at, Progress, ne_eqb, drop-drop, StepsChain, list_all, asks_from, LeadsOn, IsStepTo, are_reads}
use Rattle.check_outcomes.proofs.Words.{has_reads_at, is_idle_at, not_begun, rules_in, runs_in, recorded_state_of, view_in, IsExploredBy, said_by}
use Rattle.check_outcomes.proofs.Words.{states_of, recorded_by, recorded_states, PlayedSubmission, Claimed, PlayState, is_read, IsRecordedOn, run_at}
use Rattle.check_outcomes.proofs.Words.{view_of_state, get_or-set_other, get_or-set_same, and_parts, IsAtStart, below_more, get_or_append_left}
use Rattle.check_outcomes.proofs.Words.{get_or_at, length-append, settled_in, Bool, true, rules}
use Rattle.std.specs.Cmp.Lexicographic.{pointwise}
use Rattle.fx_chain.specs.contracts.completion.CompletionPartialEq.TheImpl.{eq-value as eq_of_completion}
use Rattle.std.specs.Bool.{Decides}
use Rattle.check_outcomes.specs.contracts.submission.ProgressPartialEq.TheImpl.{eq-value as eq_of_progress}
use Rattle.check_outcomes.proofs.Lists.{inside_at}
use Rattle.check_outcomes.proofs.Idle.{all_reads, idle_some}

-- lists that say the same if `==` is true of them
pub same_each : {X Y : Type 0} (f : X → Y) {E : X → X → Bool} → ((x y : X) → E x y ≡ true → f x ≡ f y) → (xs ys : List X)
    → pointwise E xs ys ≡ true → map f xs ≡ map f ys
same_each f each [] [] is = refl
same_each f each [] (y ∷ ys) is = absurd (false≢true is)
same_each f each (x ∷ xs) [] is = absurd (false≢true is)
same_each f {E} each (x ∷ xs) (y ∷ ys) is =
    let both = and_parts (E x y) (pointwise E xs ys) is in
    λ i. each x y both.0 i ∷ same_each f each xs ys both.1 i

pub completion_same : (one other : Completion) → eq_of_completion.it one other ≡ true → completed_of one ≡ completed_of other
completion_same one other is = search rules

pub progress_Decides : (a b : Progress) → Decides (eq_of_progress.it a b) (a ≡ b)
progress_Decides a b = search rules

-- one chain answers more
pub set_answers : (before all : List (Vec Completion)) {i : ℕ} {old : Vec Completion} (mine : Vec Completion) (own : List Completed)
    → answers_of all ≡ answers_of before → i < length before → old ≡ slice_index_or before i old
    → all_completed mine.items ≡ all_completed old.items ++ own
    → answers_of (slice_set all i mine) ≡ slice_set (answers_of before) i (slice_index_or (answers_of before) i [] ++ own)
set_answers before all {i} {old} mine own same within is adds =
    let f : Vec Completion → List Completed = λ v. all_completed v.items in
    rw (get_or-map f before i old [] within, ← is) (map-set f all i mine ∙ (λ j. slice_set (same j) i (adds j)))

-- a list is cut where the first chain's answers end
pub cut_recorded : (cs : List Completion) {n m : ℕ} {own : Vec Completion} {others answers : List (Vec Completion)} → n ≡ m → answers ≡ own ∷ others
    → all_completed (take n cs) ≡ all_completed own.items → all_completed (take (length cs - m) (drop m cs)) ≡ all_recorded (answers_of others)
    → all_completed cs ≡ all_recorded (answers_of answers)
cut_recorded cs {n} {m} same is front back =
    let all : length (drop m cs) ≤ length cs - m = omega (arith, length-drop m cs) in
    rw (is, ← front, ← back, take_all (length cs - m) (drop m cs) all, same)
    (ap all_completed (sym (take-append-drop m cs)) ∙ map-append completed_of (take m cs) (drop m cs))

-- The progress of a chain, counted in members that are done.

-- what was recorded, and one answer after it
pub pushed : (before : List Completion) {after : List Completion} (c : Completion) {d : Completed} → after ≡ before ++ c ∷ [] → completed_of c ≡ d
    → all_completed after ≡ all_completed before ++ d ∷ []
pushed before c is same = rw (is, ← same) (map-append completed_of before (c ∷ []))

moved_on : (place : Place) (n : ℕ) → moved (next_member place) n ≡ moved place (1 + n)
moved_on place n = let same : place.member + 1 + n ≡ place.member + (1 + n) = omega arith in λ i. record place { member = same i }

-- a request that doesn't reach the table, and those after it
pub settled_on : (rules : Rules) {place : Place} {request : Asked} {requests : List Asked} {before after : List Completed} {passed : ℕ}
    → (rules.count request == 0) ≡ true
    → Settles (gone_on rules place request requests None) (next_member place) requests before after passed
    → Settles (settled_at rules place (request ∷ requests)) place (request ∷ requests) before after (1 + passed)
settled_on rules none goes = grind (arith, moved_on)

-- a request that answers, and those after it
module _ (rules : Rules) (place : Place) (request : Asked) (last : Option Access) {requests : List Asked} {c : Completed}
    {before middle after : List Completed} {passed : ℕ} (answers : c ≡ rules.answer place request last) (first : middle ≡ before ++ c ∷ []) where
  pub gone_past : severs request c ≡ false
      → Settles (settled_at rules (next_member place) requests) (next_member place) requests middle after passed
      → Settles (gone_on rules place request requests last) (next_member place) requests before after passed
  gone_past on settles = record {
    recorded = rw (← answers, on) (rw (first, append_assoc) at settles.recorded);
    rest = rw (← answers, on) settles.rest;
    within = settles.within;
  }

module _ {rules : Rules} {place : Place} {run : List Asked} {progress : Progress} {a : Access} where
  pub steps_over : {before : List Completed} → drop progress.done run ≡ [] → StepsChain rules place run progress a before before progress
  steps_over {before} none = record { recorded = rw none (sym (append-nil before)); rest = rw none refl }

  module _ {request : Asked} {requests : List Asked} (is : drop progress.done run ≡ request ∷ requests) where
    pub steps_more : {before : List Completed} {next : Progress} → (rules.count request ≡ progress.made + 1 → ⊥)
        → next.done ≡ progress.done → next.made ≡ progress.made + 1 → StepsChain rules place run progress a before before next
    steps_more {before} more done made = record {
      recorded = rw (is, ne_eqb _ _ more) (sym (append-nil before));
      rest = rw (done, made, is, ne_eqb _ _ more) refl;
    }

    pub steps_on : {before after : List Completed} {next : Progress} {passed : ℕ} → rules.count request ≡ progress.made + 1
        → Settles (gone_on rules (moved place progress.done) request requests (Some a)) (next_member (moved place progress.done)) requests
        before after passed
        → next.done ≡ progress.done + 1 + passed → next.made ≡ 0 → StepsChain rules place run progress a before after next
    steps_on {next = next} {passed = passed} last goes done made =
        let place_is : place.member + next.done ≡ place.member + progress.done + 1 + passed = omega arith in
        let sum : progress.done + suc passed ≡ next.done = omega arith in
        let left : drop next.done run ≡ drop passed requests =
        rw (← sum) (sym (drop-drop (suc passed) progress.done run) ∙ ap (drop (suc passed)) is) in
        record {
          recorded = rw (is, eq-eqb _ _ last) goes.recorded;
          rest = rw (is, eq-eqb _ _ last)
              ((λ i. rest_for (record place { member = place_is i }) (left i) (made i)) ∙ sym goes.rest);
        }

-- The states of the program, chain by chain.

pub less_one : (i : ℕ) → i + 1 - 1 ≡ i
less_one i = omega arith

-- a state that says the same is among the states
pub same_view : (submission : ℕ) (runs : List (List Asked)) (one other : PlayState) → table_of_slots one.slots ≡ table_of_slots other.slots
    → one.chains.items ≡ other.chains.items → view_of_state submission runs one ≡ view_of_state submission runs other
same_view submission runs one other table chains = grind (arith, run_at)

-- a state that says the same as one of these is among them
pub among : (submission : ℕ) (runs : List (List Asked)) (states : List PlayState) (there state : PlayState) (k : ℕ) → slice_get states k ≡ Some there
    → table_of_slots there.slots ≡ table_of_slots state.slots → there.chains.items ≡ state.chains.items
    → Contains (map (view_of_state submission runs) states) (view_of_state submission runs state)
among submission runs states there state k is table chains =
    inside_at (view_of_state submission runs) states (slice_get_within states k there is)
    (sym (get_or_from_slice_get states k there there is)) (same_view submission runs there state table chains)

-- whether a chain is idle of which some members are left, where nothing is recorded: by whether
-- these are reads and are asked for
pub idle_some_here : (submission : PlayedSubmission) (state : PlayState) (i : ℕ) (own left : List Request) {progress : Progress} {reads asks : Bool}
    → all_asked own ≡ slice_index_or (runs_in submission) i [] → slice_index_or state.chains.items i not_begun ≡ progress
    → all_asked left ≡ drop progress.done (all_asked own) → (length left ≡ 0 → ⊥) → submission.with_reports ≡ false
    → reads ≡ list_all (λ request. is_read (asked_of request).operation) left
    → asks ≡ asks_from submission.asked (moved (first_member submission.number (i + 1)) progress.done)
    → is_idle_at submission state i ≡ (reads && not asks)
idle_some_here submission state i own left {progress} run is behind some silent are ask =
    rw (less_one i, is, ← run, ← behind, are, all_reads left, ask)
    (idle_some submission (all_asked left) _ progress.made (λ none. some (omega (arith, length-map left asked_of))) silent)

pub requests_for : (place : Place) (requests : List Asked) (made : ℕ) → (rest_for place requests made).requests ≡ requests
requests_for place [] made = refl
requests_for place (request ∷ requests) made = refl

-- whether nothing but reads is left of a chain, by the members that are left
pub reads_here : (submission : PlayedSubmission) (state : PlayState) (i : ℕ) (own left : List Request) {progress : Progress} {reads : Bool}
    → all_asked own ≡ slice_index_or (runs_in submission) i [] → slice_index_or state.chains.items i not_begun ≡ progress
    → all_asked left ≡ drop progress.done (all_asked own) → reads ≡ list_all (λ request. is_read (asked_of request).operation) left
    → reads ≡ has_reads_at submission state i
reads_here submission state i own left {progress} run is behind are =
    are ∙ (all_reads left ∙ (rw (less_one i, is, ← run, ← behind) (ap are_reads (sym (requests_for _ (all_asked left) progress.made)))))

-- one more chain's answers
module _ (xs : List (Vec Completion)) (x : Vec Completion) where
  before_it : (k : ℕ) → k < length xs → slice_index_or (answers_of (xs ++ x ∷ [])) k [] ≡ slice_index_or (answers_of xs) k []
  before_it k few =
      let f : Vec Completion → List Completed = λ v. all_completed v.items in
      rw (map-append f xs (x ∷ [])) (get_or_append_left (answers_of xs) (f x ∷ []) [] k (omega (arith, length-map xs f)))

  at_it : (i : ℕ) → length xs ≡ i → slice_index_or (answers_of (xs ++ x ∷ [])) i [] ≡ all_completed x.items
  at_it i many =
      let f : Vec Completion → List Completed = λ v. all_completed v.items in
      rw (map-append f xs (x ∷ [])) (get_or_at (answers_of xs) (f x) [] [] i (omega (arith, length-map xs f)))

-- one more chain is at its first access, where its requests settle
pub start_more : {submission : PlayedSubmission} {recorded : List (Vec Completion)} {chains : List Progress} {i : ℕ} → length recorded ≡ i
    → length chains ≡ i → ((k : ℕ) → k < i → IsAtStart submission recorded chains k) → (mine : Vec Completion) {done : ℕ}
    → Settles (settled_in submission i) (first_member submission.number (i + 1)) (slice_index_or (runs_in submission) i []) []
    (all_completed mine.items) done
    → (k : ℕ) → k < i + 1 → IsAtStart submission (recorded ++ mine ∷ []) (chains ++ record { done = done; made = 0 } ∷ []) k
start_more {submission} {recorded} {chains} {i} many same each mine {done} settles =
    let own : Progress = record { done = done; made = 0 } in
    let all = length-append recorded (mine ∷ []) in
    below_more (IsAtStart submission (recorded ++ mine ∷ []) (chains ++ own ∷ [])) i
    (λ k low.
    let before = each k low in
    record {
      there = omega (arith, all);
      recorded_is = before_it recorded mine k (omega arith) ∙ before.recorded_is;
      rest = rw (get_or_append_left chains (own ∷ []) not_begun k (omega arith)) before.rest;
    }) (record {
      there = omega (arith, all);
      recorded_is = at_it recorded mine i many ∙ settles.recorded;
      rest = rw (get_or_at chains own [] not_begun i same) (sym settles.rest);
    })

-- what a chain answers follows what it answered before, and the answers of the others stay
leads_on : {submission : PlayedSubmission} {state : PlayState} {i : ℕ} {a : Access} {own : List Completed} {next : PlayState}
    → IsStepTo submission state i a own next → IsRecordedOn state.way_report i a own next.way_report
    → LeadsOn (rules_in submission) (recorded_state_of submission.number (runs_in submission) state) (i + 1) a
    (recorded_state_of submission.number (runs_in submission) next)
leads_on {state} {i} {own} to on =
    let before : List (List Completed) = answers_of state.way_report.answers.items in
    let many = length-map state.way_report.answers.items (λ (v : Vec Completion). all_completed v.items) in
    record {
      leads = to.leads;
      own = rw (← to.recorded, less_one i, on.answers) (get_or-set_same before i (slice_index_or before i [] ++ own) [] (omega (arith, on.there)));
      others = λ other low apart. rw on.answers (get_or-set_other before i (other - 1) _ [] (λ same. apart (omega arith)));
      removed = on.removed;
    }

-- an access is explored that leads to a state of the list, with answers that are said
pub explored : {claimed : Claimed} {state : PlayState} {i : ℕ} {a : Access} (recorded : List Completion) {next : PlayState}
    → IsStepTo claimed.submission.now state i a (all_completed recorded) next
    → All (λ c. said_by claimed (completed_of c)) recorded
    → Contains (states_of claimed) (view_in claimed.submission.now next)
    → (IsTrue claimed.submission.now.with_reports → IsRecordedOn state.way_report i a (all_completed recorded) next.way_report)
    → Contains (recorded_states claimed) (recorded_by claimed next)
    → IsExploredBy claimed state i a
explored {claimed} recorded {next} to said inside on among = record {
  is = record {
    said = rw (← to.recorded) (recursion_from_All (said_by claimed) (map completed_of recorded) (All-map (said_by claimed) completed_of recorded said));
    next = view_in claimed.submission.now next;
    inside = inside;
    leads = to.leads;
  };
  recorded = λ with_reports. (recorded_by claimed next, among, leads_on to (on with_reports));
}
