-- The states of the judge, call by call, and where an access, a call or a close leads.
use Rattle.check_flight.proofs.Words.{IsStatePassed, runs_with, take_more, happening_of, LogEvent, all_happenings, length-map, get_or-map, ◌≡◌, ℕ}
use Rattle.check_flight.proofs.Words.{◌+◌, ◌-◌, ◌<◌, ◌≤◌, List, [], ◌∷◌, ◌++◌, length, refl, sym, ap, ◌∙◌, arith, ⊎_elim, Access, Asked, Bool}
use Rattle.check_flight.proofs.Words.{Completed, Contains, Option, Rest, Rules, false, over, subst, suc, zero, file_removed_by, run_at, settled_at}
use Rattle.check_flight.proofs.Words.{slice_index_or, step, Contains-append_cases, Contains-push_cases, Contains-append_left, Contains-append_right}
use Rattle.check_flight.proofs.Words.{option_to_list, table_with, if◌then◌else◌, Identity, inl, inr, take, eq-eqb, true, ◌⊎◌, false≢true}
use Rattle.check_flight.proofs.Words.{append_assoc, get_or_append_left, get_or_at, one_more_of, nat_le, slice_set, IsPermutation, map, nat_eq, filter}
use Rattle.check_flight.proofs.Words.{not, take-append_seam, cases_Bool, drop_all, get_or-set_other, get_or-set_same, get_or-drop, IsPermutation-sym}
use Rattle.check_flight.proofs.Words.{not_begun, table_of_slots, drop, file_Decides, map-append, take-append-drop, Progress, Contains-permutation}
use Rattle.check_flight.proofs.Words.{first_of_call, Happening, same_file, IsAccessFollowed, IsCallFollowed, IsFrontOf, IsWhollyFollowed}
use Rattle.check_flight.proofs.Words.{catalogue_in, flight_view, flight_views, log_in, rest_of, runs_of_calls, IsOneDenied, IsStateFollowed, AreFewer}
use Rattle.check_flight.proofs.Words.{AreWith, AreWithout, FlightView, LeadsByCall, StepsByAccess, ChainCall, JudgedLog, WaitingLook, IsMarked}
use Rattle.check_flight.proofs.Words.{file_number, IndexSet, Updates, FlightState, IsInTurnIf, length-drop, Place, moved, contains_map, contains_tail}
use Rattle.check_flight.proofs.Words.{cases_lt, le-leb, leb-false, lt-leb, All-contains, All-contains_itself, All-filter, filter_passes}
use Rattle.check_flight.proofs.Words.{IsAccessPassage, IsCopy, IsPassage, IsTakenIn, add-zero}
use Rattle.check_outcomes.specs.Stands.{HasEachNext, StepsChain, rest_for, rest_in}
use Rattle.check_flight.specs.declared.passage.Passage.{Passage}
use Rattle.check_flight.specs.declared.passage.Passage.TheVariants.{IsUnfit, Leads, Stops}
use Rattle.check_flight.proofs.Steps.{taken, taken_by}

-- The removed files.

-- one more file, in whatever order
pub are_with : (before after : List Identity) (file : Option Identity) → IsPermutation (before ++ option_to_list file) after → AreWith before file after
are_with before after file same other = (
  λ inside. ⊎_elim (λ old. inl old) (λ new. inr (taken file other new))
      (Contains-append_cases before (option_to_list file) other
      (Contains-permutation after (before ++ option_to_list file) other (IsPermutation-sym _ _ same) inside)),
  λ either. Contains-permutation (before ++ option_to_list file) after other same
      (⊎_elim (λ old. Contains-append_left before (option_to_list file) other old)
      (λ new. Contains-append_right before (option_to_list file) other (taken_by file other new)) either),
)

-- a filter keeps what passes
pub in_filter : {X : Type 0} (test : X → Bool) (xs : List X) {x : X} → Contains xs x → test x ≡ true → Contains (filter test xs) x
in_filter test [] (k, low, is) passes = absurd (omega arith)
in_filter test (y ∷ xs) (zero, low, is) passes =
    let yes : test y ≡ true = rw is passes in
    rw yes (zero, omega arith, is)
in_filter test (y ∷ xs) {x} (suc k, low, is) passes =
    let rest : Contains (filter test xs) x = in_filter test xs (k, omega arith, is) passes in
    ⊎_elim (λ (yes : test y ≡ true). rw yes (contains_tail y (filter test xs) x rest)) (λ (no : test y ≡ false). rw no rest) (cases_Bool (test y))

-- the files without one of them
pub without_file : (files after : List Identity) (file : Identity) → after ≡ filter (λ other. not (same_file other file)) files
    → AreWithout files file after × (Contains after file → ⊥)
without_file files after file is =
    let others = λ (other : Identity). not (same_file other file) in (
      λ other. (
        λ inside. All-contains (Contains files) (filter others files) other
            (All-filter others (Contains files) files (All-contains_itself files)) (rw is at inside),
        λ apart inside. rw is (in_filter others files inside (⊎_elim
            (λ (yes : same_file other file ≡ true). absurd (apart ((file_Decides other file).0 yes)))
            (λ (no : same_file other file ≡ false). rw no refl) (cases_Bool (same_file other file)))),
      ),
      λ inside.
          let passes : not (same_file file file) ≡ true =
          All-contains (λ (other : Identity). others other ≡ true) (filter others files) file (filter_passes others files) (rw is at inside) in
          let own : same_file file file ≡ true = (file_Decides file file).1 refl in
          false≢true (rw own at passes),
    )

-- The calls.

-- a later call is where the list has it
pub open_rest : (runs : List (List Asked)) (state : FlightState) (id j : ℕ) → id ≡ state.base + j + 1
    → rest_of runs state id ≡ rest_in (first_of_call id) (run_at runs id) (slice_index_or state.chains.items j not_begun)
open_rest runs state id j is =
    let later : nat_le id state.base ≡ false = lt-leb id state.base (omega arith) in
    let at : id - 1 - state.base ≡ j = omega arith in
    rw (later, at) refl

-- a call with members left has made the accesses that the list has
left_made : (place : Place) (requests : List Asked) (made : ℕ) → 0 < length requests → (rest_for place requests made).made ≡ made
left_made place [] made some = absurd (omega arith)
left_made place (request ∷ requests) made some = refl

pub amid_rest : (runs : List (List Asked)) (state : FlightState) (j : ℕ) {progress : Progress}
    → slice_index_or state.chains.items j not_begun ≡ progress → progress.done < length (run_at runs (state.base + j + 1))
    → (rest_of runs state (state.base + j + 1)).made ≡ progress.made
amid_rest runs state j {progress} here few =
    let run : List Asked = run_at runs (state.base + j + 1) in
    ap (λ (r : Rest). r.made) (open_rest runs state (state.base + j + 1) j refl)
    ∙ (ap (λ (p : Progress). (rest_in (first_of_call (state.base + j + 1)) run p).made) here
    ∙ left_made (moved (first_of_call (state.base + j + 1)) progress.done) (drop progress.done run) progress.made
    (omega (arith, few, length-drop progress.done run)))

-- another call is where it was
same_other : (runs : List (List Asked)) (base j : ℕ) (chains : List Progress) (after : Progress) (other : ℕ) → 1 ≤ other
    → (other ≡ base + j + 1 → ⊥)
    → (if nat_le other base then over
    else rest_in (first_of_call other) (run_at runs other) (slice_index_or (slice_set chains j after) (other - 1 - base) not_begun))
    ≡ (if nat_le other base then over
    else rest_in (first_of_call other) (run_at runs other) (slice_index_or chains (other - 1 - base) not_begun))
same_other runs base j chains after other low apart = ⊎_elim
    (λ early. rw early refl)
    (λ late.
    let low : base < other = leb-false other base late in
    let differs : other - 1 - base ≡ j → ⊥ = λ (same : other - 1 - base ≡ j). apart (omega arith) in
    rw (late, get_or-set_other chains j (other - 1 - base) after not_begun differs) refl)
    (cases_Bool (nat_le other base))

-- an access of the call that follows those that are over and j others
pub stepped : (runs : List (List Asked)) {rules : Rules} (state next : FlightState) {j id : ℕ} {a : Access} {own : List Asked}
    {progress after : Progress} {before answered : List Completed}
    → id ≡ state.base + j + 1 → next.base ≡ state.base → j < length state.chains.items
    → slice_index_or state.chains.items j not_begun ≡ progress
    → next.chains.items ≡ slice_set state.chains.items j after → own ≡ run_at runs id
    → StepsChain rules (first_of_call id) own progress a before answered after
    → table_of_slots next.slots ≡ table_with (table_of_slots state.slots) a
    → AreWith state.removed.items (file_removed_by a) next.removed.items → AreFewer state.waiting.items next.waiting.items
    → StepsByAccess rules (flight_view runs state) id a (flight_view runs next)
stepped runs {rules} state next {j} {id} {a} {own} {progress} {after} is base few here set run steps table removed waiting =
    let there : slice_index_or next.chains.items j not_begun ≡ after = rw set (get_or-set_same state.chains.items j after not_begun few) in
    let now : rest_of runs next id ≡ rest_in (first_of_call id) own after =
    rw (run, ← there) (open_rest runs next id j (omega arith)) in
    let was : rest_of runs state id ≡ rest_in (first_of_call id) own progress =
    rw (run, ← here) (open_rest runs state id j is) in
    record {
      table = table;
      own = now ∙ (steps.rest ∙ ap (λ (r : Rest). (step rules r a).1) (sym was));
      others = λ other low apart. rw (base, set) (same_other runs state.base j state.chains.items after other low (λ same. apart (omega arith)));
      removed = removed;
      waiting = waiting;
    }

-- The next call.

pub called : {rules : Rules} (runs : List (List Asked)) (state copy next : FlightState) (n done : ℕ) {id : ℕ} {own requests : List Asked}
    → id ≡ n + 1 → own ≡ requests → length runs ≡ n → state.base ≤ n → length state.chains.items ≡ n - state.base
    → IsCopy state state.base 0 copy → next.chains.items ≡ copy.chains.items ++ record { done = done; made = 0 } ∷ []
    → (settled_at rules (first_of_call (n + 1)) own).1 ≡ rest_in (first_of_call (n + 1)) own (record { done = done; made = 0 })
    → LeadsByCall rules (flight_view runs state) id requests (flight_view (runs ++ requests ∷ []) (record copy { chains = next.chains }))
    × AreFewer state.waiting.items copy.waiting.items
called {rules} runs state copy next n done {id} {own} is same many within count copied added settled =
    let last : Progress = record { done = done; made = 0 } in
    let after : FlightState = record copy { chains = next.chains } in
    let j : ℕ = n - state.base in
    let chains : next.chains.items ≡ state.chains.items ++ last ∷ [] = rw copied.chains at added in
    let run : run_at (runs ++ own ∷ []) (n + 1) ≡ own = get_or_at runs own [] [] (n + 1 - 1) (omega arith) in
    let here : slice_index_or next.chains.items j not_begun ≡ last = rw chains (get_or_at state.chains.items last [] not_begun j count) in
    let led : LeadsByCall rules (flight_view runs state) (n + 1) own (flight_view (runs ++ own ∷ []) after) = record {
      table = copied.table;
      own = open_rest (runs ++ own ∷ []) after (n + 1) j (omega arith) ∙ (rw (run, here) (sym settled));
      others = λ other low high.
          let before : run_at (runs ++ own ∷ []) other ≡ run_at runs other = get_or_append_left runs (own ∷ []) [] (other - 1) (omega arith) in
          rw (copied.base, before, chains) (⊎_elim (λ early. rw early refl)
          (λ late.
          let above : state.base < other = leb-false other state.base late in
          rw (late, get_or_append_left state.chains.items (last ∷ []) not_begun (other - 1 - state.base) (omega arith)) refl)
          (cases_Bool (nat_le other state.base)));
      removed = copied.removed;
    } in
    (rw (is, ← same) led, λ look inside. rw copied.waiting at inside)

-- The same state without its first calls, which are over.

module _ (runs : List (List Asked)) (state : FlightState) (n : ℕ)
    (over_there : (j : ℕ) → j < n → length (run_at runs (state.base + j + 1)) ≤ (slice_index_or state.chains.items j not_begun).done) where
  over_rest : (id j : ℕ) → id ≡ state.base + j + 1 → j < n → rest_of runs state id ≡ over
  over_rest id j is few =
      let p : Progress = slice_index_or state.chains.items j not_begun in
      let long : length (run_at runs id) ≤ p.done = rw is (over_there j few) in
      let none : drop p.done (run_at runs id) ≡ [] = drop_all p.done (run_at runs id) long in
      open_rest runs state id j is ∙ (rw none refl)

  rest_without : (base id : ℕ) → base ≡ state.base + n
      → (if nat_le id base then over
      else rest_in (first_of_call id) (run_at runs id) (slice_index_or (drop n state.chains.items) (id - 1 - base) not_begun))
      ≡ rest_of runs state id
  rest_without base id is = ⊎_elim
      (λ (high : base < id).
      let at : n + (id - 1 - base) ≡ id - 1 - state.base = omega arith in
      rw (lt-leb id base high, get_or-drop n state.chains.items (id - 1 - base) not_begun, at)
      (sym (open_rest runs state id (id - 1 - state.base) (omega arith))))
      (λ (low : id ≤ base). rw (le-leb id base low) (⊎_elim
      (λ (above : state.base < id). sym (over_rest id (id - 1 - state.base) (omega arith) (omega arith)))
      (λ (under : id ≤ state.base). rw (le-leb id state.base under) refl)
      (cases_lt state.base id)))
      (cases_lt base id)

  pub without_first : (next : FlightState) → IsCopy state (state.base + n) n next → flight_view runs next ≡ flight_view runs state
  without_first next copy =
      let each : (id : ℕ) → rest_of runs next id ≡ rest_of runs state id = λ id. rw copy.chains (rest_without next.base id copy.base) in
      λ i. record {
        table = copy.table i;
        rests = λ id. each id i;
        removed = copy.removed i;
        waiting = copy.waiting i;
      }

-- a copy
pub copied : (runs : List (List Asked)) (state next : FlightState) → IsCopy state state.base 0 next → flight_view runs next ≡ flight_view runs state
copied runs state next copy = without_first runs state 0 (λ j few. absurd (omega arith)) next (rw add-zero copy)

-- The looks that wait.

-- one look more was looked at, which waits
pub waits_more : (waiting after : List WaitingLook) (look : WaitingLook) → AreFewer waiting after → Contains waiting look
    → AreFewer waiting (after ++ look ∷ [])
waits_more waiting after look fewer inside other there =
    ⊎_elim (λ before. fewer other before) (λ last. rw (← last) inside) (Contains-push_cases after look other there)

-- a look more waits, and some wait no more
pub fewer_more : (waiting before after : List WaitingLook) (look : WaitingLook) → AreFewer waiting before → AreFewer (before ++ look ∷ []) after
    → AreFewer (waiting ++ look ∷ []) after
fewer_more waiting before after look fewer still other inside = ⊎_elim
    (λ old. Contains-append_left waiting (look ∷ []) other (fewer other old)) (λ new. Contains-append_right waiting (look ∷ []) other new)
    (Contains-append_cases before (look ∷ []) other (still other inside))

-- The events.

-- one event more was read
pub read_more : (events : List LogEvent) (at : ℕ) (event : LogEvent) → at < length events → event ≡ slice_index_or events at event
    → take (at + 1) (all_happenings events) ≡ take at (all_happenings events) ++ happening_of event ∷ []
read_more events at event few is =
    take_more (map happening_of events) at (happening_of event) (omega (arith, few, length-map events happening_of))
    ∙ ap (λ (e : Happening). take at (map happening_of events) ++ e ∷ [])
    (get_or-map happening_of events at event (happening_of event) few ∙ ap happening_of (sym is))

-- what a front takes in

pub passed_by : (log : JudgedLog) (runs : List (List Asked)) (read : List Happening) (nexts : List FlightState) (state : FlightState) (event : Happening)
    (passage : Passage) → IsPassage log runs read state event passage → IsTakenIn nexts passage
    → IsStatePassed log runs read nexts event (flight_view runs state)
passed_by log runs read nexts state event Stops is inside turn = inl (is turn)
passed_by log runs read nexts state event (Leads next) is inside turn =
    inr (flight_view (runs_with runs event) next, inside (runs_with runs event), is)
passed_by log runs read nexts state event IsUnfit is inside turn = absurd inside

pub followed_by : (log : JudgedLog) (runs : List (List Asked)) (states : List FlightState) (state : FlightState) (id : ℕ) (a : Access)
    (passage : Passage) → IsAccessPassage log runs state id a passage → IsTakenIn states passage → IsAccessFollowed log runs states state id a
followed_by log runs states state id a Stops is inside permits turn = inl (is permits turn)
followed_by log runs states state id a (Leads next) is inside permits turn = inr (flight_view runs next, inside runs, is)
followed_by log runs states state id a IsUnfit is inside permits turn = absurd inside

-- Lists that go on.

by_front : {X : Type 0} (before after : List X) → IsFrontOf before after → before ++ drop (length before) after ≡ after
by_front before after is = ap (λ (front : List _). front ++ drop (length before) after) (sym is) ∙ take-append-drop (length before) after

pub front_on : {X : Type 0} (a b c : List X) → IsFrontOf a b → IsFrontOf b c → IsFrontOf a c
front_on {X} a b c one two =
    let whole : a ++ (drop (length a) b ++ drop (length b) c) ≡ c =
    sym (append_assoc a (drop (length a) b) (drop (length b) c))
    ∙ (ap (λ (front : List X). front ++ drop (length b) c) (by_front a b one) ∙ by_front b c two) in
    ap (take (length a)) (sym whole) ∙ take-append_seam a (drop (length a) b ++ drop (length b) c)

pub front_at : {X : Type 0} (before after : List X) (k : ℕ) (d : X) → IsFrontOf before after → k < length before
    → slice_index_or after k d ≡ slice_index_or before k d
front_at {X} before after k d is few =
    ap (λ (l : List X). slice_index_or l k d) (sym (by_front before after is)) ∙ get_or_append_left before (drop (length before) after) d k few

pub views_more : (runs : List (List Asked)) (before after : List FlightState) → IsFrontOf before after → (view : FlightView)
    → Contains (flight_views runs before) view → Contains (flight_views runs after) view
views_more runs before after is view inside =
    subst (λ (l : List FlightState). Contains (flight_views runs l) view) (by_front before after is)
    (rw map-append (Contains-append_left (flight_views runs before) (flight_views runs (drop (length before) after)) view inside))

pub access_more : (log : JudgedLog) (runs : List (List Asked)) (before after : List FlightState) (state : FlightState) (id : ℕ) (a : Access)
    → IsFrontOf before after → IsAccessFollowed log runs before state id a → IsAccessFollowed log runs after state id a
access_more log runs before after state id a is followed permits turn =
    ⊎_elim (λ denied. inl denied) (λ led. inr (led.0, views_more runs before after is led.0 led.1, led.2)) (followed permits turn)

pub call_more : (log : JudgedLog) (runs : List (List Asked)) (before after : List FlightState) (state : FlightState) (id : ℕ)
    → IsFrontOf before after → IsCallFollowed log runs before state id → IsCallFollowed log runs after state id
call_more log runs before after state id is followed a next = access_more log runs before after state id a is (followed a next)

state_more : (log : JudgedLog) (calls : List ChainCall) (before after : List FlightState) (state : FlightState)
    → IsFrontOf before after → IsWhollyFollowed log calls before (flight_view (runs_of_calls calls) state)
    → IsWhollyFollowed log calls after (flight_view (runs_of_calls calls) state)
state_more log calls before after state is (followed, denied) =
    (λ id low high a next. access_more log (runs_of_calls calls) before after state id a is (followed id low high a next), denied)

-- Calls and states that were looked through.

-- each access that a call may make next
pub call_followed : (log : JudgedLog) (runs : List (List Asked)) (states : List FlightState) (state : FlightState) (id : ℕ) (choices : List Access)
    → HasEachNext (catalogue_in log) (table_of_slots state.slots) (rest_of runs state id) choices → length state.slots.at.items ≡ log.setting.size
    → ((k : ℕ) (d : Access) → k < length choices → IsAccessFollowed log runs states state id (slice_index_or choices k d))
    → IsCallFollowed log runs states state id
call_followed log runs states state id choices each size all a next permits =
    let (k, low, is) = each a (rw size next) permits in
    (subst (IsAccessFollowed log runs states state id) is (all k a low)) permits

-- each call
pub state_followed : (log : JudgedLog) (runs : List (List Asked)) (states : List FlightState) (state : FlightState) (calls : ℕ)
    → calls ≡ length runs → ((k : ℕ) → k < calls - state.base → IsCallFollowed log runs states state (state.base + k + 1))
    → IsStateFollowed log.whole (catalogue_in log) log.setting.size (log_in log) calls (flight_views runs states) (flight_view runs state)
state_followed log runs states state calls same each id low high a next permits turn = ⊎_elim
    (λ (late : state.base < id).
    let k : ℕ = id - 1 - state.base in
    let is : state.base + k + 1 ≡ id = omega arith in
    (subst (IsCallFollowed log runs states state) is (each k (omega arith))) a next permits
    (subst (λ (n : ℕ). IsInTurnIf log.whole n (flight_view runs state) id) same turn))
    (λ (early : id ≤ state.base). absurd (rw (le-leb id state.base early) at next))
    (cases_lt state.base id)

-- each state
pub each_view : (P : FlightView → Type 0) (f : FlightState → FlightView) (states : List FlightState)
    → ((k : ℕ) (d : FlightState) → k < length states → P (f (slice_index_or states k d))) → (view : FlightView) → Contains (map f states) view → P view
each_view P f states each view inside =
    let (x, (k, low, is), same) = contains_map f states view inside in
    subst P (ap f is ∙ sym same) (each k x low)

-- one state more
pub more_followed : (log : JudgedLog) (calls : List ChainCall) (before after : List FlightState) {n : ℕ} {state : FlightState} → n < length before
    → state ≡ slice_index_or before n state → IsFrontOf before after
    → ((k : ℕ) (d : FlightState) → k < n → IsWhollyFollowed log calls before (flight_view (runs_of_calls calls) (slice_index_or before k d)))
    → IsWhollyFollowed log calls after (flight_view (runs_of_calls calls) state)
    → (k : ℕ) (d : FlightState) → k < n + 1 → IsWhollyFollowed log calls after (flight_view (runs_of_calls calls) (slice_index_or after k d))
more_followed log calls before after low here is all last k d few =
    rw (front_at before after k d is (omega arith)) (one_more_of (λ (own : FlightState). IsWhollyFollowed log calls after (flight_view (runs_of_calls calls) own))
    before (λ j e less. state_more log calls before after (slice_index_or before j e) is (all j e less)) low here last k d few)

-- what a call answers at once is denied
pub denied_call : (log : List Happening) (rules : Rules) (n : ℕ) {id : ℕ} {requests own : List Asked} {answered : List Completed} → id ≡ n + 1 → own ≡ requests
    → answered ≡ (settled_at rules (first_of_call (n + 1)) own).0 → IsOneDenied log answered
    → IsOneDenied log (settled_at rules (first_of_call id) requests).0
denied_call log rules n is same all denied = rw (is, ← same, ← all) denied

-- a closed file more
pub marked_more : {S : Type 0} (before after : IndexSet ℕ S) (file : Identity) → Updates nat_eq before after (file_number file) true → (other : Identity)
    → (file ≡ other) ⊎ IsMarked before other → IsMarked after other
marked_more before after file updates other (inl same) =
    updates.0 (file_number other) ∙ (rw (eq-eqb (file_number file) (file_number other) (ap file_number same)) refl)
marked_more before after file updates other (inr marked) =
    updates.0 (file_number other) ∙ ⊎_elim (λ (yes : nat_eq (file_number file) (file_number other) ≡ true). rw yes refl)
    (λ (no : nat_eq (file_number file) (file_number other) ≡ false). rw no marked) (cases_Bool (nat_eq (file_number file) (file_number other)))
