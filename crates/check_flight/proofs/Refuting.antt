-- A refutation, from front to front.
use Rattle.check_flight.proofs.Words.{◌≡◌, ℕ, ◌+◌, ◌<◌, ◌≤◌, List, [], ◌∷◌, ◌++◌, length, take, refl, sym, ap, ◌∙◌, arith, subst, Asked, FileEntry}
use Rattle.check_flight.proofs.Words.{RingState, contains_head, Contains, inl, inr, ⊎_elim, drop, length-map, length-append, take-take, take_more}
use Rattle.check_flight.proofs.Words.{Happening, AllSettled, ring_of_slots, Slots, WaitingLook, IsFrontOf, catalogue_in, flight_view, flight_views}
use Rattle.check_flight.proofs.Words.{log_in, requests_of, rules_of_log, runs_of_calls, IsInitialState, IsNextFront, IsReached, IsReachedBy}
use Rattle.check_flight.proofs.Words.{IsReachedFrom, ReachedStates, event_at, rules_of, AreFollowed, ArePassed, FlightView, GoesOnTo, HasNoFlightBy}
use Rattle.check_flight.proofs.Words.{IsNumbered, runs_with, ChainCall, JudgedLog, FlightState, take-append-drop, Contains-append_left, IsTableOf}
use Rattle.check_flight.proofs.Words.{nil_from_length, take_all, AreCalls, map-append, slice_index_or, Bool, IsInTurnIf, IsCopy}
use Rattle.check_flight.proofs.Fronts.{all_next, calls_with, from_start, no_calls, none_left}
use Rattle.check_flight.proofs.Judging.{copied, views_more}
use Rattle.check_flight.proofs.Steps.{only_one}

-- before the first event
pub reached_first : (whole : Bool) (slots : Slots) (catalogue : List FileEntry) (log : List Happening) (submissions registrations : ℕ) (calls : List ChainCall)
    (states : List FlightState) (state : FlightState) → calls ≡ [] → states ≡ state ∷ [] → IsInitialState slots state
    → IsReachedBy whole (ring_of_slots catalogue slots submissions registrations) log 0 calls states
reached_first whole slots catalogue log submissions registrations calls states state none only initial =
    let old : RingState = ring_of_slots catalogue slots submissions registrations in
    let start : FlightView = flight_view [] state in
    let leads : GoesOnTo old [] [] start = record {
      table = initial.table;
      rests = λ id low high. absurd (omega arith);
      unmade = λ id high. refl;
      has = λ file inside unclosed. absurd (let few = inside.1 in omega arith);
      only = λ file inside. let empty = rw initial.removed at inside in absurd (let few = empty.1 in omega arith);
      waits = λ look inside. let empty = rw initial.waiting at inside in absurd (let few = empty.1 in omega arith);
    } in
    let closed : AreFollowed whole catalogue old.size log 0 (start ∷ []) = λ view inside. (
      λ id low high. absurd (omega arith),
      λ look found waiting.
          let same : start ≡ view = only_one start view inside in
          let empty : Contains [] look = subst (λ (l : List WaitingLook). Contains l look) initial.waiting
          (subst (λ (own : FlightView). Contains own.waiting look) (sym same) waiting) in absurd (let few = empty.1 in omega arith),
    ) in
    record {
      within = omega arith;
      called = rw none no_calls;
      reached = rw (none, only) (from_start whole old log (start ∷ []) start (contains_head start []) leads closed);
    }

-- what is in a beginning is in a longer one
in_longer : (log : List Happening) (few many : ℕ) (e : Happening) → few ≤ many → Contains (take few log) e → Contains (take many log) e
in_longer log few many e less inside =
    let longer : take few log ++ drop few (take many log) ≡ take many log =
    ap (λ (l : List Happening). l ++ drop few (take many log)) (sym (take-take few many log less)) ∙ take-append-drop few (take many log) in
    subst (λ (l : List Happening). Contains l e) longer (Contains-append_left (take few log) (drop few (take many log)) e inside)

-- of a longer beginning of the log
pub reached_longer : (whole : Bool) (old : RingState) (log : List Happening) (few many at : ℕ) (calls : List ChainCall) (states : List FlightState) → few ≤ many
    → at ≤ few → IsReachedBy whole old (take few log) at calls states → IsReachedBy whole old (take many log) at calls states
reached_longer whole old log few many at calls states less before is =
    let same : take at (take few log) ≡ take at (take many log) = take-take at few log before ∙ sym (take-take at many log (omega arith)) in
    let longer : take few log ++ drop few (take many log) ≡ take many log =
    ap (λ (l : List Happening). l ++ drop few (take many log)) (sym (take-take few many log less)) ∙ take-append-drop few (take many log) in
    record {
      within = omega (arith, is.within, ap length longer, length-append (take few log) (drop few (take many log)));
      called = subst (λ (read : List Happening). AreCalls (runs_of_calls calls) read) same is.called;
      reached = λ answers fits flight made steps seen same_log.
          is.reached answers (record { seen = λ id c inside. fits.seen id c (in_longer log few many _ less inside); memory = fits.memory }) flight made steps
          (λ id slot found answer more was low first inside. seen id slot found answer more was low first (in_longer log few many _ less inside))
          (same_log ∙ sym same);
    }

-- one event more
pub reached_next : (log : JudgedLog) (slots : Slots) (submissions registrations at : ℕ) (calls more : List ChainCall)
    (states nexts : List FlightState) → IsTableOf log slots → at < length (log_in log)
    → IsReachedBy log.whole (ring_of_slots (catalogue_in log) slots submissions registrations) (log_in log) at calls states
    → IsNextFront log at calls states more nexts
    → IsReachedBy log.whole (ring_of_slots (catalogue_in log) slots submissions registrations) (log_in log) (at + 1) more nexts
reached_next log slots submissions registrations at calls more states nexts size few before next =
    let old : RingState = ring_of_slots (catalogue_in log) slots submissions registrations in
    let event : Happening = event_at log at in
    let runs : List (List Asked) = runs_of_calls calls in
    let read : take (at + 1) (log_in log) ≡ take at (log_in log) ++ event ∷ [] = take_more (log_in log) at AllSettled few in
    let numbered : IsNumbered (length runs) event = rw (← length-map calls requests_of) at next.numbered in
    let passed : ArePassed log.whole (rules_of (catalogue_in log) (length slots.at.items)) (log_in log) runs (take at (log_in log)) (flight_views runs states)
    (flight_views (runs_with runs event) nexts) event =
    subst (λ (n : ℕ). ArePassed log.whole (rules_of (catalogue_in log) n) (log_in log) runs (take at (log_in log)) (flight_views runs states)
    (flight_views (runs_with runs event) nexts) event) size next.passed in
    let closed : AreFollowed log.whole (catalogue_in log) (length slots.at.items) (log_in log) (length (runs_with runs event))
    (flight_views (runs_with runs event) nexts) =
    subst (λ (n : ℕ). AreFollowed log.whole (catalogue_in log) n (log_in log) (length (runs_with runs event))
    (flight_views (runs_with runs event) nexts)) size (rw next.runs at next.closed) in
    let called = calls_with before.called event numbered in
    record {
      within = omega arith;
      called = rw (next.runs, read) called;
      reached = rw (next.runs, read) (all_next log.whole old (log_in log) event (flight_views runs states) (flight_views (runs_with runs event) nexts)
          (flight_views (runs_with runs event) nexts) before.reached before.called numbered called passed (λ state inside. inside) closed);
    }

-- no state is left after the last event
pub reached_last : (whole : Bool) (old : RingState) (log : List Happening) (at : ℕ) (calls : List ChainCall) (states : List FlightState) → at ≡ length log
    → length states ≡ 0 → IsReachedBy whole old log at calls states → HasNoFlightBy whole old log
reached_last whole old log at calls states end none is =
    let all : take at log ≡ log = take_all at log (omega arith) in
    let empty : states ≡ [] = nil_from_length states none in
    none_left whole old log {runs = runs_of_calls calls}
    (rw (empty, all) at is.reached)
    (rw all at is.called)

-- what a beginning of the log goes on to, of the log
pub reached_by : (log b : JudgedLog) (slots : Slots) (events : List Happening) (from end : ReachedStates) → log_in b ≡ events
    → catalogue_in b ≡ catalogue_in log → b.setting.size ≡ log.setting.size → b.whole ≡ log.whole → IsTableOf log slots
    → ((slots : Slots) → IsTableOf b slots → IsReachedFrom b slots (log_in b) from
    → IsReachedFrom b slots (log_in b) end × (end.at ≡ length (log_in b)))
    → IsReachedFrom log slots events from → IsReachedFrom log slots events end × (end.at ≡ length events)
reached_by log b slots events from end same catalogue size by_whole table goes is =
    let by : (r : ReachedStates) (submissions registrations : ℕ) (w : Bool) (c : List FileEntry) (l : List Happening) → Type 0 =
    λ r submissions registrations w c l. IsReached w (ring_of_slots c slots submissions registrations) l r in
    let before : IsReachedFrom b slots (log_in b) from = λ submissions registrations.
    subst (λ (w : Bool). by from submissions registrations w (catalogue_in b) (log_in b)) (sym by_whole)
    (subst (λ (c : List FileEntry). by from submissions registrations log.whole c (log_in b)) (sym catalogue)
    (subst (by from submissions registrations log.whole (catalogue_in log)) (sym same) (is submissions registrations))) in
    let (to, all) = goes slots (size ∙ table) before in (
      λ submissions registrations. subst (by end submissions registrations log.whole (catalogue_in log)) same
          (subst (λ (c : List FileEntry). by end submissions registrations log.whole c (log_in b)) catalogue
          (subst (λ (w : Bool). by end submissions registrations w (catalogue_in b) (log_in b)) by_whole (to submissions registrations))),
      all ∙ ap length same,
    )

-- one state more was copied
pub views_copied : (runs : List (List Asked)) (states copies after items : List FlightState) (i : ℕ) (state copy : FlightState) → items ≡ states
    → i < length items → state ≡ slice_index_or items i state → IsCopy state state.base 0 copy → after ≡ copies ++ copy ∷ []
    → flight_views runs copies ≡ flight_views runs (take i states) → flight_views runs after ≡ flight_views runs (take (i + 1) states)
views_copied runs states copies after items i state copy same few is own pushed before =
    let more : take (i + 1) states ≡ take i states ++ state ∷ [] =
    subst (λ (l : List FlightState). take (i + 1) l ≡ take i l ++ state ∷ []) same
    (take_more items i state few ∙ ap (λ (s : FlightState). take i items ++ s ∷ []) (sym is)) in
    ap (flight_views runs) pushed ∙ (map-append (flight_view runs) copies (copy ∷ [])
    ∙ ((λ k. before k ++ copied runs state copy own k ∷ [])
    ∙ (sym (map-append (flight_view runs) (take i states) (state ∷ [])) ∙ ap (flight_views runs) (sym more))))

-- what was looked through follows
pub next_front_is : (log : JudgedLog) (at known : ℕ) (calls more before all : List ChainCall) (states nexts final : List FlightState)
    (event : Happening) → event ≡ event_at log at → all ≡ more → before ≡ take known all → known ≡ length calls → IsFrontOf calls more
    → runs_of_calls more ≡ runs_with (runs_of_calls calls) event → IsNumbered known event
    → ArePassed log.whole (rules_of_log log) (log_in log) (runs_of_calls before) (take at (log_in log)) (flight_views (runs_of_calls before) states)
    (flight_views (runs_with (runs_of_calls before) event) nexts) event
    → IsFrontOf nexts final
    → AreFollowed log.whole (catalogue_in log) log.setting.size (log_in log) (length (runs_of_calls all))
    (flight_views (runs_of_calls all) final)
    → IsNextFront log at calls states more final
next_front_is log at known calls more before all states nexts final event event_is all_is before_is known_is front runs numbered passed kept closed =
    let same : before ≡ calls = before_is ∙ ((λ i. take (known_is i) (all_is i)) ∙ front) in
    let nexts_too = λ (state : FlightView) (inside : Contains (flight_views (runs_of_calls before) states) state)
    (turn : IsInTurnIf log.whole (length (runs_of_calls before)) state 0).
    ⊎_elim (λ stopped. inl stopped)
    (λ led. inr (led.0, views_more (runs_with (runs_of_calls before) event) nexts final kept led.0 led.1, led.2)) (passed state inside turn) in
    record {
      runs = rw (← event_is) runs;
      numbered = rw (← event_is, ← known_is) numbered;
      passed = rw (← event_is, ← same) nexts_too;
      closed = rw (← all_is) closed;
    }
