-- All states that flights reach, from event to event.
use Rattle.check_flight.proofs.Words.{◌+◌, Access, Accesses, Answered, AreCalls, AreLooksSeen, Asked, ChainAccess, Completed, Contains}
use Rattle.check_flight.proofs.Words.{Contains-append_right, FlightSetting, Happening, Identity, IsFlight, List, Logged, LookAnswered, LookCalled}
use Rattle.check_flight.proofs.Words.{Looks, Moment, Option, RingState, WasLogged, ap, arith, by_equality, contains_head, either_way, if◌then◌else◌}
use Rattle.check_flight.proofs.Words.{inl, inr, leb-true, log_of, made_by, nat_le, setting_of, sym, ℕ, ⊎_elim, ◌++◌, ◌∙◌, ◌∷◌, ◌≡◌, ◌≤◌, ◌⊎◌, []}
use Rattle.check_flight.proofs.Words.{length, refl, ◌-◌, subst, Contains-push_cases, get_or_append_left, get_or_at, run_at, length-append, rules_of}
use Rattle.check_flight.proofs.Words.{append-nil, append_assoc, IsNumbered, runs_with, AreReached, AreAnswers, AreFollowed, ArePassed, HasNoFlightBy}
use Rattle.check_flight.proofs.Words.{Bool, IsInTurnIf, IsWholeIf, IsStopped, GoesOnTo, FlightView, Called, Freed, FileClosed, AllSettled, MayFollow}
use Rattle.check_flight.proofs.Words.{lasts, was_logged, made_by-parts, was_read, was_seen}
use Rattle.check_flight.specs.Refutations.{IsRefutation, IsRefutedFrom}
use Rattle.check_flight.proofs.Steps.{event_leads, followed_on, in_turn, looks_on, not_stopped, shifted}

-- a look that was answered is past the size, or what it found first is its answer
abbrev HasLooked : ℕ → List Moment → ℕ → Option Identity → Type 0
HasLooked size flight id found = (slot : ℕ) × WasLogged flight (LookCalled id slot)
    × ((size ≤ slot) ⊎ ((more : List Access) × (made_by id flight ≡ Looks slot found ∷ more)))

one_more : (x : ChainAccess) (flight : List Moment) (id : ℕ) (first : Access) (more : List Access) → made_by id flight ≡ first ∷ more
    → (most : List Access) × (made_by id (Accesses x ∷ flight) ≡ first ∷ most)
one_more x flight id first more made = by_equality x.chain id
    (λ b. (most : List Access) × ((if b then made_by id flight ++ x.access ∷ [] else made_by id flight) ≡ first ∷ most))
    (λ _. (more ++ x.access ∷ [], ap (λ (l : List Access). l ++ x.access ∷ []) made)) (λ _. (more, made))

has_looked : (s : FlightSetting) (before after flight : List Moment) (id : ℕ) (found : Option Identity)
    → flight ≡ after ++ Logged (LookAnswered id found) ∷ before → MayFollow s before (LookAnswered id found) → HasLooked s.old.size flight id found
has_looked s before after flight id found parts (slot, was, done, unclosed) =
    let later : List Moment = Logged (LookAnswered id found) ∷ before in (
      slot,
      rw parts (Contains-append_right after later (Logged (LookCalled id slot)) (shifted before was)),
      either_way (nat_le s.old.size slot) (λ past _. inl (leb-true s.old.size slot past))
          (λ _ made. inr (made_by id after, ap (made_by id) parts ∙ (made_by-parts id after later ∙ ap (λ (l : List Access). l ++ made_by id after) made)))
          done,
    )

-- in a flight of the log, each look finds what the log has
looks_seen : (s : FlightSetting) (runs : List (List Asked)) (log : List Happening) (flight : List Moment) → AreCalls runs log
    → IsFlight s flight → log_of flight ≡ log → AreLooksSeen s.old.size log flight
looks_seen s runs log flight calls is same id slot found answer more was low made inside =
    let at = was_seen s flight (LookAnswered id answer) is (was_logged flight (LookAnswered id answer) (rw same inside)) in
    same_look (has_looked s at.before at.after flight id answer at.parts at.may)
  where
    same_look : HasLooked s.old.size flight id answer → answer ≡ found
    same_look (other, there, inl past) =
        let slots : other ≡ slot = calls.once id other slot (rw same at (was_read flight (LookCalled id other) there))
        (rw same at (was_read flight (LookCalled id slot) was)) in
        absurd (omega arith)
    same_look (other, there, inr (rest, own)) =
        let both : Looks other answer ∷ rest ≡ Looks slot found ∷ more = sym own ∙ made in
        let first : Looks other answer ≡ Looks slot found = cc in cc

-- and before its last moment
seen_before : (size : ℕ) (log : List Happening) (m : Moment) (flight : List Moment) → AreLooksSeen size log (m ∷ flight)
    → AreLooksSeen size log flight
seen_before size log (Logged e) flight all id slot found seen more was low made inside = all id slot found seen more (shifted flight was) low made inside
seen_before size log (Accesses x) flight all id slot found seen more was low made inside =
    let (most, still) = one_more x flight id (Looks slot found) more made in
    all id slot found seen most (shifted flight was) low still inside

-- each answer that was seen is one of its call
answered_in : (old : RingState) (answers : ℕ → List Completed) (flight : List Moment) → IsFlight (setting_of old answers) flight
    → (id : ℕ) (c : Completed) → WasLogged flight (Answered id c) → Contains (answers id) c
answered_in old answers flight is id c was =
    let own = (was_seen (setting_of old answers) flight (Answered id c) is was).may.2 in
    rw own.answer (Contains-append_right own.earlier (c ∷ own.later) c (contains_head c own.later))

never_empty : (xs : List Happening) (x : Happening) → xs ++ x ∷ [] ≡ [] → ⊥
never_empty xs x is = let long = ap length is in omega (arith, length-append xs (x ∷ []))

pub no_calls : AreCalls [] []
no_calls = record {
  chain = λ id requests inside. absurd (let few = inside.1 in omega arith);
  look = λ id slot inside. absurd (let few = inside.1 in omega arith);
  once = λ id slot other inside. absurd (let few = inside.1 in omega arith);
}

module _ (whole : Bool) (old : RingState) (log : List Happening) where
  -- where a flight's last moment is an access
  module _ (answers : ℕ → List Completed) (fits : AreAnswers log answers) (runs : List (List Asked)) (read : List Happening)
      (calls : AreCalls runs read) (fronts : List FlightView) (closed : AreFollowed whole old.catalogue old.size log (length runs) fronts) where
    abbrev Comes : List Moment → Type 0
    Comes flight = (state : FlightView) × Contains fronts state × GoesOnTo old runs flight state

    goes_on : (flight : List Moment)
        → ((e : Happening) (before : List Moment) → IsFlight (setting_of old answers) (Logged e ∷ before)
        → IsWholeIf whole (setting_of old answers) (Logged e ∷ before)
        → AreLooksSeen old.size log (Logged e ∷ before) → log_of before ++ e ∷ [] ≡ read
        → Comes (Logged e ∷ before))
        → ([] ≡ read → Comes [])
        → IsFlight (setting_of old answers) flight → IsWholeIf whole (setting_of old answers) flight → AreLooksSeen old.size log flight
        → log_of flight ≡ read → Comes flight
    goes_on [] event start is steps seen all = start all
    goes_on (Logged e ∷ flight) event start is steps seen all = event e flight is steps seen all
    goes_on (Accesses x ∷ flight) event start is steps seen all =
        let (state, inside, to) = goes_on flight event start is.0 (λ yes. (steps yes).0) (seen_before old.size log (Accesses x) flight seen) all in
        let these = rw (← all) at calls in
        let (each, denied) = closed state inside in
        let turn : IsInTurnIf whole (length runs) state x.chain = λ yes.
        in_turn old log answers fits these to x.chain (λ other apart. (steps yes).1 other (λ (e : x.chain ≡ other). apart (sym e))) in
        ⊎_elim
        (λ chain. followed_on old log answers fits these to whole x chain.0 is.1.0 chain.1 chain.2 fronts each turn)
        (λ look. (state, inside, looks_on old log answers fits these to whole x is.1.0 look.2 look.3 look.4 seen denied turn))
        is.1.1

  -- the first state
  pub from_start : (fronts : List FlightView) (start : FlightView) → Contains fronts start → GoesOnTo old [] [] start
      → AreFollowed whole old.catalogue old.size log 0 fronts → AreReached whole old log [] [] fronts
  from_start fronts start inside leads closed answers fits flight is steps seen all =
      goes_on answers fits [] [] no_calls fronts closed flight
      (λ e before of by seen all. absurd (never_empty (log_of before) e all)) (λ _. (start, inside, leads)) is steps seen all

  -- one event more
  pub all_next : {runs : List (List Asked)} {read : List Happening} (e : Happening) (states nexts fronts : List FlightView)
      → AreReached whole old log runs read states → AreCalls runs read → IsNumbered (length runs) e
      → AreCalls (runs_with runs e) (read ++ e ∷ [])
      → ArePassed whole (rules_of old.catalogue old.size) log runs read states nexts e
      → ((state : FlightView) → Contains nexts state → Contains fronts state)
      → AreFollowed whole old.catalogue old.size log (length (runs_with runs e)) fronts
      → AreReached whole old log (runs_with runs e) (read ++ e ∷ []) fronts
  all_next {runs} {read} e states nexts fronts all calls numbered more passed within closed answers fits flight is steps seen whole_log =
      goes_on answers fits (runs_with runs e) (read ++ e ∷ []) more fronts closed flight
      (λ f before of by found same.
      let (read_same, event_same) = lasts (log_of before) read same in
      let (state, inside, to) = all answers fits before of.0 (λ yes. (by yes).0) (seen_before old.size log (Logged f) before found) read_same in
      let may = subst (λ (g : Happening). MayFollow (setting_of old answers) before g) event_same of.1 in
      let these : AreCalls runs (log_of before) = subst (λ (xs : List Happening). AreCalls runs xs) (sym read_same) calls in
      let turn : IsInTurnIf whole (length runs) state 0 = λ yes. in_turn old log answers fits these to 0 (λ other _. (by yes).1 other tt) in
      ⊎_elim
      (λ stopped. absurd (not_stopped old log answers fits these to e may
      (subst (λ (xs : List Happening). IsStopped (rules_of old.catalogue old.size) log runs xs state e) (sym read_same) stopped)))
      (λ led.
      let lead = event_leads old e to numbered led.2 in
      (led.0, within led.0 led.1, subst (λ (g : Happening). GoesOnTo old (runs_with runs e) (Logged g ∷ before) led.0) (sym event_same) lead))
      (passed state inside turn))
      (λ empty. absurd (never_empty read e (sym empty))) is steps seen whole_log

  -- where no state is left
  pub none_left : {runs : List (List Asked)} → AreReached whole old log runs log [] → AreCalls runs log → HasNoFlightBy whole old log
  none_left {runs} all calls (is, steps) memory =
      let fits : AreAnswers log is.answers = record {
        seen = λ id c inside. answered_in old is.answers is.flight is.is id c (was_logged is.flight (Answered id c) (rw is.same inside));
        memory = memory;
      } in
      let seen = looks_seen (setting_of old is.answers) runs log is.flight calls is.is is.same in
      let (state, (k, few, at), to) = all is.answers fits is.flight is.is steps seen is.same in
      absurd (omega arith)

-- the calls with one event more
module _ {runs : List (List Asked)} {read : List Happening} (calls : AreCalls runs read) where
  -- another event than the last one
  known : (e f : Happening) → (e ≡ f → ⊥) → Contains (read ++ e ∷ []) f → Contains read f
  known e f other inside = ⊎_elim (λ before. before) (λ last. absurd (other last)) (Contains-push_cases read e f inside)

  -- an event other than a call
  no_call : (e : Happening) → ((id : ℕ) (requests : List Asked) → e ≡ Called id requests → ⊥)
      → ((id slot : ℕ) → e ≡ LookCalled id slot → ⊥) → AreCalls runs (read ++ e ∷ [])
  no_call e chain look = record {
    chain = λ id requests inside. calls.chain id requests (known e (Called id requests) (chain id requests) inside);
    look = λ id slot inside. calls.look id slot (known e (LookCalled id slot) (look id slot) inside);
    once = λ id slot other inside there.
        calls.once id slot other (known e (LookCalled id slot) (look id slot) inside) (known e (LookCalled id other) (look id other) there);
  }

  -- the requests of the calls, after one call more
  earlier_run : (requests : List Asked) (id : ℕ) → 1 ≤ id → id ≤ length runs → run_at (runs ++ requests ∷ []) id ≡ run_at runs id
  earlier_run requests id low high = get_or_append_left runs (requests ∷ []) [] (id - 1) (omega arith)

  last_run : (requests : List Asked) (id : ℕ) → id ≡ length runs + 1 → run_at (runs ++ requests ∷ []) id ≡ requests
  last_run requests id is = get_or_at runs requests [] [] (id - 1) (omega arith)

  -- an event that is a call
  with_call : (id : ℕ) (requests : List Asked) (e : Happening) → id ≡ length runs + 1
      → ((other : ℕ) (own : List Asked) → e ≡ Called other own → (other ≡ id) × (own ≡ requests))
      → ((other slot : ℕ) → e ≡ LookCalled other slot → (other ≡ id) × (requests ≡ []))
      → ((other slot place : ℕ) → e ≡ LookCalled other slot → e ≡ LookCalled other place → slot ≡ place)
      → AreCalls (runs ++ requests ∷ []) (read ++ e ∷ [])
  with_call id requests e is chain look once = record {
    chain = λ other own inside. ⊎_elim
        (λ before.
        let (low, high, same) = calls.chain other own before in
        (low, omega (arith, many), rw (earlier_run requests other low high) same))
        (λ last.
        let (number, same) = chain other own last in
        (omega arith, omega (arith, many), same ∙ sym (last_run requests other (omega arith))))
        (Contains-push_cases read e (Called other own) inside);
    look = λ other slot inside. ⊎_elim
        (λ before.
        let (low, high, none) = calls.look other slot before in
        (low, omega (arith, many), earlier_run requests other low high ∙ none))
        (λ last.
        let (number, none) = look other slot last in
        (omega arith, omega (arith, many), last_run requests other (omega arith) ∙ none))
        (Contains-push_cases read e (LookCalled other slot) inside);
    once = λ other slot place inside there. ⊎_elim
        (λ before. ⊎_elim (λ also. calls.once other slot place before also) (λ last. absurd (apart other slot place before last))
        (Contains-push_cases read e (LookCalled other place) there))
        (λ last. ⊎_elim (λ before. absurd (apart other place slot before last)) (λ also. once other slot place last also)
        (Contains-push_cases read e (LookCalled other place) there))
        (Contains-push_cases read e (LookCalled other slot) inside);
  }
    where
      many : length (runs ++ requests ∷ []) ≡ length runs + 1
      many = omega (arith, length-append runs (requests ∷ []))

      apart : (other slot place : ℕ) → Contains read (LookCalled other slot) → e ≡ LookCalled other place → ⊥
      apart other slot place before last = let high = (calls.look other slot before).1 in omega (arith, (look other place last).0)

  pub calls_with : (e : Happening) → IsNumbered (length runs) e → AreCalls (runs_with runs e) (read ++ e ∷ [])
  calls_with (Called id requests) numbered =
      with_call id requests (Called id requests) numbered (λ _ _ is. (cc, cc)) (λ _ _ is. absurd (cc)) (λ _ _ _ one two. absurd (cc))
  calls_with (Answered id c) numbered = no_call (Answered id c) (λ _ _ is. cc) (λ _ _ is. cc)
  calls_with (LookCalled id slot) numbered =
      with_call id [] (LookCalled id slot) numbered (λ _ _ is. absurd (cc)) (λ _ _ is. (cc, refl)) (λ _ _ _ one two. cc)
  calls_with (LookAnswered id found) numbered = no_call (LookAnswered id found) (λ _ _ is. cc) (λ _ _ is. cc)
  calls_with (Freed id) numbered = no_call (Freed id) (λ _ _ is. cc) (λ _ _ is. cc)
  calls_with (FileClosed file) numbered = no_call (FileClosed file) (λ _ _ is. cc) (λ _ _ is. cc)
  calls_with AllSettled numbered = no_call AllSettled (λ _ _ is. cc) (λ _ _ is. cc)

-- from the states of what was read on
module _ (whole : Bool) (old : RingState) (log : List Happening) where
  refuted_from : (rest read : List Happening) (runs : List (List Asked)) (states : List FlightView) → read ++ rest ≡ log
      → AreReached whole old log runs read states → AreCalls runs read → IsRefutedFrom whole old log runs read states rest
      → HasNoFlightBy whole old log
  refuted_from [] read runs states is_log all calls none =
      let same : read ≡ log = sym (append-nil read) ∙ is_log in
      none_left whole old log {runs = runs} (subst (λ (l : List Happening). AreReached whole old log runs l []) same
      (subst (λ (l : List FlightView). AreReached whole old log runs read l) none all)) (subst (λ (l : List Happening). AreCalls runs l) same calls)
  refuted_from (event ∷ rest) read runs states is_log all calls (nexts, next, refuted) =
      let more = calls_with calls event next.numbered in
      let together : (read ++ event ∷ []) ++ rest ≡ log = append_assoc read (event ∷ []) rest ∙ is_log in
      refuted_from rest (read ++ event ∷ []) (runs_with runs event) nexts together
      (all_next whole old log event states nexts nexts all calls next.numbered more next.passed (λ state inside. inside) next.closed) more refuted

  pub refuted : (states : List FlightView) → IsRefutation whole old log states → HasNoFlightBy whole old log
  refuted states is = refuted_from log [] [] states refl (from_start whole old log states is.start is.inside is.leads is.closed) no_calls is.refuted
