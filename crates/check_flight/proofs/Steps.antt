-- Where a flight leads: its accesses and its events, one after another.
use Rattle.check_flight.proofs.Words.{◌≡◌, ℕ, ◌+◌, ◌<◌, ◌≤◌, List, [], ◌∷◌, ◌++◌, length, take, refl, sym, ap, ◌∙◌, arith, inl, inr, ⊎_elim, suc}
use Rattle.check_flight.proofs.Words.{zero, Access, AllByRecursion, Asked, ChainAccess, Completed, Contains, HasMemory, IsNext, None, Option, Some}
use Rattle.check_flight.proofs.Words.{Place, Rest, Rules, append_assoc, by_equality, cases_eq, file_removed_by, get_or_append_left, get_or_at}
use Rattle.check_flight.proofs.Words.{length-append, ne_eqb, option_to_list, rules_of, run_at, settled_at, settles, step, table_with}
use Rattle.check_flight.proofs.Words.{Contains-append_cases, Contains-push_cases, Contains-append_left, RingState, ◌-◌, Table, subst}
use Rattle.check_flight.proofs.Words.{Contains-append_right, Identity, if◌then◌else◌, contains_head, eq-eqb, over, table_of, AreAnswers, AreCalls}
use Rattle.check_flight.proofs.Words.{IsLed, IsOneDenied, IsStopped, StepsByAccess, LeadsByCall, AreFewer, AreLooksSeen, AreWaitsDenied}
use Rattle.check_flight.proofs.Words.{IsStateFollowed, GoesOnTo, FlightView, rest_after, setting_of, IsNumbered, runs_with, WaitingLook, Happening}
use Rattle.check_flight.proofs.Words.{Called, Answered, LookCalled, LookAnswered, Freed, FileClosed, AllSettled, first_of_call, Accesses, IsBegun}
use Rattle.check_flight.proofs.Words.{IsLookDone, Logged, MayFollow, Moment, WasLogged, log_of, made_by, taken_in, table_left_by, Permits, Looks}
use Rattle.check_flight.proofs.Words.{both_parts, Bool, IsBetweenMembers, IsInTurn, IsInTurnIf, origin_of, size_stays, was_read, was_logged}
use Rattle.check_outcomes.proofs.Playing.{OfChain, steps_on}
use Rattle.check_outcomes.proofs.Requests.{are_right}
use Rattle.fx_flight.proofs.Chains.{answer_place}
use Rattle.check_flight.proofs.Runs.{AreAt, chain_at, member_at, same_place, after_both, after_fewer, done_members, over_stays, settled_made}

-- A flight's events are those of its log.

pub shifted : {m : Moment} (flight : List Moment) {e : Happening} → WasLogged flight e → WasLogged (m ∷ flight) e
shifted flight (k, low, is) = (suc k, omega arith, is)

pub only_one : {X : Type 0} (x y : X) → Contains (x ∷ []) y → x ≡ y
only_one x y (zero, low, is) = is
only_one x y (suc k, low, is) = absurd (omega arith)

-- the file that an access took
pub taken : (o : Option Identity) (file : Identity) → Contains (option_to_list o) file → o ≡ Some file
taken None file (k, low, is) = absurd (omega arith)
taken (Some other) file inside = ap Some (only_one other file inside)

pub taken_by : (o : Option Identity) (file : Identity) → o ≡ Some file → Contains (option_to_list o) file
taken_by o file is = rw is (contains_head file [])

module _ (old : RingState) where
  abbrev rules : Rules
  rules = rules_of old.catalogue old.size

  -- an access that the state follows
  pub access_leads : {runs : List (List Asked)} {flight : List Moment} {state next : FlightView} (x : ChainAccess) → GoesOnTo old runs flight state
      → x.chain ≤ length runs → StepsByAccess rules state x.chain x.access next
      → ((look : WaitingLook) → Contains state.waiting look → x.chain ≡ look.id → ⊥)
      → GoesOnTo old runs (Accesses x ∷ flight) next
  access_leads {runs} {flight} {state} {next} x to few lead apart = record {
    table = lead.table ∙ ap (λ (t : Table). table_with t x.access) to.table;
    rests = λ id low high. by_equality x.chain id
        (λ b. next.rests id ≡ rest_after rules (origin_of rules id (run_at runs id)) (if b then made_by id flight ++ x.access ∷ [] else made_by id flight))
        (λ (same : x.chain ≡ id).
        let own = rw same at lead.own in
        own ∙ (ap (λ (r : Rest). (step rules r x.access).1) (to.rests id low high)
        ∙ sym (after_both rules (origin_of rules id (run_at runs id)) (made_by id flight) (x.access ∷ []))))
        (λ (other : x.chain ≡ id → ⊥). lead.others id low (λ e. other (sym e)) ∙ to.rests id low high);
    unmade = λ id high.
        let other : x.chain ≡ id → ⊥ = λ (e : x.chain ≡ id). omega arith in
        rw (ne_eqb _ _ other) (to.unmade id high);
    has = λ file inside unclosed. ⊎_elim
        (λ here. (lead.removed file).1 (inr (taken (file_removed_by x.access) file here)))
        (λ before. (lead.removed file).1 (inl (to.has file before (λ was. unclosed (shifted flight was)))))
        (Contains-append_cases (option_to_list (file_removed_by x.access)) (taken_in flight) file inside);
    only = λ file inside. ⊎_elim
        (λ before. Contains-append_right (option_to_list (file_removed_by x.access)) (taken_in flight) file (to.only file before))
        (λ here. Contains-append_left (option_to_list (file_removed_by x.access)) (taken_in flight) file
        (taken_by (file_removed_by x.access) file here))
        ((lead.removed file).0 inside);
    waits = λ look inside.
        let before = to.waits look (lead.waiting look inside) in
        (shifted flight before.0, rw (ne_eqb x.chain look.id (apart look (lead.waiting look inside))) before.1);
  }

  -- a look's access changes no state in which the look doesn't wait
  pub look_leads : {runs : List (List Asked)} {flight : List Moment} {state : FlightView} (x : ChainAccess) {slot : ℕ} {found : Option Identity}
      → GoesOnTo old runs flight state → x.access ≡ Looks slot found → 1 ≤ x.chain → x.chain ≤ length runs → run_at runs x.chain ≡ []
      → ((look : WaitingLook) → Contains state.waiting look → x.chain ≡ look.id → ⊥)
      → GoesOnTo old runs (Accesses x ∷ flight) state
  look_leads {runs} {flight} {state} x to is low high none apart =
      let start : origin_of rules x.chain (run_at runs x.chain) ≡ over = rw none refl in
      let rest : state.rests x.chain ≡ over =
      to.rests x.chain low high ∙ (ap (λ (r : Rest). rest_after rules r (made_by x.chain flight)) start ∙ over_stays rules (made_by x.chain flight)) in
      access_leads x to high (record {
        table = rw is refl;
        own = rest ∙ sym (ap (λ (r : Rest). (step rules r x.access).1) rest);
        others = λ other few differs. refl;
        removed = λ other. rw is (λ inside. inl inside, λ either. ⊎_elim (λ inside. inside) (λ (one : None ≡ Some other). cc) either);
        waiting = λ look inside. inside;
      }) apart

  abbrev Waits : List Moment → List WaitingLook → Type 0
  Waits flight waiting =
      (look : WaitingLook) → Contains waiting look → WasLogged flight (LookCalled look.id look.slot) × (made_by look.id flight ≡ [])

  -- a call
  call_leads : {runs : List (List Asked)} {flight : List Moment} {state next : FlightView} {id : ℕ} {requests : List Asked} (e : Happening)
      → GoesOnTo old runs flight state → id ≡ length runs + 1 → LeadsByCall rules state id requests next → Waits (Logged e ∷ flight) next.waiting
      → GoesOnTo old (runs ++ requests ∷ []) (Logged e ∷ flight) next
  call_leads {runs} {flight} {state} {next} {id} {requests} e to is lead waits = record {
    table = lead.table ∙ to.table;
    rests = λ other low high. ⊎_elim
        (λ (same : other ≡ id).
        let none : made_by id flight ≡ [] = to.unmade id (omega arith) in
        let at : run_at (runs ++ requests ∷ []) id ≡ requests = get_or_at runs requests [] [] (id - 1) (omega arith) in
        let there : rest_after rules (origin_of rules id (run_at (runs ++ requests ∷ []) id)) (made_by id flight) ≡ origin_of rules id requests =
        λ i. rest_after rules (origin_of rules id (at i)) (none i) in
        subst (λ (n : ℕ). next.rests n ≡ rest_after rules (origin_of rules n (run_at (runs ++ requests ∷ []) n)) (made_by n flight)) (sym same)
        (lead.own ∙ sym there))
        (λ (apart : other ≡ id → ⊥).
        let high' : other ≤ length runs + 1 = omega (arith, length-append runs (requests ∷ [])) in
        let at : run_at (runs ++ requests ∷ []) other ≡ run_at runs other = get_or_append_left runs (requests ∷ []) [] (other - 1) (omega arith) in
        rw at (lead.others other low (omega arith) ∙ to.rests other low (omega arith)))
        (cases_eq other id);
    unmade = λ other high. to.unmade other (omega (arith, length-append runs (requests ∷ [])));
    has = λ file inside unclosed. rw lead.removed (to.has file inside (λ was. unclosed (shifted flight was)));
    only = λ file inside. to.only file (rw lead.removed at inside);
    waits = waits;
  }

  -- no look is called
  same_looks : {runs : List (List Asked)} {flight : List Moment} {state : FlightView} (waiting : List WaitingLook) (e : Happening)
      → GoesOnTo old runs flight state → AreFewer state.waiting waiting → Waits (Logged e ∷ flight) waiting
  same_looks {flight = flight} waiting e to fewer look inside = let before = to.waits look (fewer look inside) in (shifted flight before.0, before.1)

  -- a look is called
  more_looks : {runs : List (List Asked)} {flight : List Moment} {state : FlightView} (waiting : List WaitingLook) (id slot : ℕ)
      → GoesOnTo old runs flight state → id ≡ length runs + 1 → AreFewer (state.waiting ++ record { id = id; slot = slot } ∷ []) waiting
      → Waits (Logged (LookCalled id slot) ∷ flight) waiting
  more_looks {flight = flight} {state} waiting id slot to is fewer look inside =
      let e : Happening = LookCalled id slot in
      ⊎_elim
      (λ before. let was = to.waits look before in (shifted flight was.0, was.1))
      (λ last. subst (λ (l : WaitingLook). WasLogged (Logged e ∷ flight) (LookCalled l.id l.slot) × (made_by l.id flight ≡ [])) last
      (contains_head (Logged e) flight, to.unmade id (omega arith)))
      (Contains-push_cases state.waiting (record { id = id; slot = slot }) look (fewer look inside))

  -- an event that begins no call, and closes at most its own file
  goes_on : {runs : List (List Asked)} {flight : List Moment} {state next : FlightView} (e : Happening) → GoesOnTo old runs flight state
      → next.table ≡ state.table → next.rests ≡ state.rests
      → ((file : Identity) → (e ≡ FileClosed file → ⊥) → Contains state.removed file → Contains next.removed file)
      → ((file : Identity) → Contains next.removed file → Contains state.removed file) → AreFewer state.waiting next.waiting
      → GoesOnTo old runs (Logged e ∷ flight) next
  goes_on {flight = flight} e to table rests kept only fewer = record {
    table = table ∙ to.table;
    rests = λ id low high. ap (λ (f : ℕ → Rest). f id) rests ∙ to.rests id low high;
    unmade = to.unmade;
    has = λ file inside unclosed. kept file (λ is. unclosed (zero, omega arith, ap Logged is))
        (to.has file inside (λ was. unclosed (shifted flight was)));
    only = λ file inside. to.only file (only file inside);
    waits = same_looks _ e to fewer;
  }

  -- an event that changes no state
  stays : {runs : List (List Asked)} {flight : List Moment} {state : FlightView} (e : Happening) → GoesOnTo old runs flight state
      → GoesOnTo old runs (Logged e ∷ flight) state
  stays e to = goes_on e to refl refl (λ file other inside. inside) (λ file inside. inside) (λ look inside. inside)

  -- an event leads a state on
  pub event_leads : {runs : List (List Asked)} {flight : List Moment} {state next : FlightView} (e : Happening) → GoesOnTo old runs flight state
      → IsNumbered (length runs) e → IsLed rules state next e → GoesOnTo old (runs_with runs e) (Logged e ∷ flight) next
  event_leads (Called id requests) to numbered led =
      call_leads (Called id requests) to numbered led.0 (same_looks _ (Called id requests) to led.1)
  event_leads (Answered id c) to numbered led = rw led (stays (Answered id c) to)
  event_leads (LookCalled id slot) to numbered led =
      call_leads (LookCalled id slot) to numbered led.0 (more_looks _ id slot to numbered led.1)
  event_leads (LookAnswered id found) to numbered led =
      goes_on (LookAnswered id found) to led.table led.rests (λ file other inside. rw led.removed inside) (λ file inside. rw led.removed at inside)
      led.waiting
  event_leads (Freed id) to numbered led = rw led (stays (Freed id) to)
  event_leads (FileClosed file) to numbered led =
      goes_on (FileClosed file) to led.table led.rests (λ other apart. (led.removed other).1 (λ same. apart (ap FileClosed (sym same))))
      (λ other. (led.removed other).0) (λ look inside. rw led.waiting at inside)
  event_leads AllSettled to numbered led = rw led (stays AllSettled to)

  module _ (log : List Happening) (answers : ℕ → List Completed) (fits : AreAnswers log answers) where
    -- a chain goes on after some of its accesses
    goes_after : (rest : Rest) (answered final : List Completed) (front more : List Access) → OfChain old.catalogue old.size rest answered final (front ++ more)
        → (answered' : List Completed) × OfChain old.catalogue old.size (rest_after rules rest front) answered' final more
    goes_after rest answered final [] more of = (answered, of)
    goes_after rest answered final (a ∷ front) more of =
        let (next, on) = steps_on old.catalogue old.size rest answered final a (front ++ more) of in
        goes_after (step rules rest a).1 (answered ++ (step rules rest a).0) final front more on

    -- what the log has is answered
    abbrev AreAnswered : ℕ → List Completed → Type 0
    AreAnswered id answered = (c : Completed) → Contains answered c → Contains (answers id) c

    answered_part : (id : ℕ) (answered now later : List Completed) → answers id ≡ (answered ++ now) ++ later → AreAnswered id now
    answered_part id answered now later is c inside =
        rw is (Contains-append_left (answered ++ now) later c (Contains-append_right answered now c inside))

    -- the next access of a chain that has begun so
    next_access : (id : ℕ) (requests : List Asked) (made : List Access) (a : Access) → IsBegun (setting_of old answers) id requests (made ++ a ∷ [])
        → IsNext old.catalogue old.size (rest_after rules (origin_of rules id requests) made) a
        × AreAnswered id (step rules (rest_after rules (origin_of rules id requests) made) a).0
    next_access id requests made a (more, done) =
        let whole = rw append_assoc at done in
        let goes = settles old.catalogue old.size rules (are_right old.catalogue old.size) (first_of_call id) requests (fits.memory id) whole in
        let rest : Rest = rest_after rules (origin_of rules id requests) made in
        let (answered, of) = goes_after (origin_of rules id requests) (settled_at rules (first_of_call id) requests).0 (answers id) made (a ∷ more) goes in
        let (next, on) = steps_on old.catalogue old.size rest answered (answers id) a more of in
        (next, answered_part id answered (step rules rest a).0 on.later on.whole)

    -- the first answers of a chain
    first_answers : (id : ℕ) (requests : List Asked) → IsBegun (setting_of old answers) id requests []
        → AreAnswered id (settled_at rules (first_of_call id) requests).0
    first_answers id requests (more, done) =
        let goes = settles old.catalogue old.size rules (are_right old.catalogue old.size) (first_of_call id) requests (fits.memory id) done in
        answered_part id [] (settled_at rules (first_of_call id) requests).0 goes.later goes.whole

    begun_at : (id : ℕ) (requests : List Asked) (made : List Access) → IsBegun (setting_of old answers) id requests made
        → AreAt (first_of_call id) (answers id)
    begun_at id requests made (more, done) = chain_at old.catalogue old.size (first_of_call id) requests (made ++ more) (answers id) done

    of_call : (id : ℕ) (c : Completed) → AreAt (first_of_call id) (answers id) → Contains (answers id) c → c.place.submission ≡ id
    of_call id c at (k, low, is) =
        ap (λ (x : Completed). x.place.submission) (sym is) ∙ ap (λ (x : Place). x.submission) (member_at (first_of_call id) (answers id) at k c low)

    -- what is answered isn't denied
    not_denied : (id : ℕ) (answered : List Completed) → AreAt (first_of_call id) (answers id) → AreAnswered id answered → IsOneDenied log answered → ⊥
    not_denied id answered at all (c, inside, (seen, logged, same, differ)) =
        let mine = all c inside in
        let call : c.place.submission ≡ id = of_call id c at mine in
        let theirs : Contains (answers id) seen = rw call at (fits.seen c.place.submission seen logged) in
        differ (same_place (first_of_call id) (answers id) at seen c theirs mine same)

    -- an event that may follow doesn't stop the state
    module _ {runs : List (List Asked)} {flight : List Moment} {state : FlightView} (calls : AreCalls runs (log_of flight))
        (to : GoesOnTo old runs flight state) where
      answered_not_stopped : (id : ℕ) (c : Completed) → MayFollow (setting_of old answers) flight (Answered id c)
          → IsStopped rules log runs (log_of flight) state (Answered id c) → ⊥
      answered_not_stopped id c (requests, was, is) stopped =
          let (low, high, same) = calls.chain id requests (was_read flight (Called id requests) was) in
          let start : Rest = origin_of rules id requests in
          let whole : answers id ≡ (is.earlier ++ c ∷ []) ++ is.later = is.answer ∙ sym (append_assoc is.earlier (c ∷ []) is.later) in
          let parts = both_parts HasMemory (is.earlier ++ c ∷ []) is.later (subst (AllByRecursion HasMemory) whole (fits.memory id)) in
          let few = (done_members rules old.catalogue old.size (are_right old.catalogue old.size) (first_of_call id) requests
          (length is.earlier + 1) is.own (is.earlier ++ c ∷ []) parts.0 is.done).0 in
          let fewer = after_fewer rules (rest_after rules start is.own) is.others in
          let both : rest_after rules start (made_by id flight) ≡ rest_after rules (rest_after rules start is.own) is.others =
          ap (rest_after rules start) is.accesses ∙ after_both rules start is.own is.others in
          let from : rest_after rules (origin_of rules id (run_at runs id)) (made_by id flight)
          ≡ rest_after rules (rest_after rules start is.own) is.others = rw (← same) both in
          let rest : state.rests id ≡ rest_after rules (rest_after rules start is.own) is.others = to.rests id low high ∙ from in
          let member : c.place.member ≡ 1 + length is.earlier =
          answer_place old.catalogue old.size (first_of_call id) (take (length is.earlier + 1) requests) is.own (is.earlier ++ c ∷ []) is.earlier c []
          is.done refl in
          let count = length-append is.earlier (c ∷ []) in
          let runs_same : length requests ≡ length (run_at runs id) = ap length same in
          let left : length (state.rests id).requests ≡ length (rest_after rules (rest_after rules start is.own) is.others).requests =
          ap (λ (r : Rest). length r.requests) rest in
          let stop : length (run_at runs id) < length (state.rests id).requests + c.place.member = stopped in
          omega arith

      -- a call between members has not begun its next one
      between_made : (id : ℕ) → 1 ≤ id → id ≤ length runs → IsBetweenMembers (setting_of old answers) flight id → (state.rests id).made ≡ 0
      between_made id low high (inl none) =
          ap (λ (r : Rest). r.made) (to.rests id low high)
          ∙ (ap (λ (l : List Access). (rest_after rules (origin_of rules id (run_at runs id)) l).made) none
          ∙ settled_made rules (first_of_call id) (run_at runs id))
      between_made id low high (inr (inl (slot, was))) =
          let none = (calls.look id slot (was_read flight (LookCalled id slot) was)).2 in
          let start : origin_of rules id (run_at runs id) ≡ over = rw none refl in
          ap (λ (r : Rest). r.made) (to.rests id low high
          ∙ (ap (λ (r : Rest). rest_after rules r (made_by id flight)) start ∙ over_stays rules (made_by id flight)))
      between_made id low high (inr (inr (requests, was, of))) =
          let same = (calls.chain id requests (was_read flight (Called id requests) was)).2 in
          let parts = both_parts HasMemory of.answered of.later (subst (AllByRecursion HasMemory) of.answer (fits.memory id)) in
          let it = (done_members rules old.catalogue old.size (are_right old.catalogue old.size) (first_of_call id) requests of.count
          (made_by id flight) of.answered parts.0 of.done).1 in
          ap (λ (r : Rest). r.made) (to.rests id low high)
          ∙ subst (λ (own : List Asked). (rest_after rules (origin_of rules id own) (made_by id flight)).made ≡ 0) same it

      -- a call is in turn if all others are between members
      pub in_turn : (id : ℕ) → ((other : ℕ) → (other ≡ id → ⊥) → IsBetweenMembers (setting_of old answers) flight other)
          → IsInTurn (length runs) state id
      in_turn id all other low high apart = between_made other low high (all other apart)

      -- a look that waits isn't a chain
      apart_from : (x : ChainAccess) (requests : List Asked) → WasLogged flight (Called x.chain requests)
          → IsBegun (setting_of old answers) x.chain requests (made_by x.chain flight ++ x.access ∷ [])
          → (look : WaitingLook) → Contains state.waiting look → x.chain ≡ look.id → ⊥
      apart_from x requests was (more, done) look inside same =
          let (low, high, is) = calls.chain x.chain requests (was_read flight (Called x.chain requests) was) in
          let (few, many, none) = calls.look look.id look.slot (was_read flight (LookCalled look.id look.slot) (to.waits look inside).0) in
          let empty : requests ≡ [] = is ∙ (ap (run_at runs) same ∙ none) in
          let made = ap length (rw empty at done).0 in
          let one = length-append (made_by x.chain flight ++ x.access ∷ []) more in
          let two = length-append (made_by x.chain flight) (x.access ∷ []) in
          omega arith

      -- an access that a chain may make is followed
      pub followed_on : (whole : Bool) (x : ChainAccess) (requests : List Asked) → Permits (table_left_by (table_of old) flight) x.access
          → WasLogged flight (Called x.chain requests)
          → IsBegun (setting_of old answers) x.chain requests (made_by x.chain flight ++ x.access ∷ [])
          → (fronts : List FlightView) → IsStateFollowed whole old.catalogue old.size log (length runs) fronts state
          → IsInTurnIf whole (length runs) state x.chain
          → (next : FlightView) × Contains fronts next × GoesOnTo old runs (Accesses x ∷ flight) next
      followed_on whole x requests permits was begun fronts each turn =
          let (low, high, same) = calls.chain x.chain requests (was_read flight (Called x.chain requests) was) in
          let here : state.rests x.chain ≡ rest_after rules (origin_of rules x.chain requests) (made_by x.chain flight) =
          rw same (to.rests x.chain low high) in
          let (next, answered) = next_access x.chain requests (made_by x.chain flight) x.access begun in
          ⊎_elim
          (λ denied. absurd (not_denied x.chain (step rules (state.rests x.chain) x.access).0
          (begun_at x.chain requests (made_by x.chain flight ++ x.access ∷ []) begun) (rw here answered) denied))
          (λ led. (led.0, led.1, access_leads x to high led.2 (apart_from x requests was begun)))
          (each x.chain low high x.access (rw here next) (rw to.table permits) turn)

      -- a look that waits can't make this access, since the log denies what it finds
      waits_not : (whole : Bool) (x : ChainAccess) {slot : ℕ} {found : Option Identity} → Permits (table_left_by (table_of old) flight) x.access
          → WasLogged flight (LookCalled x.chain slot) → made_by x.chain flight ≡ [] → x.access ≡ Looks slot found
          → AreLooksSeen old.size log (Accesses x ∷ flight) → AreWaitsDenied whole log (length runs) state
          → IsInTurnIf whole (length runs) state x.chain
          → (look : WaitingLook) → Contains state.waiting look → x.chain ≡ look.id → ⊥
      waits_not whole x {slot} {found} permits was none is seen denied turn look inside same =
          let there = was_read flight (LookCalled look.id look.slot) (to.waits look inside).0 in
          let slots : slot ≡ look.slot = calls.once x.chain slot look.slot (was_read flight (LookCalled x.chain slot) was) (subst (λ (n : ℕ). Contains (log_of flight) (LookCalled n look.slot)) (sym same) there) in
          let here : Permits (table_left_by (table_of old) flight) (Looks slot found) = rw is at permits in
          let size : (table_left_by (table_of old) flight).size ≡ old.size = size_stays (table_of old) flight in
          let own_turn = subst (λ (n : ℕ). IsInTurnIf whole (length runs) state n) same turn in
          let (answer, logged, differs) = denied look found inside (rw (← slots, to.table) here) own_turn in
          let own : made_by x.chain (Accesses x ∷ flight) ≡ Looks slot found ∷ [] =
          rw (eq-eqb x.chain x.chain refl) (ap (λ (l : List Access). l ++ x.access ∷ []) none ∙ ap (λ (a : Access). a ∷ []) is) in
          let low = here.0 in
          differs (seen x.chain slot found answer [] (shifted flight was) (omega arith) own (subst (λ (n : ℕ). Contains log (LookAnswered n answer)) (sym same) logged))

      -- an access that a look may make changes no state
      pub looks_on : (whole : Bool) (x : ChainAccess) {slot : ℕ} {found : Option Identity} → Permits (table_left_by (table_of old) flight) x.access
          → WasLogged flight (LookCalled x.chain slot) → made_by x.chain flight ≡ [] → x.access ≡ Looks slot found
          → AreLooksSeen old.size log (Accesses x ∷ flight) → AreWaitsDenied whole log (length runs) state
          → IsInTurnIf whole (length runs) state x.chain → GoesOnTo old runs (Accesses x ∷ flight) state
      looks_on whole x {slot} permits was none is seen denied turn =
          let (low, high, empty) = calls.look x.chain slot (was_read flight (LookCalled x.chain slot) was) in
          look_leads x to is low high empty (waits_not whole x permits was none is seen denied turn)

      -- the answer of a look that may come is possible in the state
      found_not_stopped : (id : ℕ) (found : Option Identity) → MayFollow (setting_of old answers) flight (LookAnswered id found)
          → IsStopped rules log runs (log_of flight) state (LookAnswered id found) → ⊥
      found_not_stopped id found (slot, was, done, unclosed) (inl (file, is, closed)) = unclosed file is (was_logged flight (FileClosed file) closed)
      found_not_stopped id found (slot, was, done, unclosed) (inr (look, inside, same, unmade)) =
          let (there, none) = to.waits look inside in
          let slots : slot ≡ look.slot = calls.once id slot look.slot (was_read flight (LookCalled id slot) was)
          (subst (λ (n : ℕ). Contains (log_of flight) (LookCalled n look.slot)) same (was_read flight (LookCalled look.id look.slot) there)) in
          let empty : made_by id flight ≡ [] = subst (λ (n : ℕ). made_by n flight ≡ []) same none in
          let size : state.table.size ≡ old.size = ap (λ (t : Table). t.size) to.table ∙ size_stays (table_of old) flight in
          unmade (rw (size, ← slots) (subst (λ (l : List Access). IsLookDone old.size slot l found) empty done))

      -- the close of a file that may come is possible in the state
      close_not_stopped : (file : Identity) → MayFollow (setting_of old answers) flight (FileClosed file)
          → IsStopped rules log runs (log_of flight) state (FileClosed file) → ⊥
      close_not_stopped file may (inl stopped) = stopped (to.has file may.removed may.once)
      close_not_stopped file may (inr (id, found, unfreed)) =
          unfreed (was_read flight (Freed id) (may.unheld id (was_logged flight (LookAnswered id (Some file)) found)))

      pub not_stopped : (e : Happening) → MayFollow (setting_of old answers) flight e → IsStopped rules log runs (log_of flight) state e → ⊥
      not_stopped (Called id requests) may stopped =
          not_denied id (settled_at rules (first_of_call id) requests).0 (begun_at id requests [] may) (first_answers id requests may) stopped
      not_stopped (Answered id c) may stopped = answered_not_stopped id c may stopped
      not_stopped (LookCalled id slot) may stopped = stopped
      not_stopped (LookAnswered id found) may stopped = found_not_stopped id found may stopped
      not_stopped (Freed id) may stopped = stopped
      not_stopped (FileClosed file) may stopped = close_not_stopped file may stopped
      not_stopped AllSettled may (file, inside, unclosed) =
          unclosed (was_read flight (FileClosed file) (may file (to.only file inside)))
