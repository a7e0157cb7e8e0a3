-- The player's flight goes on, by an access or an event.
use Rattle.check_flight.proofs.Words.{◌≡◌, ◌⊎◌, ℕ, ◌+◌, ◌-◌, ◌<◌, List, [], ◌∷◌, ◌++◌, length, take, refl, sym, ap, ◌∙◌, arith, inl, inr, ⊎_elim}
use Rattle.check_flight.proofs.Words.{Access, Asked, ChainAccess, Completed, Contains, IsChainDone, Option, Some, Table, cases_eq, file_removed_by}
use Rattle.check_flight.proofs.Words.{get_or_append_left, get_or_at, length-append, ne_eqb, option_to_list, slice_index_or, suc, zero, table_with}
use Rattle.check_flight.proofs.Words.{Contains-append_cases, Contains-append_left, Contains-append_right, contains_head, Identity, RingState, Permits}
use Rattle.check_flight.proofs.Words.{all_asked, drop, get_or-map, get_or-set_other, get_or-set_same, slice_set, table_of, table_of_slots}
use Rattle.check_flight.proofs.Words.{take-append-drop, cases_Bool, eq-eqb, false≢true, file_Decides, same_file, drop-cons, length-set}
use Rattle.check_flight.proofs.Words.{length-take-le, take-take, take_more, Happening, Called, Answered, LookAnswered, Freed, FileClosed, AllSettled}
use Rattle.check_flight.proofs.Words.{first_of_call, Accesses, IsLookDone, Logged, MayAccess, MayFollow, Moment, WasLogged, made_by, taken_in}
use Rattle.check_flight.proofs.Words.{IsCallDone, IsMemberMade, HasMadeFlight, IsCallMade, IsRingOf, accesses_in, accesses_of_plan, answers_in}
use Rattle.check_flight.proofs.Words.{AreCallsMade, AreFilesTaken, AreFoundHeld, IsLookAnswered, IsCallLogged, IsMarked, IsPlanned, answers_of_plan}
use Rattle.check_flight.proofs.Words.{begun_by, HeldFile, IndexSet, AreWithout, setting_of, JudgedLog, FlightCall, subst, None, IsTrue}
use Rattle.check_flight.proofs.Words.{IsBetweenMembers, FlightSetting, IsMembersEnd, AreOfMembers, CallPlan}
use Rattle.check_flight.specs.declared.plan.CallKind.{CallKind}
use Rattle.check_flight.specs.declared.plan.CallKind.TheVariants.{Look, Chain as ChainCall}
use Rattle.check_flight.specs.declared.player.FlightPlayer.{FlightPlayer}
use Rattle.check_flight.proofs.Steps.{shifted, taken}

unshifted : {x : ChainAccess} (flight : List Moment) {e : Happening} → WasLogged (Accesses x ∷ flight) e → WasLogged flight e
unshifted flight (zero, low, is) = absurd (cc)
unshifted flight (suc k, low, is) = (k, omega arith, is)

last_or_before : {e f : Happening} (flight : List Moment) → WasLogged (Logged e ∷ flight) f → (e ≡ f) ⊎ WasLogged flight f
last_or_before flight (zero, low, is) = inl (cc)
last_or_before flight (suc k, low, is) = inr (k, omega arith, is)

same_or_not : (a b : Identity) → (a ≡ b) ⊎ (a ≡ b → ⊥)
same_or_not a b = ⊎_elim (λ yes. inl ((file_Decides a b).0 yes)) (λ no. inr (λ same. false≢true (sym no ∙ (file_Decides a b).1 same)))
    (cases_Bool (same_file a b))

-- what a plan says of a call, by its position
pub accesses_at : (plans : List CallPlan) (i : ℕ) (d : CallPlan) → i < length plans
    → accesses_in plans (i + 1) ≡ (slice_index_or plans i d).accesses.items
accesses_at plans i d few =
    let n : i + 1 - 1 ≡ i = omega arith in
    rw n (get_or-map accesses_of_plan plans i d [] few)

pub answers_at : (plans : List CallPlan) (i : ℕ) (d : CallPlan) → i < length plans
    → answers_in plans (i + 1) ≡ answers_of_plan (slice_index_or plans i d)
answers_at plans i d few =
    let n : i + 1 - 1 ≡ i = omega arith in
    rw n (get_or-map answers_of_plan plans i d [] few)

-- a hold stays, or has begun to end
still_held : (holds : List HeldFile) (flight : List Moment) (m : Moment) (id : ℕ) (file : Identity)
    → Contains holds (record { id = id; file = file }) ⊎ WasLogged flight (Freed id)
    → Contains holds (record { id = id; file = file }) ⊎ WasLogged (m ∷ flight) (Freed id)
still_held holds flight m id file (inl held) = inl held
still_held holds flight m id file (inr freed) = inr (shifted flight freed)

-- the files stay if none is closed
files_on : {S : Type 0} {flight : List Moment} {removed : List Identity} {closed : IndexSet ℕ S} (e : Happening)
    → ((file : Identity) → e ≡ FileClosed file → ⊥) → AreFilesTaken flight removed closed → AreFilesTaken (Logged e ∷ flight) removed closed
files_on {flight = flight} e other files = record {
  taken = λ file inside. ⊎_elim (λ still. inl still) (λ was. inr (shifted flight was)) (files.taken file inside);
  left = λ file inside. (
    (files.left file inside).0,
    λ was. ⊎_elim (λ same. other file same) (λ before. (files.left file inside).1 before) (last_or_before flight was),
  );
  closed = λ file was. ⊎_elim (λ same. absurd (other file same)) (λ before. files.closed file before) (last_or_before flight was);
}

-- and the holds, if no look is answered
held_on : (flight : List Moment) (holds : List HeldFile) (e : Happening) → ((id : ℕ) (found : Option Identity) → e ≡ LookAnswered id found → ⊥)
    → AreFoundHeld flight holds → AreFoundHeld (Logged e ∷ flight) holds
held_on flight holds e other held id file was =
    ⊎_elim (λ same. absurd (other id (Some file) same)) (λ before. still_held holds flight (Logged e) id file (held id file before))
    (last_or_before flight was)

no_close : (id : ℕ) (kind : CallKind) (file : Identity) → begun_by id kind ≡ FileClosed file → ⊥
no_close id (ChainCall requests) file is = cc
no_close id (Look slot) file is = cc

no_answer : (id : ℕ) (kind : CallKind) (other : ℕ) (found : Option Identity) → begun_by id kind ≡ LookAnswered other found → ⊥
no_answer id (ChainCall requests) other found is = cc
no_answer id (Look slot) other found is = cc

-- a plan fits a call, by its position
pub planned_at : (log : JudgedLog) (plans : List CallPlan) (i id : ℕ) (kind : CallKind) (plan : CallPlan) → id ≡ i + 1 → i < length plans
    → plan ≡ slice_index_or plans i plan → IsPlanned log id kind plan.accesses.items (answers_of_plan plan)
    → IsPlanned log id kind (accesses_in plans id) (answers_in plans id)
planned_at log plans i id kind plan number few is planned =
    let mine : accesses_in plans id ≡ plan.accesses.items = rw number (accesses_at plans i plan few ∙ ap accesses_of_plan (sym is)) in
    let own : answers_in plans id ≡ answers_of_plan plan = rw number (answers_at plans i plan few ∙ ap answers_of_plan (sym is)) in
    rw (mine, own) planned

-- a call stays between members if it makes no access
still_between : (s : FlightSetting) (flight : List Moment) (m : Moment) (id : ℕ) → made_by id (m ∷ flight) ≡ made_by id flight
    → IsBetweenMembers s flight id → IsBetweenMembers s (m ∷ flight) id
still_between s flight m id same (inl none) = inl (same ∙ none)
still_between s flight m id same (inr (inl (slot, was))) = inr (inl (slot, shifted flight was))
still_between s flight m id same (inr (inr (requests, was, of))) =
    inr (inr (requests, shifted flight was, subst (λ (l : List Access). AreOfMembers s id requests l) (sym same) of))

-- no call is amid an update
at_rest : {amid : Option ℕ} (id : ℕ) → amid ≡ None → amid ≡ Some id → ⊥
at_rest id none one = let bad : None ≡ Some id = sym none ∙ one in cc bad

module _ (old : RingState) (log : JudgedLog) (plans : List CallPlan) (ring : IsRingOf old log) where
  -- what holds by the ring
  by_ring : (id : ℕ) (requests : List Asked) (accesses : List Access) (answers : List Completed) → IsCallDone log id requests accesses answers
      → IsChainDone old.catalogue old.size (first_of_call id) requests accesses answers
  by_ring id requests accesses answers done = rw (ring.catalogue, ring.size) done

  -- another call stays
  stays_call : {flight : List Moment} {m : Moment} {id : ℕ} {call : FlightCall} → made_by id (m ∷ flight) ≡ made_by id flight
      → IsCallMade log plans flight id call → IsCallMade log plans (m ∷ flight) id call
  stays_call {flight} same so_far = record {
    logged = (shifted flight so_far.logged.0, so_far.logged.1);
    made = same ∙ so_far.made;
  }

  -- An access.

  -- the call may make its next access
  may_access : (flight : List Moment) (id : ℕ) (kind : CallKind) (made : ℕ) (a : Access) → IsCallLogged log plans flight id kind
      → made_by id flight ≡ take made (accesses_in plans id) → made < length (accesses_in plans id)
      → made_by id flight ++ a ∷ [] ≡ take (made + 1) (accesses_in plans id)
      → a ≡ slice_index_or (accesses_in plans id) made a → MayAccess (setting_of old (answers_in plans)) flight id a
  may_access flight id (ChainCall requests) made a logged own few next is =
      let rest : List Access = drop (made + 1) (accesses_in plans id) in
      let whole : (made_by id flight ++ a ∷ []) ++ rest ≡ accesses_in plans id =
      ap (λ (front : List Access). front ++ rest) next ∙ take-append-drop (made + 1) (accesses_in plans id) in
      inl (all_asked requests.now, logged.0, (rest, rw whole (by_ring _ _ _ _ logged.1)))
  may_access flight id (Look slot) made a (was, inl none) own few next is = absurd (let long = ap length none in omega arith)
  may_access flight id (Look slot) made a (was, inr (found, one)) own few next is =
      let first : made ≡ 0 = let long = ap length one in omega arith in
      inr (slot, found, was, own ∙ (rw first refl), is ∙ (rw (one, first) refl))

  own_made : (flight : List Moment) (id : ℕ) (a : Access)
      → made_by id (Accesses (record { chain = id; access = a }) ∷ flight) ≡ made_by id flight ++ a ∷ []
  own_made flight id a = rw (eq-eqb id id refl) refl

  other_made : (flight : List Moment) (id other : ℕ) (a : Access) → (id ≡ other → ⊥)
      → made_by other (Accesses (record { chain = id; access = a }) ∷ flight) ≡ made_by other flight
  other_made flight id other a apart = rw (ne_eqb id other apart) refl

  -- the call has made all accesses of its first members
  ends_between : (flight : List Moment) (id : ℕ) (kind : CallKind) (plan : CallPlan) (made : ℕ) → IsCallLogged log plans flight id kind
      → accesses_in plans id ≡ plan.accesses.items → answers_in plans id ≡ answers_of_plan plan
      → made_by id flight ≡ take made (accesses_in plans id) → IsMembersEnd log id kind plan made
      → IsBetweenMembers (setting_of old (answers_in plans)) flight id
  ends_between flight id (ChainCall requests) plan made logged accesses answers own (count, done) =
      let is : made_by id flight ≡ take made plan.accesses.items = rw accesses at own in
      inr (inr (
        all_asked requests.now,
        logged.0,
        record {
          count = count;
          answered = take count (answers_of_plan plan);
          later = drop count (answers_of_plan plan);
          answer = answers ∙ sym (take-append-drop count (answers_of_plan plan));
          done = rw is (by_ring _ _ _ _ done);
        },
      ))
  ends_between flight id (Look slot) plan made logged accesses answers own ended = inr (inl (slot, logged.0))

  pub moves_access : {read : List Happening} (player next : FlightPlayer) (i : ℕ) (call after : FlightCall) (a : Access)
      → i < length player.calls.items → slice_index_or player.calls.items i call ≡ call
      → call.made < length (accesses_in plans (i + 1)) → a ≡ slice_index_or (accesses_in plans (i + 1)) call.made a
      → Permits (table_of_slots player.slots) a
      → after.kind ≡ call.kind → after.made ≡ call.made + 1
      → next.calls.items ≡ slice_set player.calls.items i after
      → table_of_slots next.slots ≡ table_with (table_of_slots player.slots) a
      → next.removed.items ≡ player.removed.items ++ option_to_list (file_removed_by a)
      → ((file : Identity) → file_removed_by a ≡ Some file → IsMarked player.closed file → ⊥)
      → (plan : CallPlan) → accesses_in plans (i + 1) ≡ plan.accesses.items → answers_in plans (i + 1) ≡ answers_of_plan plan
      → ((other : ℕ) → player.amid ≡ Some other → (other ≡ i + 1 → ⊥) → ⊥)
      → (IsTrue log.whole → (next.amid ≡ Some (i + 1) → ⊥) → IsMembersEnd log (i + 1) call.kind plan (call.made + 1))
      → HasMadeFlight old log plans read player
      → HasMadeFlight old log plans read
      (record player { slots = next.slots; calls = next.calls; removed = next.removed; amid = next.amid })
  moves_access {read} player next i call after a few here left is permits own more calls slots removed unclosed plan accesses answers turn ends so_far =
      let flight : List Moment = so_far.flight in
      let id : ℕ = i + 1 in
      let files = so_far.files in
      let gone : List Identity = option_to_list (file_removed_by a) in
      let moment : Moment = Accesses (record { chain = id; access = a }) in
      let it : IsCallMade log plans flight id call = rw here at (so_far.calls.each i call few) in
      let made : made_by id flight ++ a ∷ [] ≡ take (call.made + 1) (accesses_in plans id) =
      ap (λ (made : List Access). made ++ a ∷ []) it.made
      ∙ (ap (λ (x : Access). take call.made (accesses_in plans id) ++ x ∷ []) is ∙ sym (take_more (accesses_in plans id) call.made a left)) in
      let mine : IsCallMade log plans (moment ∷ flight) id after = record {
        logged = rw own (shifted flight it.logged.0, it.logged.1);
        made = rw more (own_made flight id a ∙ made);
      } in
      let long : length next.calls.items ≡ length player.calls.items =
      ap (λ (l : List FlightCall). length l) calls ∙ length-set player.calls.items i after in
      let others : (other : ℕ) → IsTrue log.whole → (id ≡ other → ⊥) → IsBetweenMembers (setting_of old (answers_in plans)) flight other =
      λ other yes apart. so_far.between yes other (λ (amid : player.amid ≡ Some other). turn other amid (λ (same : other ≡ id). apart (sym same))) in
      record {
        flight = moment ∷ flight;
        is = (so_far.is, (rw (← so_far.table) permits, may_access flight id call.kind call.made a it.logged it.made left made is));
        whole = λ yes. (so_far.whole yes, λ other apart. others other yes apart);
        between = λ yes other amid. ⊎_elim
            (λ (same : other ≡ id).
            let kept : next.amid ≡ Some id → ⊥ = λ (is : next.amid ≡ Some id). amid (is ∙ ap Some (sym same)) in
            subst (λ (n : ℕ). IsBetweenMembers (setting_of old (answers_in plans)) (moment ∷ flight) n) (sym same) (ends_between (moment ∷ flight) id call.kind plan (call.made + 1) (shifted flight it.logged.0, it.logged.1) accesses answers
            (own_made flight id a ∙ made) (ends yes kept)))
            (λ (apart : other ≡ id → ⊥).
            let differ : id ≡ other → ⊥ = λ (same : id ≡ other). apart (sym same) in
            still_between (setting_of old (answers_in plans)) flight moment other (other_made flight id other a differ) (others other yes differ))
            (cases_eq other id);
        logged = so_far.logged;
        table = slots ∙ ap (λ (t : Table). table_with t a) so_far.table;
        calls = record {
          each = λ k d low. rw calls (⊎_elim
              (λ (same : k ≡ i). rw (same, get_or-set_same player.calls.items i after d few) mine)
              (λ (other : k ≡ i → ⊥). rw (get_or-set_other player.calls.items i k after d other)
              (stays_call (other_made flight id (k + 1) a (λ (e : id ≡ k + 1). other (omega arith))) (so_far.calls.each k d (omega (arith, long)))))
              (cases_eq k i));
          unmade = λ other high. other_made flight id other a (λ (e : id ≡ other). omega (arith, long)) ∙ so_far.calls.unmade other (omega (arith, long));
        };
        files = record {
          taken = λ file inside. ⊎_elim (λ here. inl (rw removed (Contains-append_right player.removed.items gone file here)))
              (λ before. ⊎_elim (λ still. inl (rw removed (Contains-append_left player.removed.items gone file still)))
              (λ was. inr (shifted flight was)) (files.taken file before))
              (Contains-append_cases gone (taken_in flight) file inside);
          left = λ file inside. ⊎_elim
              (λ before. (
                Contains-append_right gone (taken_in flight) file (files.left file before).0,
                λ was. (files.left file before).1 (unshifted flight was),
              ))
              (λ here. (
                Contains-append_left gone (taken_in flight) file here,
                λ was. unclosed file (taken (file_removed_by a) file here) (files.closed file (unshifted flight was)),
              ))
              (Contains-append_cases player.removed.items gone file (rw removed at inside));
          closed = λ file was. files.closed file (unshifted flight was);
        };
        holds = λ other file was. still_held player.holds.items flight moment other file (so_far.holds other file (unshifted flight was));
      }

  -- An event.

  -- the calls that were begun go on
  calls_on : {flight : List Moment} {calls : List FlightCall} (e : Happening) → AreCallsMade log plans flight calls
      → AreCallsMade log plans (Logged e ∷ flight) calls
  calls_on e all = record { each = λ k d low. stays_call refl (all.each k d low); unmade = all.unmade }

  -- one that may follow
  follows : {read : List Happening} {player : FlightPlayer} (next : FlightPlayer) (e : Happening) (so_far : HasMadeFlight old log plans read player)
      → player.amid ≡ None → MayFollow (setting_of old (answers_in plans)) so_far.flight e → table_of_slots next.slots ≡ table_of_slots player.slots
      → AreCallsMade log plans (Logged e ∷ so_far.flight) next.calls.items
      → AreFilesTaken (Logged e ∷ so_far.flight) next.removed.items next.closed → AreFoundHeld (Logged e ∷ so_far.flight) next.holds.items
      → HasMadeFlight old log plans (read ++ e ∷ []) next
  follows next e so_far rests may table calls files holds = record {
    flight = Logged e ∷ so_far.flight;
    is = (so_far.is, may);
    whole = λ yes. (so_far.whole yes, λ id other. so_far.between yes id (at_rest id rests));
    between = λ yes id apart. still_between (setting_of old (answers_in plans)) so_far.flight (Logged e) id refl (so_far.between yes id (at_rest id rests));
    logged = ap (λ (l : List Happening). l ++ e ∷ []) so_far.logged;
    table = table ∙ so_far.table;
    calls = calls;
    files = files;
    holds = holds;
  }

  -- one that changes nothing
  pub moves_event : {read : List Happening} {player : FlightPlayer} (e : Happening) → ((file : Identity) → e ≡ FileClosed file → ⊥)
      → ((id : ℕ) (found : Option Identity) → e ≡ LookAnswered id found → ⊥) → player.amid ≡ None
      → (so_far : HasMadeFlight old log plans read player)
      → MayFollow (setting_of old (answers_in plans)) so_far.flight e → HasMadeFlight old log plans (read ++ e ∷ []) player
  moves_event {read} {player} e close look rests so_far may =
      follows player e so_far rests may refl (calls_on e so_far.calls) (files_on e close so_far.files)
      (held_on so_far.flight player.holds.items e look so_far.holds)

  -- a call may begin if its plan fits it
  may_begin : (flight : List Moment) (id : ℕ) (kind : CallKind) → IsPlanned log id kind (accesses_in plans id) (answers_in plans id)
      → MayFollow (setting_of old (answers_in plans)) flight (begun_by id kind)
  may_begin flight id (ChainCall requests) done = (accesses_in plans id, by_ring _ _ _ _ done)
  may_begin flight id (Look slot) fits = tt

  -- a call
  pub moves_begin : {read : List Happening} (player next : FlightPlayer) (kind : CallKind) {id : ℕ} → id ≡ length player.calls.items + 1
      → IsPlanned log id kind (accesses_in plans id) (answers_in plans id)
      → next.calls.items ≡ player.calls.items ++ record { kind = kind; made = 0 } ∷ []
      → player.amid ≡ None → HasMadeFlight old log plans read player
      → HasMadeFlight old log plans (read ++ begun_by id kind ∷ []) (record player { calls = next.calls })
  moves_begin {read} player next kind {id} is planned calls rests so_far =
      let flight : List Moment = so_far.flight in
      let before : List FlightCall = player.calls.items in
      let call : FlightCall = record { kind = kind; made = 0 } in
      let e : Happening = begun_by id kind in
      let mine : IsCallMade log plans (Logged e ∷ flight) id call = record {
        logged = (contains_head (Logged e) flight, planned);
        made = so_far.calls.unmade id (omega arith);
      } in
      let long : length next.calls.items ≡ length before + 1 = ap (λ (l : List FlightCall). length l) calls ∙ length-append before (call ∷ []) in
      follows (record player { calls = next.calls }) e so_far rests (may_begin flight id kind planned) refl
      (record {
        each = λ k d low. rw calls (⊎_elim
            (λ (same : k ≡ length before).
            let number : k + 1 ≡ id = omega arith in
            rw (number, get_or_at before call [] d k (sym same)) mine)
            (λ (other : k ≡ length before → ⊥). rw (get_or_append_left before (call ∷ []) d k (omega (arith, long)))
            (stays_call refl (so_far.calls.each k d (omega (arith, long)))))
            (cases_eq k (length before)));
        unmade = λ other high. so_far.calls.unmade other (omega (arith, long));
      })
      (files_on e (no_close id kind) so_far.files) (held_on flight player.holds.items e (no_answer id kind) so_far.holds)

  -- an answer
  pub moves_answer : {read : List Happening} {player : FlightPlayer} (i : ℕ) {id : ℕ} {call : FlightCall} {plan : CallPlan} {c : Completed} {requests : List Asked}
      → id ≡ i + 1 → i < length player.calls.items → slice_index_or player.calls.items i call ≡ call
      → ((flight : List Moment) → IsCallLogged log plans flight id call.kind → WasLogged flight (Called id requests))
      → i < length plans → slice_index_or plans i plan ≡ plan → IsMemberMade log plan requests call.made id c
      → player.amid ≡ None → HasMadeFlight old log plans read player → HasMadeFlight old log plans (read ++ Answered id c ∷ []) player
  moves_answer {read} {player} i {id} {call} {plan} {c} {requests} number few here chain within there member rests so_far =
      let flight : List Moment = so_far.flight in
      let it : IsCallMade log plans flight id call = rw (here, ← number) at (so_far.calls.each i call few) in
      let A : List Completed = answers_of_plan plan in
      let mine : List Access = plan.accesses.items in
      let answers : answers_in plans id ≡ A = rw number (answers_at plans i plan within ∙ ap answers_of_plan there) in
      let accesses : accesses_in plans id ≡ mine = rw number (accesses_at plans i plan within ∙ ap accesses_of_plan there) in
      let earlier : List Completed = take member.at A in
      let later : List Completed = drop (suc member.at) A in
      let split : A ≡ earlier ++ c ∷ later =
      sym (take-append-drop member.at A) ∙ ap (λ (l : List Completed). earlier ++ l) (drop-cons A member.at c member.inside)
      ∙ ap (λ (x : Completed). earlier ++ x ∷ later) member.answer in
      let count : length earlier ≡ member.at = length-take-le member.at A (omega (arith, member.inside)) in
      let upto : take (member.at + 1) A ≡ earlier ++ c ∷ [] =
      take_more A member.at c member.inside ∙ ap (λ (x : Completed). earlier ++ x ∷ []) member.answer in
      let made : made_by id flight ≡ take call.made mine = rw accesses at it.made in
      let own : made_by id flight ≡ take member.own mine ++ drop member.own (take call.made mine) =
      made ∙ sym (take-append-drop member.own (take call.made mine))
      ∙ ap (λ (l : List Access). l ++ drop member.own (take call.made mine)) (take-take member.own call.made mine member.few) in
      let done : IsChainDone old.catalogue old.size (first_of_call id) (take (length earlier + 1) requests)
      (take member.own mine) (earlier ++ c ∷ []) = rw (count, ← upto) (by_ring _ _ _ _ member.done) in
      moves_event (Answered id c) (λ file same. cc) (λ other found same. cc) rests so_far (
        requests,
        chain flight it.logged,
        record {
          earlier = earlier;
          later = later;
          answer = answers ∙ split;
          own = take member.own mine;
          others = drop member.own (take call.made mine);
          accesses = own;
          done = done;
        },
      )

  -- a close
  pub moves_close : {read : List Happening} (player next : FlightPlayer) (file : Identity) → Contains player.removed.items file
      → ((hold : HeldFile) → Contains player.holds.items hold → hold.file ≡ file → ⊥)
      → AreWithout player.removed.items file next.removed.items → (Contains next.removed.items file → ⊥)
      → ((other : Identity) → (file ≡ other) ⊎ IsMarked player.closed other → IsMarked next.closed other)
      → player.amid ≡ None → HasMadeFlight old log plans read player
      → HasMadeFlight old log plans (read ++ FileClosed file ∷ []) (record player { removed = next.removed; closed = next.closed })
  moves_close {read} player next file inside unheld without gone closed rests so_far =
      let flight : List Moment = so_far.flight in
      let files = so_far.files in
      let e : Happening = FileClosed file in
      follows (record player { removed = next.removed; closed = next.closed }) e so_far rests
      (record {
        removed = (files.left file inside).0;
        once = (files.left file inside).1;
        unheld = λ id was. ⊎_elim (λ held. absurd (unheld (record { id = id; file = file }) held refl)) (λ freed. freed) (so_far.holds id file was);
      })
      refl (calls_on e so_far.calls)
      (record {
        taken = λ other there. ⊎_elim
            (λ (same : other ≡ file). inr (rw same (contains_head (Logged e) flight)))
            (λ (apart : other ≡ file → ⊥). ⊎_elim (λ still. inl ((without other).1 apart still)) (λ was. inr (shifted flight was))
            (files.taken other there))
            (same_or_not other file);
        left = λ other there.
            let before = (without other).0 there in (
              (files.left other before).0,
              λ was. ⊎_elim (λ same. let it : file ≡ other = cc in gone (rw it there))
                  (λ earlier. (files.left other before).1 earlier) (last_or_before flight was),
            );
        closed = λ other was. closed other (⊎_elim (λ same. inl (let it : file ≡ other = cc in it)) (λ earlier. inr (files.closed other earlier))
            (last_or_before flight was));
      })
      (held_on flight player.holds.items e (λ id found same. cc) so_far.holds)

  -- the answer of a look
  pub moves_found : {read : List Happening} (player next : FlightPlayer) (id : ℕ) (found : Option Identity) → IsLookAnswered log.setting.size plans player id found
      → ((hold : HeldFile) → Contains player.holds.items hold → Contains next.holds.items hold)
      → ((file : Identity) → found ≡ Some file → Contains next.holds.items (record { id = id; file = file }))
      → player.amid ≡ None → HasMadeFlight old log plans read player
      → HasMadeFlight old log plans (read ++ LookAnswered id found ∷ []) (record player { holds = next.holds })
  moves_found {read} player next id found has holds more rests so_far =
      let flight : List Moment = so_far.flight in
      let e : Happening = LookAnswered id found in
      let it : IsCallMade log plans flight id has.call = rw (has.here, ← has.is) at (so_far.calls.each has.at has.call has.inside) in
      let logged : IsCallLogged log plans flight id (Look has.slot) = rw has.kind at it.logged in
      let done : IsLookDone old.size has.slot (made_by id flight) found = rw (ring.size, it.made) has.done in
      follows (record player { holds = next.holds }) e so_far rests
      (has.slot, logged.0, done, λ file same was. has.unclosed file same (so_far.files.closed file was)) refl (calls_on e so_far.calls)
      (files_on e (λ file same. cc) so_far.files)
      (λ other file was. ⊎_elim
      (λ same.
      let number : id ≡ other = cc in
      let is : found ≡ Some file = cc in
      inl (rw number at (more file is)))
      (λ earlier. still_held next.holds.items flight (Logged e) other file (⊎_elim (λ held. inl (holds (record { id = other; file = file }) held)) (λ freed. inr freed)
      (so_far.holds other file earlier)))
      (last_or_before flight was))

  -- the end of a hold
  pub moves_free : {read : List Happening} (player next : FlightPlayer) (id : ℕ)
      → ((hold : HeldFile) → Contains player.holds.items hold → (hold.id ≡ id → ⊥) → Contains next.holds.items hold)
      → player.amid ≡ None → HasMadeFlight old log plans read player
      → HasMadeFlight old log plans (read ++ Freed id ∷ []) (record player { holds = next.holds })
  moves_free {read} player next id holds rests so_far =
      let flight : List Moment = so_far.flight in
      let e : Happening = Freed id in
      let on = held_on flight player.holds.items e (λ other found same. cc) so_far.holds in
      follows (record player { holds = next.holds }) e so_far rests tt refl (calls_on e so_far.calls) (files_on e (λ file same. cc) so_far.files)
      (λ other file was. ⊎_elim
      (λ held. ⊎_elim (λ (same : other ≡ id). inr (rw same (contains_head (Logged e) flight)))
      (λ (apart : other ≡ id → ⊥). inl (holds (record { id = other; file = file }) held apart)) (cases_eq other id))
      (λ freed. inr freed) (on other file was))

  -- the end of a wait for all closes
  pub moves_end : {read : List Happening} {player : FlightPlayer} → player.removed.items ≡ [] → player.amid ≡ None
      → HasMadeFlight old log plans read player → HasMadeFlight old log plans (read ++ AllSettled ∷ []) player
  moves_end none rests so_far =
      moves_event AllSettled (λ file same. cc) (λ id found same. cc) rests so_far
      (λ file inside. ⊎_elim (λ still. let it = rw none at still in absurd (let few = it.1 in omega arith)) (λ was. was)
      (so_far.files.taken file inside))

  -- before the first move
  pub moves_first : (player : FlightPlayer) → table_of_slots player.slots ≡ table_of old → player.calls.items ≡ [] → player.removed.items ≡ []
      → HasMadeFlight old log plans [] player
  moves_first player table calls removed = record {
    flight = [];
    is = tt;
    whole = λ yes. tt;
    between = λ yes id apart. inl refl;
    logged = refl;
    table = table;
    calls = record { each = λ k d low. absurd (let few = rw calls at low in omega arith); unmade = λ id high. refl };
    files = record {
      taken = λ file inside. absurd (let few = inside.1 in omega arith);
      left = λ file inside. let it = rw removed at inside in absurd (let few = it.1 in omega arith);
      closed = λ file was. absurd (let few = was.1 in omega arith);
    };
    holds = λ id file was. absurd (let few = was.1 in omega arith);
  }
