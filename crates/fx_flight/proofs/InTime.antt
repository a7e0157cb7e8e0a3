-- A chain whose answers were all seen is done. A call that is over before another one begins makes
-- all its accesses before all of that one's.
use Rattle.fx_flight.proofs.{◌≡◌, ◌⊎◌, ◌+◌, ◌<◌, ◌≤◌, List, [], ◌∷◌, ◌++◌, take, refl, sym, arith, subst, Asked, Called, Moment, Logged, log_of, ℕ}
use Rattle.fx_flight.proofs.{length, Option, ⊎_elim, Access, Answered, Accesses, WasLogged, made_by, IsBegun, MayAccess, MayFollow, IsFlight, ap, ◌∙◌}
use Rattle.fx_flight.proofs.{inl, inr, append_assoc, append-nil, Identity, IsChainDone, Happening, LookCalled, LookAnswered, FlightSetting}
use Rattle.fx_flight.proofs.{table_left_by, length-append, Contains, Contains-append_left, Contains-append_right, contains_cases, contains_none}
use Rattle.fx_flight.proofs.{contains_tail, answer_place, same_length, new_number, one_call, IsFaultless, IsCallOf, IsAllOver, either_way, Permits}
use Rattle.fx_flight.proofs.{Table, table_of, by_equality, if◌then◌else◌, nil_from_length, take_all}
use Rattle.fx_flight.proofs.Beginnings.{earlier_part}
use Rattle.fx_order.proofs.ChainsFront.{length-done}
use Rattle.fx_order.proofs.Placed.{same_size}
use Rattle.fx_order.specs.declared.access.Access.TheVariants.{Looks}
use Rattle.std.specs.List.{AllByRecursion}

pub in_log : (flight : List Moment) (e : Happening) → WasLogged flight e → Contains (log_of flight) e
in_log [] e h = absurd (contains_none (Logged e) h)
in_log (Logged d ∷ flight) e h =
    ⊎_elim (λ same. let own : e ≡ d = cc in
    Contains-append_right (log_of flight) (d ∷ []) e (0, omega arith, sym own))
    (λ tail. Contains-append_left (log_of flight) (d ∷ []) e (in_log flight e tail)) (contains_cases (Logged d) flight (Logged e) h)
in_log (Accesses x ∷ flight) e h =
    ⊎_elim (λ same. absurd (cc)) (λ tail. in_log flight e tail) (contains_cases (Accesses x) flight (Logged e) h)

pub log_of-parts : (later earlier : List Moment) → log_of (later ++ earlier) ≡ log_of earlier ++ log_of later
log_of-parts [] earlier = sym (append-nil (log_of earlier))
log_of-parts (Accesses x ∷ later) earlier = log_of-parts later earlier
log_of-parts (Logged e ∷ later) earlier =
    ap (λ l. l ++ e ∷ []) (log_of-parts later earlier) ∙ append_assoc (log_of earlier) (log_of later) (e ∷ [])

pub made_by-parts : (id : ℕ) (later earlier : List Moment) → made_by id (later ++ earlier) ≡ made_by id earlier ++ made_by id later
made_by-parts id [] earlier = sym (append-nil (made_by id earlier))
made_by-parts id (Logged e ∷ later) earlier = made_by-parts id later earlier
made_by-parts id (Accesses x ∷ later) earlier =
    let rest = made_by-parts id later earlier in
    by_equality x.chain id
    (λ b. (if b then made_by id (later ++ earlier) ++ x.access ∷ [] else made_by id (later ++ earlier))
    ≡ made_by id earlier ++ (if b then made_by id later ++ x.access ∷ [] else made_by id later))
    (λ _. ap (λ l. l ++ x.access ∷ []) rest ∙ append_assoc (made_by id earlier) (made_by id later) (x.access ∷ []))
    (λ _. rest)

pub size_stays : (table : Table) (flight : List Moment) → (table_left_by table flight).size ≡ table.size
size_stays table [] = refl
size_stays table (Logged e ∷ flight) = size_stays table flight
size_stays table (Accesses x ∷ flight) = same_size (table_left_by table flight) x.access ∙ size_stays table flight

-- the flight before an event, and what the event needs there
pub record Seen (s : FlightSetting) (flight : List Moment) (e : Happening) : Type 0 where
  pub before : List Moment
  pub after : List Moment
  pub parts : flight ≡ after ++ Logged e ∷ before
  pub may : MayFollow s before e

pub seen : (s : FlightSetting) (flight : List Moment) (e : Happening) → IsFlight s flight → WasLogged flight e → Seen s flight e
seen s [] e is h = absurd (contains_none (Logged e) h)
seen s (m ∷ flight) e is h =
    ⊎_elim (λ same. let may = rw (← same) at is.1 in record { before = flight; after = []; parts = λ i. sym same i ∷ flight; may = may })
    (λ tail. let rest : Seen s flight e = seen s flight e is.0 tail in
    record { before = rest.before; after = m ∷ rest.after; parts = λ i. m ∷ rest.parts i; may = rest.may })
    (contains_cases m flight (Logged e) h)

-- a flight up to one of its moments
reach : (between after : List Moment) (m : Moment) (before : List Moment) {flight rest : List Moment} → flight ≡ between ++ rest
    → rest ≡ after ++ m ∷ before → flight ≡ (between ++ (after ++ m ∷ [])) ++ before
reach between after m before parts here =
    parts ∙ (ap (λ l. between ++ l) here
    ∙ sym (append_assoc between (after ++ m ∷ []) before ∙ ap (λ l. between ++ l) (append_assoc after (m ∷ []) before)))

-- an event of its beginning is in the flight
lift : (flight newer before : List Moment) (d : Happening) → flight ≡ newer ++ before → WasLogged before d → WasLogged flight d
lift flight newer before d parts h = rw parts (Contains-append_right newer before (Logged d) h)

module _ (s : FlightSetting) where
  -- the access is of a call that was called before
  called : (flight : List Moment) (id : ℕ) (a : Access) → MayAccess s flight id a → (e : Happening) × IsCallOf id e × WasLogged flight e
  called flight id a (inl x) = (Called id x.0, refl, x.1)
  called flight id a (inr x) = (LookCalled id x.0, refl, x.2)

  -- a call that wasn't called yet has made no access
  none_yet : (id : ℕ) (flight : List Moment) → IsFlight s flight → ((e : Happening) → IsCallOf id e → WasLogged flight e → ⊥)
      → made_by id flight ≡ []
  none_yet id [] is new = refl
  none_yet id (Logged e ∷ flight) is new =
      none_yet id flight is.0 (λ d call h. new d call (contains_tail (Logged e) flight (Logged d) h))
  none_yet id (Accesses x ∷ flight) is new =
      let before : made_by id flight ≡ [] =
      none_yet id flight is.0 (λ d call h. new d call (contains_tail (Accesses x) flight (Logged d) h)) in
      by_equality x.chain id (λ b. (if b then made_by id flight ++ x.access ∷ [] else made_by id flight) ≡ [])
      (λ same. let refuted : (e : Happening) → IsCallOf x.chain e → WasLogged flight e → ⊥ = λ e call h.
      new e (rw same at call) (contains_tail (Accesses x) flight (Logged e) h) in
      let own = called flight x.chain x.access is.1.1 in
      absurd (refuted own.0 own.1 own.2))
      (λ _. before)

  -- the last element of a list that isn't empty
  last : {X : Type 0} (x : X) (xs : List X) → (front : List X) × (y : X) × (x ∷ xs ≡ front ++ y ∷ [])
  last x [] = ([], x, refl)
  last x (y ∷ xs) = let (front, z, same) = last y xs in (x ∷ front, z, λ i. x ∷ same i)

  all_at : {X : Type 0} (P : X → Type 0) (front : List X) (y : X) → AllByRecursion P (front ++ y ∷ []) → P y
  all_at P [] y all = all.0
  all_at P (x ∷ front) y all = all_at P front y all.1

  ends_list : {X : Type 0} (y : X) (front : List X) (other : List X) (z : X) (rest : List X) → front ++ y ∷ [] ≡ other ++ z ∷ rest
      → length other ≡ length front → rest ≡ []
  ends_list y front other z rest is same =
      let long = sym (length-append front (y ∷ [])) ∙ (ap length is ∙ length-append other (z ∷ rest)) in
      nil_from_length rest (omega arith)

  module _ (id : ℕ) (rest : List Moment) where
    abbrev IsOne : List Moment → Type 0
    IsOne flight = (e d : Happening) → WasLogged flight e → WasLogged flight d → IsCallOf id e → IsCallOf id d → e ≡ d

    abbrev IsDoneBy : List Asked → List Access → Type 0
    IsDoneBy requests made = IsChainDone s.old.catalogue s.old.size (s.first id) requests made (s.answers id)

    -- if a chain's answers were all seen, its members have made all their accesses
    all_made : (flight : List Moment) → IsOne flight → (between : List Moment) → flight ≡ between ++ rest → IsFlight s rest
        → AllByRecursion (λ c. WasLogged rest (Answered id c)) (s.answers id)
        → (request : Asked) (requests : List Asked) → WasLogged flight (Called id (request ∷ requests))
        → (accesses : List Access) → IsDoneBy (request ∷ requests) accesses → length accesses ≤ length (made_by id flight)
    all_made flight one between parts is all request requests there accesses done =
        let (front, c, end) = last done.2 done.3 in
        let whole : s.answers id ≡ front ++ c ∷ [] = done.5 ∙ end in
        let answered : WasLogged rest (Answered id c) = all_at (λ d. WasLogged rest (Answered id d)) front c (rw whole at all) in
        let moment : Seen s rest (Answered id c) = seen s rest (Answered id c) is answered in
        let (own_requests, own_there, member) = moment.may in
        let newer : List Moment = between ++ (moment.after ++ Logged (Answered id c) ∷ []) in
        let reaches : flight ≡ newer ++ moment.before = reach between moment.after (Logged (Answered id c)) moment.before parts moment.parts in
        let lifted : WasLogged flight (Called id own_requests) =
        lift flight newer moment.before (Called id own_requests) reaches own_there in
        let same_call : Called id own_requests ≡ Called id (request ∷ requests) = one (Called id own_requests) (Called id (request ∷ requests)) lifted there refl refl in
        let same : own_requests ≡ request ∷ requests = cc in
        let place = answer_place s.old.catalogue s.old.size (s.first id) (request ∷ requests) _ (s.answers id) front c [] done whole in
        let own_place = answer_place s.old.catalogue s.old.size (s.first id) (request ∷ requests) _ (s.answers id) member.earlier c member.later done member.answer in
        let long : length member.earlier ≡ length front = omega arith in
        let none : member.later ≡ [] = ends_list c front member.earlier c member.later (sym whole ∙ member.answer) long in
        let count = length-done s.old.catalogue s.old.size (s.first id) (request ∷ requests) _ (s.answers id) done in
        let size = ap length whole ∙ length-append front (c ∷ []) in
        let all_of : take (length member.earlier + 1) own_requests ≡ request ∷ requests =
        rw same (take_all (length member.earlier + 1) (request ∷ requests) (omega arith)) in
        let answers : member.earlier ++ c ∷ [] ≡ s.answers id = sym (member.answer ∙ ap (λ l. member.earlier ++ c ∷ l) none) in
        let mine : IsChainDone s.old.catalogue s.old.size (s.first id) (request ∷ requests) member.own (s.answers id) = rw (all_of, answers) at member.done in
        let made = same_length s.old.catalogue s.old.size (s.first id) (request ∷ requests) member.own accesses (s.answers id) mine done in
        let third = ap length (ap (made_by id) reaches ∙ made_by-parts id newer moment.before)
        ∙ length-append (made_by id moment.before) (made_by id newer) in
        let fourth = ap length member.accesses ∙ length-append member.own member.others in
        omega arith

    -- so it makes no further access
    chain_over : (flight : List Moment) → IsOne flight → (between : List Moment) → flight ≡ between ++ rest → IsFlight s rest
        → AllByRecursion (λ c. WasLogged rest (Answered id c)) (s.answers id)
        → (requests : List Asked) → WasLogged flight (Called id requests)
        → (a : Access) (more : List Access) → IsDoneBy requests ((made_by id flight ++ a ∷ []) ++ more) → ⊥
    chain_over flight one between parts is all [] there a more done =
        let long = sym (ap length done.0) ∙ length-append (made_by id flight ++ a ∷ []) more in
        let front = length-append (made_by id flight) (a ∷ []) in
        omega arith
    chain_over flight one between parts is all (request ∷ requests) there a more done =
        let few = all_made flight one between parts is all request requests there ((made_by id flight ++ a ∷ []) ++ more) done in
        let long = length-append (made_by id flight ++ a ∷ []) more in
        let front = length-append (made_by id flight) (a ∷ []) in
        omega arith

    -- nor does a look whose answer was seen
    look_over : (flight : List Moment) → IsOne flight → (between : List Moment) → flight ≡ between ++ rest → IsFlight s rest
        → (found : Option Identity) → WasLogged rest (LookAnswered id found) → (slot : ℕ) → WasLogged flight (LookCalled id slot)
        → made_by id flight ≡ [] → slot < s.old.size → ⊥
    look_over flight one between parts is found answered slot there none inside =
        let moment : Seen s rest (LookAnswered id found) = seen s rest (LookAnswered id found) is answered in
        let (own_slot, own_there, done, unclosed) = moment.may in
        let newer : List Moment = between ++ (moment.after ++ Logged (LookAnswered id found) ∷ []) in
        let reaches : flight ≡ newer ++ moment.before = reach between moment.after (Logged (LookAnswered id found)) moment.before parts moment.parts in
        let lifted : WasLogged flight (LookCalled id own_slot) =
        lift flight newer moment.before (LookCalled id own_slot) reaches own_there in
        let same_call : LookCalled id own_slot ≡ LookCalled id slot = one (LookCalled id own_slot) (LookCalled id slot) lifted there refl refl in
        grind (arith, moment, newer, reaches, made_by-parts, either_way)

    -- so a call that is over makes no further access
    further : (later : List Moment) → IsOne (later ++ rest) → IsFlight s (later ++ rest) → IsAllOver s rest id → (a : Access)
        → MayAccess s (later ++ rest) id a → Permits (table_left_by (table_of s.old) (later ++ rest)) a → ⊥
    further later one is (inl over) a (inl next) permits =
        chain_over (later ++ rest) one later refl (earlier_part s later rest is) over.2 next.0 next.1 a next.2.0 next.2.1
    further later one is (inl over) a (inr next) permits =
        let lifted = Contains-append_right later rest (Logged (Called id over.0)) over.1 in
        let same : Called id over.0 ≡ LookCalled id next.0 = one (Called id over.0) (LookCalled id next.0) lifted next.2 refl refl in
        cc
    further later one is (inr over) a (inl next) permits =
        let moment : Seen s rest (LookAnswered id over.0) = seen s rest (LookAnswered id over.0) (earlier_part s later rest is) over.1 in
        let newer : List Moment = later ++ (moment.after ++ Logged (LookAnswered id over.0) ∷ []) in
        let lifted = lift (later ++ rest) newer moment.before (LookCalled id moment.may.0)
        (reach later moment.after (Logged (LookAnswered id over.0)) moment.before refl moment.parts) moment.may.1 in
        let same : LookCalled id moment.may.0 ≡ Called id next.0 = one (LookCalled id moment.may.0) (Called id next.0) lifted next.1 refl refl in
        cc
    further later one is (inr over) a (inr next) permits =
        let may : Permits (table_left_by (table_of s.old) (later ++ rest)) (Looks next.0 next.1) = rw next.4 at permits in
        let size = size_stays (table_of s.old) (later ++ rest) in
        look_over (later ++ rest) one later refl (earlier_part s later rest is) over.0 over.1 next.0 next.2 next.3 (omega (arith, may.0, size))

    no_more : (later : List Moment) → IsOne (later ++ rest) → IsFlight s (later ++ rest) → IsAllOver s rest id → made_by id later ≡ []
    no_more [] one is over = refl
    no_more (Logged e ∷ later) one is over =
        no_more later (λ x y a b. one x y (contains_tail (Logged e) (later ++ rest) (Logged x) a)
        (contains_tail (Logged e) (later ++ rest) (Logged y) b)) is.0 over
    no_more (Accesses x ∷ later) one is over =
        let smaller : IsOne (later ++ rest) = λ d e a b. one d e (contains_tail (Accesses x) (later ++ rest) (Logged d) a)
        (contains_tail (Accesses x) (later ++ rest) (Logged e) b) in
        grind (arith, no_more later smaller is.0 over, smaller, by_equality, further)

  -- the last access of a call has made a beginning of its chain
  last_begun : (id : ℕ) (flight : List Moment) → IsFlight s flight
      → (made_by id flight ≡ [])
      ⊎ ((requests : List Asked) × WasLogged flight (Called id requests) × IsBegun s id requests (made_by id flight))
      ⊎ ((slot : ℕ) × WasLogged flight (LookCalled id slot))
  last_begun id [] is = inl refl
  last_begun id (Logged e ∷ flight) is =
      grind (arith, last_begun id flight is.0, contains_tail)
  last_begun id (Accesses x ∷ flight) is =
      by_equality x.chain id (λ b. ((if b then made_by id flight ++ x.access ∷ [] else made_by id flight) ≡ [])
      ⊎ ((requests : List Asked) × WasLogged (Accesses x ∷ flight) (Called id requests)
      × IsBegun s id requests (if b then made_by id flight ++ x.access ∷ [] else made_by id flight))
      ⊎ ((slot : ℕ) × WasLogged (Accesses x ∷ flight) (LookCalled id slot)))
      (grind (arith, contains_tail))
      (grind (arith, last_begun id flight is.0, contains_tail))

  no_rest : (id : ℕ) (flight : List Moment) → IsOne id flight flight → (requests : List Asked) → IsFlight s flight
      → WasLogged flight (Called id requests) → AllByRecursion (λ c. WasLogged flight (Answered id c)) (s.answers id)
      → (more : List Access) → IsDoneBy id flight requests (made_by id flight ++ more) → more ≡ []
  no_rest id flight one [] is there all more done =
      let long = sym (ap length done.0) ∙ length-append (made_by id flight) more in nil_from_length more (omega arith)
  no_rest id flight one (request ∷ requests) is there all more done =
      let few = all_made id flight flight one [] refl is all request requests there (made_by id flight ++ more) done in
      let long = length-append (made_by id flight) more in
      nil_from_length more (omega arith)

  -- a chain whose answers were all seen is done
  pub answered_is_done : (id : ℕ) (flight : List Moment) (requests : List Asked) → IsFlight s flight → IsFaultless (log_of flight)
      → WasLogged flight (Called id requests) → AllByRecursion (λ c. WasLogged flight (Answered id c)) (s.answers id)
      → IsChainDone s.old.catalogue s.old.size (s.first id) requests (made_by id flight) (s.answers id)
  answered_is_done id flight requests is fits there all =
      let one : IsOne id flight flight = λ e d a b. one_call id 0 [] (log_of flight) e d fits (in_log flight e a) (in_log flight d b) in
      let begun : IsBegun s id requests (made_by id flight) = ⊎_elim
      (λ none. let moment : Seen s flight (Called id requests) = seen s flight (Called id requests) is there in
      subst (λ (l : List Access). IsBegun s id requests l) (sym none) moment.may)
      (λ some. ⊎_elim
      (λ x. let same_call : Called id x.0 ≡ Called id requests = one (Called id x.0) (Called id requests) x.1 there refl refl in
      let same : x.0 ≡ requests = cc in subst (λ (l : List Asked). IsBegun s id l (made_by id flight)) same x.2)
      (λ x. let apart : LookCalled id x.0 ≡ Called id requests = one (LookCalled id x.0) (Called id requests) x.1 there refl refl in absurd (cc)) some)
      (last_begun id flight is) in
      let more : begun.0 ≡ [] = no_rest id flight one requests is there all begun.0 begun.1 in
      subst (λ (l : List Access). IsChainDone s.old.catalogue s.old.size (s.first id) requests l (s.answers id))
      (ap (λ l. made_by id flight ++ l) more ∙ append-nil (made_by id flight)) begun.1

  pub in_time : (earlier later : List Moment) (first second : ℕ) (call : Happening) → IsFlight s (later ++ Logged call ∷ earlier)
      → IsFaultless (log_of (later ++ Logged call ∷ earlier)) → IsCallOf second call → IsAllOver s earlier first
      → (made_by second earlier ≡ []) × (made_by first later ≡ [])
  in_time earlier later first second call is fits own over =
      let whole : List Moment = later ++ Logged call ∷ earlier in
      let split : log_of whole ≡ log_of earlier ++ call ∷ log_of later =
      log_of-parts later (Logged call ∷ earlier) ∙ append_assoc (log_of earlier) (call ∷ []) (log_of later) in
      let one : (e d : Happening) → WasLogged whole e → WasLogged whole d → IsCallOf first e → IsCallOf first d → e ≡ d =
      λ e d a b. one_call first 0 [] (log_of whole) e d fits (in_log whole e a) (in_log whole d b) in
      let parts : whole ≡ (later ++ Logged call ∷ []) ++ earlier = sym (append_assoc later (Logged call ∷ []) earlier) in
      let none : made_by first (later ++ Logged call ∷ []) ≡ [] = no_more first earlier (later ++ Logged call ∷ [])
      (subst (λ (l : List Moment). IsOne first earlier l) parts one) (subst (λ (l : List Moment). IsFlight s l) parts is) over in (
        none_yet second earlier (earlier_part s later (Logged call ∷ earlier) is).0
            (λ e call_e there. new_number second 0 [] (log_of earlier) (log_of later) call e (subst IsFaultless split fits) (in_log earlier e there) call_e own),
        sym (made_by-parts first later (Logged call ∷ [])) ∙ none,
      )
