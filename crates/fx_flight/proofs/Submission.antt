-- A submission that follows an order of its requests has a flight: all calls, then the order, then
-- all answers, all closes.
use Rattle.fx_flight.proofs.{◌≡◌, ◌⊎◌, ◌+◌, ◌<◌, ◌≤◌, ◌==◌, List, [], ◌∷◌, ◌++◌, map, refl, sym, ap, ◌∙◌, inl, inr, Some, Asked, Logged, log_of, ℕ}
use Rattle.fx_flight.proofs.{append_assoc, contains_tail, IsChainDone, ChainAccess, LookAnswered, FlightSetting, table_left_by, first_member, length}
use Rattle.fx_flight.proofs.{arith, ⊎_elim, Contains, Identity, Access, Called, Answered, Moment, Accesses, made_by, taken_in, IsFlight, append-nil}
use Rattle.fx_flight.proofs.{Completed, RingState, Happening, FileClosed, AllSettled, WasLogged, MayAccess, MayFollow, HasFlight}
use Rattle.fx_flight.proofs.{Contains-append_cases, Contains-append_left, Contains-append_right, contains_cases, contains_head, contains_none}
use Rattle.fx_flight.proofs.{answer_chain, part_done, answer_of_chain, calls_of, log_of_submission, FileEntry, PermitsAll, Table, access_of}
use Rattle.fx_flight.proofs.{accesses_of, accesses_of_chain, file_removed_by, files_removed_in, IsOneOrder, table_of, AreChainsDone, by_equality}
use Rattle.fx_flight.proofs.{IsRing, contains_map, contains_mapped, filter, if◌then◌else◌, slice_get, slice_index_or, subst, suc, zero, map-append}
use Rattle.fx_flight.proofs.{All-contains, filter-append}
use Rattle.fx_chain.specs.Accepted.{IsAccepted}
use Rattle.fx_chain.specs.Runs.{runs_of}
use Rattle.fx_order.proofs.OneRing.{each_closed_file_is_known}
use Rattle.fx_order.specs.Laws.{AreKnown}
use Rattle.fx_ring.specs.Submission.{Reported}
use Rattle.std.proofs.lemmas.List.Sorted.{Contains-permutation, IsPermutation-sym}
use Rattle.std.specs.Option.{option_to_list}

-- the flight, then these events
abbrev logging : List Happening → List Moment → List Moment
logging [] flight = flight
logging (e ∷ es) flight = logging es (Logged e ∷ flight)

-- the flight, then these accesses
abbrev making : List ChainAccess → List Moment → List Moment
making [] flight = flight
making (x ∷ xs) flight = making xs (Accesses x ∷ flight)

log_of-logging : (es : List Happening) (flight : List Moment) → log_of (logging es flight) ≡ log_of flight ++ es
log_of-logging [] flight = sym (append-nil (log_of flight))
log_of-logging (e ∷ es) flight = log_of-logging es (Logged e ∷ flight) ∙ append_assoc (log_of flight) (e ∷ []) es

log_of-making : (xs : List ChainAccess) (flight : List Moment) → log_of (making xs flight) ≡ log_of flight
log_of-making [] flight = refl
log_of-making (x ∷ xs) flight = log_of-making xs (Accesses x ∷ flight)

made_by-logging : (id : ℕ) (es : List Happening) (flight : List Moment) → made_by id (logging es flight) ≡ made_by id flight
made_by-logging id [] flight = refl
made_by-logging id (e ∷ es) flight = made_by-logging id es (Logged e ∷ flight)

table-logging : (es : List Happening) (flight : List Moment) (table : Table) → table_left_by table (logging es flight) ≡ table_left_by table flight
table-logging [] flight table = refl
table-logging (e ∷ es) flight table = table-logging es (Logged e ∷ flight) table

-- the accesses of a chain in an order, from one access on
one_more : (id : ℕ) (x : ChainAccess) (xs : List ChainAccess) (front : List Access)
    → front ++ accesses_of_chain id (x ∷ xs) ≡ (if x.chain == id then front ++ x.access ∷ [] else front) ++ accesses_of_chain id xs
one_more id x xs front =
    by_equality x.chain id
    (λ b. front ++ map access_of (if b then x ∷ filter (λ (y : ChainAccess). y.chain == id) xs else filter (λ (y : ChainAccess). y.chain == id) xs)
    ≡ (if b then front ++ x.access ∷ [] else front) ++ accesses_of_chain id xs)
    (λ _. sym (append_assoc front (x.access ∷ []) (accesses_of_chain id xs))) (λ _. refl)

made_by-making : (id : ℕ) (xs : List ChainAccess) (flight : List Moment)
    → made_by id (making xs flight) ≡ made_by id flight ++ accesses_of_chain id xs
made_by-making id [] flight = sym (append-nil (made_by id flight))
made_by-making id (x ∷ xs) flight = made_by-making id xs (Accesses x ∷ flight) ∙ sym (one_more id x xs (made_by id flight))

removed-logging : (es : List Happening) (flight : List Moment) → taken_in (logging es flight) ≡ taken_in flight
removed-logging [] flight = refl
removed-logging (e ∷ es) flight = removed-logging es (Logged e ∷ flight)

-- the removed files, in any order
removed-making : (xs : List ChainAccess) (flight : List Moment) (f : Identity) → Contains (taken_in (making xs flight)) f
    → Contains (files_removed_in (accesses_of xs)) f ⊎ Contains (taken_in flight) f
removed-making [] flight f h = inr h
removed-making (x ∷ xs) flight f h =
    grind (arith, removed-making xs (Accesses x ∷ flight) f h, Contains-append_right, Contains-append_left, Contains-append_cases)

removed-made : (xs : List ChainAccess) (flight : List Moment) (f : Identity)
    → Contains (files_removed_in (accesses_of xs)) f ⊎ Contains (taken_in flight) f → Contains (taken_in (making xs flight)) f
removed-made [] flight f (inl h) = absurd (contains_none f h)
removed-made [] flight f (inr h) = h
removed-made (x ∷ xs) flight f (inl h) =
    let own : List Identity = option_to_list (file_removed_by x.access) in
    removed-made xs (Accesses x ∷ flight) f
    (⊎_elim (λ l. inr (Contains-append_left own (taken_in flight) f l)) (λ r. inl r) (Contains-append_cases own (files_removed_in (accesses_of xs)) f h))
removed-made (x ∷ xs) flight f (inr h) =
    removed-made xs (Accesses x ∷ flight) f (inr (Contains-append_right (option_to_list (file_removed_by x.access)) (taken_in flight) f h))

none_removed : (es : List Happening) → taken_in (logging es []) ≡ []
none_removed es = removed-logging es []

stays-logging : (es : List Happening) (flight : List Moment) (e : Happening) → WasLogged flight e → WasLogged (logging es flight) e
stays-logging [] flight e h = h
stays-logging (d ∷ es) flight e h = stays-logging es (Logged d ∷ flight) e (contains_tail (Logged d) flight (Logged e) h)

stays-making : (xs : List ChainAccess) (flight : List Moment) (e : Happening) → WasLogged flight e → WasLogged (making xs flight) e
stays-making [] flight e h = h
stays-making (x ∷ xs) flight e h = stays-making xs (Accesses x ∷ flight) e (contains_tail (Accesses x) flight (Logged e) h)

is_logged : (es : List Happening) (flight : List Moment) (e : Happening) → Contains es e → WasLogged (logging es flight) e
is_logged [] flight e h = absurd (contains_none e h)
is_logged (d ∷ es) flight e h =
    ⊎_elim (λ same. stays-logging es (Logged d ∷ flight) e (0, omega arith, ap Logged (sym same)))
    (λ tail. is_logged es (Logged d ∷ flight) e tail) (contains_cases d es e h)

from-logging : (es : List Happening) (flight : List Moment) (e : Happening) → WasLogged (logging es flight) e → Contains es e ⊎ WasLogged flight e
from-logging [] flight e h = inr h
from-logging (d ∷ es) flight e h =
    grind (arith, from-logging es (Logged d ∷ flight) e h, contains_tail, contains_cases)

from-making : (xs : List ChainAccess) (flight : List Moment) (e : Happening) → WasLogged (making xs flight) e → WasLogged flight e
from-making [] flight e h = h
from-making (x ∷ xs) flight e h =
    ⊎_elim (λ same. absurd (cc)) (λ t. t) (contains_cases (Accesses x) flight (Logged e) (from-making xs (Accesses x ∷ flight) e h))

-- Each chain's answers, and its accesses in the order.
module _ (catalogue : List FileEntry) (size submission : ℕ) (order : List ChainAccess) where
  abbrev answers_of : (chain : ℕ) (runs : List (List Asked)) (cs : List Completed) → AreChainsDone catalogue size submission chain runs order cs
      → ℕ → List Completed
  answers_of chain [] cs x id = []
  answers_of chain (run ∷ runs) cs x id = if id == chain then x.0 else answers_of (chain + 1) runs x.1 x.4 id

  call_low : (chain : ℕ) (runs : List (List Asked)) (id : ℕ) (run : List Asked) → Contains (calls_of chain runs) (Called id run) → chain ≤ id
  call_low chain [] id run h = absurd (contains_none (Called id run) h)
  call_low chain (own ∷ runs) id run h =
      ⊎_elim (λ same. let is : id ≡ chain = cc in omega arith) (λ tail. let low = call_low (chain + 1) runs id run tail in omega arith)
      (contains_cases (Called chain own) (calls_of (chain + 1) runs) (Called id run) h)

  abbrev IsDoneSo : ℕ → List Asked → List Completed → Type 0
  IsDoneSo id run answers = IsChainDone catalogue size (first_member submission id) run (accesses_of_chain id order) answers

  chain_done : (chain : ℕ) (runs : List (List Asked)) (cs : List Completed) (x : AreChainsDone catalogue size submission chain runs order cs)
      (id : ℕ) (run : List Asked) → Contains (calls_of chain runs) (Called id run) → IsDoneSo id run (answers_of chain runs cs x id)
  chain_done chain [] cs x id run h = absurd (contains_none (Called id run) h)
  chain_done chain (own ∷ runs) cs x id run h =
      by_equality id chain (λ b. IsDoneSo id run (if b then x.0 else answers_of (chain + 1) runs x.1 x.4 id))
      (λ same. ⊎_elim (λ is. let mine : run ≡ own = cc in rw (same, mine) x.3)
      (λ tail. let low = call_low (chain + 1) runs id run tail in absurd (omega arith))
      (contains_cases (Called chain own) (calls_of (chain + 1) runs) (Called id run) h))
      (λ other. ⊎_elim (λ is. let mine : id ≡ chain = cc in absurd (other mine)) (λ tail. chain_done (chain + 1) runs x.1 x.4 id run tail)
      (contains_cases (Called chain own) (calls_of (chain + 1) runs) (Called id run) h))

  call_there : (chain : ℕ) (runs : List (List Asked)) (id : ℕ) → chain ≤ id → id < chain + length runs
      → (run : List Asked) × Contains (calls_of chain runs) (Called id run)
  call_there chain [] id low high = absurd (omega arith)
  call_there chain (run ∷ runs) id low high =
      by_equality id chain (λ _. (own : List Asked) × Contains (calls_of chain (run ∷ runs)) (Called id own))
      (λ same. (run, rw same (contains_head (Called chain run) (calls_of (chain + 1) runs))))
      (λ other. let rest = call_there (chain + 1) runs id (omega arith) (omega arith) in
      (rest.0, contains_tail (Called chain run) (calls_of (chain + 1) runs) (Called id rest.0) rest.1))

  -- an answer of the report is one of its chain's
  pub record IsOfChain (chain : ℕ) (runs : List (List Asked)) (cs : List Completed) (x : AreChainsDone catalogue size submission chain runs order cs)
      (c : Completed) : Type 0 where
    pub run : List Asked
    pub called : Contains (calls_of chain runs) (Called c.place.chain run)
    pub front : List Completed
    pub rest : List Completed
    pub answers : answers_of chain runs cs x c.place.chain ≡ front ++ c ∷ rest

  split_at : {X : Type 0} (xs : List X) (x : X) → Contains xs x → (front : List X) × (rest : List X) × (xs ≡ front ++ x ∷ rest)
  split_at [] x h = absurd (contains_none x h)
  split_at (y ∷ xs) x h =
      ⊎_elim (λ same. ([], xs, λ i. sym same i ∷ xs))
      (λ tail. let rest = split_at xs x tail in (y ∷ rest.0, rest.1, λ i. y ∷ rest.2 i)) (contains_cases y xs x h)

  of_chain : (chain : ℕ) (runs : List (List Asked)) (cs : List Completed) (x : AreChainsDone catalogue size submission chain runs order cs)
      (c : Completed) → Contains cs c → IsOfChain chain runs cs x c
  of_chain chain [] cs x c h = absurd (contains_none c (rw x at h))
  of_chain chain (run ∷ runs) cs x c h =
      ⊎_elim
      (λ own. let (front, rest, are) = split_at x.0 c own in
      let mine : c.place.chain ≡ chain = answer_chain catalogue size (first_member submission chain) run (accesses_of_chain chain order) x.0 front c rest x.3 are in
      record {
        run = run;
        called = rw mine (contains_head (Called chain run) (calls_of (chain + 1) runs));
        front = front;
        rest = rest;
        answers = by_equality c.place.chain chain (λ b. (if b then x.0 else answers_of (chain + 1) runs x.1 x.4 c.place.chain) ≡ front ++ c ∷ rest)
            (λ _. are) (λ other. absurd (other mine));
      })
      (λ tail. let rest : IsOfChain (chain + 1) runs x.1 x.4 c = of_chain (chain + 1) runs x.1 x.4 c tail in
      let low = call_low (chain + 1) runs c.place.chain rest.run rest.called in
      grind (arith, rest, contains_tail, by_equality))
      (Contains-append_cases x.0 x.1 c (rw x.2 at h))

-- the accesses of a chain in two parts of an order
of_parts : (id : ℕ) (front rest : List ChainAccess) → accesses_of_chain id (front ++ rest) ≡ accesses_of_chain id front ++ accesses_of_chain id rest
of_parts id front rest =
    ap (map access_of) (filter-append (λ (x : ChainAccess). x.chain == id) front rest)
    ∙ map-append access_of (filter (λ (x : ChainAccess). x.chain == id) front) (filter (λ (x : ChainAccess). x.chain == id) rest)

-- an access is one of its own chain's
at_own : (id : ℕ) (front : List Access) (x : ChainAccess) (rest : List Access) → id ≡ x.chain
    → (if x.chain == id then front ++ x.access ∷ [] else front) ++ rest ≡ (front ++ x.access ∷ []) ++ rest
at_own id front x rest same = grind (arith, by_equality)

got_front : {X : Type 0} (front rest : List X) (k : ℕ) (x : X) → k < length front → slice_index_or front k x ≡ x → slice_get (front ++ rest) k ≡ Some x
got_front [] rest k x low at = absurd (omega arith)
got_front (y ∷ front) rest zero x low at = ap Some at
got_front (y ∷ front) rest (suc k) x low at = got_front front rest k x (omega arith) at

pub got_next : {X : Type 0} (front : List X) (x : X) (rest : List X) → slice_get (front ++ x ∷ rest) (length front) ≡ Some x
got_next [] x rest = refl
got_next (y ∷ front) x rest = got_next front x rest

module _ (old : RingState) (requests : List Asked) (report : Reported) (order : List ChainAccess)
    (done : AreChainsDone old.catalogue old.size report.submission 1 (runs_of requests) order report.completions) where
  abbrev catalogue : List FileEntry
  catalogue = old.catalogue

  abbrev runs : List (List Asked)
  runs = runs_of requests

  abbrev setting : FlightSetting
  setting = record {
    old = old;
    first = first_member report.submission;
    answers = answers_of catalogue old.size report.submission order 1 runs report.completions done;
  }

  -- the calls
  called_all : (es : List Happening) (flight : List Moment) → ((e : Happening) → Contains es e → (id : ℕ) × (run : List Asked) × (e ≡ Called id run)
      × Contains (calls_of 1 runs) (Called id run)) → IsFlight setting flight → IsFlight setting (logging es flight)
  called_all [] flight each is = is
  called_all (e ∷ es) flight each is =
      let (id, run, same, there) = each e (contains_head e es) in
      let begun : MayFollow setting flight (Called id run) =
      (accesses_of_chain id order, chain_done catalogue old.size report.submission order 1 runs report.completions done id run there) in
      called_all es (Logged e ∷ flight) (λ d h. each d (contains_tail e es d h)) (is, rw same begun)

  only_calls : (chain : ℕ) (some : List (List Asked)) (e : Happening) → Contains (calls_of chain some) e → (id : ℕ) × (run : List Asked) × (e ≡ Called id run)
  only_calls chain [] e h = absurd (contains_none e h)
  only_calls chain (run ∷ some) e h =
      ⊎_elim (λ same. (chain, run, same)) (λ tail. only_calls (chain + 1) some e tail) (contains_cases (Called chain run) (calls_of (chain + 1) some) e h)

  -- the accesses, in their order
  made_all : (front xs : List ChainAccess) (flight : List Moment) → order ≡ front ++ xs
      → ((id : ℕ) → made_by id flight ≡ accesses_of_chain id front)
      → PermitsAll (table_left_by (table_of old) flight) (accesses_of xs)
      → ((x : ChainAccess) → Contains xs x → (1 ≤ x.chain) × (x.chain ≤ length runs))
      → ((e : Happening) → Contains (calls_of 1 runs) e → WasLogged flight e)
      → IsFlight setting flight → IsFlight setting (making xs flight)
  made_all front [] flight parts so permits inside there is = is
  made_all front (x ∷ xs) flight parts so permits inside there is =
      let id : ℕ = x.chain in
      let within = inside x (contains_head x xs) in
      let (run, call) = call_there catalogue old.size report.submission order 1 runs id within.0 (omega (arith, within.1)) in
      let whole : accesses_of_chain id order ≡ (made_by id flight ++ x.access ∷ []) ++ accesses_of_chain id xs =
      ap (accesses_of_chain id) parts ∙ (of_parts id front (x ∷ xs)
      ∙ (ap (λ l. l ++ accesses_of_chain id (x ∷ xs)) (sym (so id)) ∙ (one_more id x xs (made_by id flight) ∙ at_own id (made_by id flight) x (accesses_of_chain id xs) refl))) in
      let next : MayAccess setting flight id x.access =
      inl (
        run,
        there (Called id run) call,
        (
          accesses_of_chain id xs,
          subst (λ (l : List Access). IsChainDone catalogue old.size (first_member report.submission id) run l (setting.answers id)) whole
              (chain_done catalogue old.size report.submission order 1 runs report.completions done id run call),
        ),
      ) in
      made_all (front ++ x ∷ []) xs (Accesses x ∷ flight) (parts ∙ sym (append_assoc front (x ∷ []) xs))
      (λ k. sym (append-nil (made_by k (Accesses x ∷ flight))) ∙ (sym (one_more k x [] (made_by k flight)) ∙ (ap (λ l. l ++ accesses_of_chain k (x ∷ [])) (so k)
      ∙ sym (of_parts k front (x ∷ [])))))
      permits.1 (λ y h. inside y (contains_tail x xs y h))
      (λ e h. contains_tail (Accesses x) flight (Logged e) (there e h)) (is, (permits.0, next))

  -- the answers
  answered_all : (cs : List Completed) (flight : List Moment) → ((c : Completed) → Contains cs c → Contains report.completions c)
      → ((id : ℕ) → made_by id flight ≡ accesses_of_chain id order)
      → ((e : Happening) → Contains (calls_of 1 runs) e → WasLogged flight e)
      → IsFlight setting flight → IsFlight setting (logging (map answer_of_chain cs) flight)
  answered_all [] flight each so there is = is
  answered_all (c ∷ cs) flight each so there is =
      let id : ℕ = c.place.chain in
      let mine = of_chain catalogue old.size report.submission order 1 runs report.completions done c (each c (contains_head c cs)) in
      let whole = chain_done catalogue old.size report.submission order 1 runs report.completions done id mine.run mine.called in
      let part = part_done catalogue old.size (first_member report.submission id) mine.run (accesses_of_chain id order) _ mine.front c mine.rest whole
      mine.answers in
      let may : MayFollow setting flight (Answered id c) = grind (arith, id, mine, part) in
      answered_all cs (Logged (Answered id c) ∷ flight) (λ d h. each d (contains_tail c cs d h)) so
      (λ e h. contains_tail (Logged (Answered id c)) flight (Logged e) (there e h)) (is, may)

  -- the closes
  closed_all : (front files : List Identity) (flight : List Moment) → report.closes.files ≡ front ++ files
      → AreKnown old requests report.closes.files
      → ((f : Identity) → Contains report.closes.files f → Contains (taken_in flight) f)
      → ((f : Identity) → WasLogged flight (FileClosed f) → Contains front f)
      → ((id : ℕ) (f : Identity) → WasLogged flight (LookAnswered id (Some f)) → ⊥)
      → IsFlight setting flight → IsFlight setting (logging (map FileClosed files) flight)
  closed_all front [] flight parts known removed before free is = is
  closed_all front (f ∷ files) flight parts known removed before free is =
      let mine : Contains report.closes.files f = rw parts (Contains-append_right front (f ∷ files) f (contains_head f files)) in
      let once : WasLogged flight (FileClosed f) → ⊥ = λ h.
      let (k, low, at) = before f h in
      let first : slice_get report.closes.files k ≡ Some f = rw parts (got_front front (f ∷ files) k f low at) in
      let second : slice_get report.closes.files (length front) ≡ Some f = rw parts (got_next front f files) in
      let same : k ≡ length front = known.distinct k (length front) f f first second refl in
      omega arith in
      closed_all (front ++ f ∷ []) files (Logged (FileClosed f) ∷ flight) (parts ∙ sym (append_assoc front (f ∷ []) files)) known removed
      (λ g h. ⊎_elim (λ same. let own : g ≡ f = cc in Contains-append_right front (f ∷ []) g (0, omega arith, sym own))
      (λ tail. Contains-append_left front (f ∷ []) g (before g tail)) (contains_cases (Logged (FileClosed f)) flight (Logged (FileClosed g)) h))
      (λ id g h. ⊎_elim (λ same. absurd (cc)) (λ tail. free id g tail)
      (contains_cases (Logged (FileClosed f)) flight (Logged (LookAnswered id (Some g))) h))
      (is, record { removed = removed f mine; once = once; unheld = λ id h. absurd (free id f h) })

-- whatever order a submission follows
pub order_flies : (old : RingState) (requests : List Asked) (report : Reported) (new : RingState) → IsRing old → IsAccepted requests
    → IsOneOrder old requests report new → HasFlight (first_member report.submission) old (log_of_submission requests report)
order_flies old requests report new ring accepted one =
    let order : List ChainAccess = one.order in
    let s : FlightSetting = setting old requests report order one.is.done in
    let runs : List (List Asked) = runs_of requests in
    let calls : List Happening = calls_of 1 runs in
    let answers : List Happening = map answer_of_chain report.completions in
    let closes : List Happening = map FileClosed report.closes.files in
    let first : List Moment = logging calls [] in
    let second : List Moment = making order first in
    let third : List Moment = logging answers second in
    let fourth : List Moment = logging closes third in
    let known = each_closed_file_is_known old requests report new ring accepted one in
    let called : IsFlight s first = called_all old requests report order one.is.done calls []
    (λ e h. let (id, run, same) = only_calls old requests report order one.is.done 1 runs e h in (id, run, same, rw same at h)) tt in
    let there : (e : Happening) → Contains calls e → WasLogged first e = λ e h. is_logged calls [] e h in
    let made : IsFlight s second = made_all old requests report order one.is.done [] order first refl (λ id. made_by-logging id calls [])
    (subst (λ (t : Table). PermitsAll t (accesses_of order)) (sym (table-logging calls [] (table_of old))) one.is.permitted)
    (λ x h. All-contains (λ (y : ChainAccess). (1 ≤ y.chain) × (y.chain ≤ length (runs_of requests))) order x one.is.chains h) there called in
    let so : (id : ℕ) → made_by id second ≡ accesses_of_chain id order = λ id.
    made_by-making id order first ∙ ap (λ l. l ++ accesses_of_chain id order) (made_by-logging id calls []) in
    let answered : IsFlight s third = answered_all old requests report order one.is.done report.completions second (λ c h. h) so
    (λ e h. stays-making order first e (there e h)) made in
    let taken : (f : Identity) → Contains (files_removed_in (accesses_of order)) f → Contains (taken_in third) f = λ f h.
    subst (λ (l : List Identity). Contains l f) (sym (removed-logging answers second)) (removed-made order first f (inl h)) in
    let others : (e : Happening) → WasLogged third e → Contains answers e ⊎ Contains calls e = λ e h.
    ⊎_elim (λ a. inl a) (λ t. inr (⊎_elim (λ c. c) (λ n. absurd (contains_none (Logged e) n)) (from-logging calls [] e (from-making order first e t))))
    (from-logging answers second e h) in
    let no_close : (f : Identity) → WasLogged third (FileClosed f) → Contains [] f = λ f h.
    ⊎_elim (λ a. let got = contains_map answer_of_chain report.completions (FileClosed f) a in
    let apart : FileClosed f ≡ Answered got.0.place.chain got.0 = got.2 in absurd (cc))
    (λ t. let got = only_calls old requests report order one.is.done 1 runs (FileClosed f) t in
    let apart : FileClosed f ≡ Called got.0 got.1 = got.2 in absurd (cc)) (others (FileClosed f) h) in
    let no_look : (id : ℕ) (f : Identity) → WasLogged third (LookAnswered id (Some f)) → ⊥ = λ k f h.
    ⊎_elim (λ a. let got = contains_map answer_of_chain report.completions (LookAnswered k (Some f)) a in
    let apart : LookAnswered k (Some f) ≡ Answered got.0.place.chain got.0 = got.2 in absurd (cc))
    (λ t. let got = only_calls old requests report order one.is.done 1 runs (LookAnswered k (Some f)) t in
    let apart : LookAnswered k (Some f) ≡ Called got.0 got.1 = got.2 in absurd (cc))
    (others (LookAnswered k (Some f)) h) in
    let same_files = one.is.closed.same_files in
    let closed : IsFlight s fourth = closed_all old requests report order one.is.done [] report.closes.files third refl known
    (λ f h. taken f (Contains-permutation report.closes.files (files_removed_in (accesses_of order)) f
    (IsPermutation-sym (files_removed_in (accesses_of order)) report.closes.files same_files) h)) no_close no_look answered in
    let settled : (f : Identity) → Contains (taken_in fourth) f → WasLogged fourth (FileClosed f) = λ f h.
    let back : Contains (taken_in second) f =
    subst (λ (l : List Identity). Contains l f) (removed-logging closes third ∙ removed-logging answers second) h in
    ⊎_elim (λ own. is_logged closes third (FileClosed f) (contains_mapped FileClosed report.closes.files f
    (Contains-permutation (files_removed_in (accesses_of order)) report.closes.files f same_files own)))
    (λ n. absurd (contains_none f (subst (λ (l : List Identity). Contains l f) (none_removed calls) n))) (removed-making order first f back) in
    record {
      answers = s.answers;
      flight = Logged AllSettled ∷ fourth;
      is = (closed, settled);
      same = ap (λ l. l ++ AllSettled ∷ []) (log_of-logging closes third ∙ ap (λ l. l ++ closes) (log_of-logging answers second
          ∙ ap (λ l. l ++ answers) (log_of-making order first ∙ log_of-logging calls [])));
    }
