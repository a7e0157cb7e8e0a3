-- The rules of certificates: what each flight's times are like.
use Rattle.check_certificate.proofs.Words.{◌≡◌, ℕ, zero, ◌<◌, List, [], ◌∷◌, ◌++◌, length, refl, sym, ap, ◌∙◌, arith, suc, Some, None, Option, ⊎_elim}
use Rattle.check_certificate.proofs.Words.{length-append, Contains, contains_head, Contains-append_right, cases_lt, slice_get, Moment, Logged, Access}
use Rattle.check_certificate.proofs.Words.{IsOlderPart, IsAccessAt, AreAccessTimes, IsEventTime, Identity, FlightSetting, IsFlight, Table, table_of}
use Rattle.check_certificate.proofs.Words.{log_of, made_by, Happening, MayFollow, MayAccess, WasLogged, Answered, Called, LookAnswered, LookCalled}
use Rattle.check_certificate.proofs.Words.{Permits, table_left_by, Asked, ◌-◌, IsOfCall, TimedFlight, is_of_no_call, is_registered, log_of_beginning}
use Rattle.check_certificate.proofs.Words.{ring_of_beginning, IsEventAt, IsAccessMade, IsEvident, IsShownBy, slot_count, IsMemberDoneBy, LogBeginning}
use Rattle.check_certificate.proofs.Words.{Event, At, Evidence, in_log, log_of-parts, first_of_call, IsCallOf, true, slice_index_or, list_all}
use Rattle.check_certificate.proofs.Parts.{access_of_part, before_end, part_is_flight, part_of_part, shorter}
use Rattle.fx_flight.proofs.Numbers.{new_number, one_call}
use Rattle.fx_ring.specs.Ring.{RingState}
use Rattle.std.proofs.lemmas.Bool.{and_parts}

-- the parts of a list around one of its positions
get_parts : {X : Type 0} (xs : List X) (i : ℕ) (x : X) → slice_get xs i ≡ Some x
    → (front : List X) × (rest : List X) × (xs ≡ front ++ x ∷ rest) × (length front ≡ i)
get_parts [] i x is = absurd (cc)
get_parts (y ∷ xs) zero x is = let same : y ≡ x = cc in ([], xs, ap (λ z. z ∷ xs) same, refl)
get_parts (y ∷ xs) (suc i) x is = let p = get_parts xs i x is in (y ∷ p.0, p.1, ap (λ l. y ∷ l) p.2, omega (arith, p.3))

each_of_no_call : (files : List (Option Identity)) (k : ℕ) → list_all is_of_no_call files ≡ true → is_of_no_call (slice_index_or files k None) ≡ true
each_of_no_call [] zero all = refl
each_of_no_call [] (suc k) all = refl
each_of_no_call (file ∷ files) zero all = (and_parts (is_of_no_call file) (list_all is_of_no_call files) all).0
each_of_no_call (file ∷ files) (suc k) all = each_of_no_call files k (and_parts (is_of_no_call file) (list_all is_of_no_call files) all).1

module _ {b : LogBeginning} (f : TimedFlight b) where
  abbrev pub ring : RingState
  ring = ring_of_beginning b f.submissions f.registrations

  abbrev pub s : FlightSetting
  s = record { old = ring; first = first_of_call; answers = f.legal.answers }

  abbrev pub log : List Happening
  log = log_of_beginning b

  abbrev pub table : Table
  table = table_of ring

  -- an event, in the flight
  pub record IsHere (i : ℕ) (e : Happening) : Type 0 where
    pub front : List Happening
    pub rest : List Happening
    pub parts : log ≡ front ++ e ∷ rest
    pub few : length front ≡ i
    pub earlier : List Moment
    pub inside : IsOlderPart (Logged e ∷ earlier) f.legal.flight
    pub same : log_of earlier ≡ front
    pub count : length earlier ≡ f.at (Event i)
    pub accesses : AreAccessTimes s earlier e (λ k. f.at (At i k))

  pub older : {m : Moment} {earlier : List Moment} → IsOlderPart (m ∷ earlier) f.legal.flight → IsOlderPart earlier f.legal.flight
  older {m} inside = part_of_part inside (m ∷ [], refl)

  -- each part of it is a flight
  pub flies : {part : List Moment} → IsOlderPart part f.legal.flight → IsFlight s part
  flies {part} inside = part_is_flight s f.legal.flight part inside f.legal.is

  pub new_file : (file : Identity) → (id : ℕ) → IsOfCall id file → (slot : ℕ) → table.at slot ≡ Some file → ⊥
  new_file file id of slot there = grind (arith, is_registered, each_of_no_call b.slots.now.at.items slot f.sound.marks, of.3)

  pub here : {i : ℕ} {e : Happening} → IsEventAt b i e → IsHere i e
  here {i} {e} is =
      let p = get_parts log i e is in
      let time : IsEventTime s f.legal.flight p.0 e (f.at (Event i)) (λ k. f.at (At i k)) =
      rw p.3 at (f.times.event p.0 e p.1 (f.legal.same ∙ p.2)) in grind arith

  pub may_at : {i : ℕ} {e : Happening} (h : IsHere i e) → MayFollow s h.earlier e
  may_at h = (flies h.inside).1

  -- events are in the log's order
  pub event_order : {i j : ℕ} {e d : Happening} → IsEventAt b i e → IsEventAt b j d → i < j → f.at (Event i) < f.at (Event j)
  event_order is so lt =
      let x = here is in
      let y = here so in
      let few_x = x.few in let few_y = y.few in let count_x = x.count in let count_y = y.count in
      ⊎_elim (λ low. omega arith)
      (λ high. let more = shorter x.earlier y.earlier (older x.inside) (older y.inside) high in
      let long = ap length (sym x.same ∙ (ap log_of more.1 ∙ log_of-parts more.0 y.earlier)) in
      let sum = length-append (log_of y.earlier) (log_of more.0) in
      let same = ap length y.same in
      absurd (omega arith)) (cases_lt (length x.earlier) (length y.earlier))

  -- a call comes before its accesses
  pub call_before : {i id time : ℕ} {e : Happening} {a : Access} → IsEventAt b i e → IsCallOf id e → IsAccessAt f.legal.flight id a time
      → f.at (Event i) < time
  call_before {i} {id} {time} {e} {a} is call access =
      let x = here is in
      let may : MayAccess s access.0 id a = (flies access.1).1.1 in
      let own : (d : Happening) × IsCallOf id d × WasLogged access.0 d =
      ⊎_elim (λ y. (Called id y.0, refl, y.1)) (λ y. (LookCalled id y.0, refl, y.2)) may in
      let count = x.count in let time_is = access.2 in
      ⊎_elim (λ low. omega arith)
      (λ high. let more = shorter x.earlier access.0 (older x.inside) (older access.1) high in
      let inside : Contains x.front own.0 = rw x.same at (in_log x.earlier own.0 (rw more.1 (Contains-append_right more.0 access.0 (Logged own.0) own.2))) in
      absurd (new_number id 0 [] x.front x.rest e own.0 (rw x.parts at f.sound.faultless) inside own.1 call))
      (cases_lt (length x.earlier) (length access.0))

  -- the event answers the first member of a call
  abbrev pub IsFirst : Happening → Type 0
  IsFirst (Answered id c) = c.place.member ≡ 1
  IsFirst event = ⊥

  -- a member makes the access, by the call and the answer
  abbrev pub IsOfMember : Happening → Happening → ℕ → Access → Type 0
  IsOfMember (Called id requests) (Answered other c) k a =
      (request : Asked) × (slice_get requests (c.place.member - 1) ≡ Some request) × (accesses : List Access)
      × IsMemberDoneBy b.catalogue.now (slot_count b) c request accesses × (slice_get accesses k ≡ Some a)
  IsOfMember begins ends k a = Unit {0}

  -- an access of which an answer says something
  pub record IsSaid (call answer k : ℕ) (evidence : Evidence) : Type 0 where
    pub id : ℕ
    pub begins : Happening
    pub called : IsEventAt b call begins
    pub own : IsCallOf id begins
    pub access : Access
    pub time : IsAccessAt f.legal.flight id access (f.at (At answer k))
    pub before : f.at (At answer k) < f.at (Event answer)
    pub is : IsEvident access evidence
    pub ends : Happening
    pub answered : IsEventAt b answer ends
    pub first : IsFirst ends → length (made_by id time.0) ≡ k
    pub one : IsOfMember begins ends k access

  contained : (i : ℕ) (e : Happening) → IsEventAt b i e → Contains log e
  contained i e is = let p = get_parts log i e is in rw p.2 (Contains-append_right p.0 (e ∷ p.1) e (contains_head e p.1))

  -- a call in the flight is that of the log
  same_call : (i id : ℕ) (e d : Happening) (part : List Moment) → IsEventAt b i e → IsCallOf id e → IsOlderPart part f.legal.flight
      → WasLogged part d → IsCallOf id d → d ≡ e
  same_call i id e d part is call inside there call_d = one_call id 0 [] log d e f.sound.faultless
      (rw f.legal.same at (in_log f.legal.flight d (rw inside.1 (Contains-append_right inside.0 part (Logged d) there)))) (contained i e is) call_d call

  said_by : (call answer k : ℕ) (evidence : Evidence) (begins ends : Happening) → IsEventAt b call begins → IsEventAt b answer ends → (h : IsHere answer ends)
      → IsShownBy b begins ends k evidence → IsSaid call answer k evidence
  said_by call answer k evidence (Called id requests) (Answered other c) is at h shows =
      let member = h.accesses in
      let same : Called other member.requests ≡ Called id requests =
      same_call call id (Called id requests) (Called other member.requests) h.earlier is refl (older h.inside)
      member.called shows.0 in
      let list : member.requests ≡ requests = cc in
      let one = shows.1 member.request (rw list at member.asked) member.accesses member.done in
      let time = member.made k one.0 one.1 in
      let before = before_end h.earlier other one.0 (f.at (At answer k)) time in
      let count = h.count in
      record {
        id = other;
        begins = Called id requests;
        called = is;
        own = sym shows.0;
        access = one.0;
        time = (time.0, part_of_part (older h.inside) time.1, time.2);
        before = omega arith;
        is = one.2;
        ends = Answered other c;
        answered = at;
        first = λ first. member.first first k one.0 one.1;
        one = (member.request, rw list at member.asked, member.accesses, member.done, one.1);
      }
  said_by call answer k evidence (LookCalled id slot) (LookAnswered other found) is at h shows =
      let look = h.accesses in
      let same : LookCalled other look.slot ≡ LookCalled id slot =
      grind (arith, older, same_call call id (LookCalled id slot) (LookCalled other look.slot) h.earlier is refl (older h.inside)) in
      let own : look.slot ≡ slot = cc in
      let one = shows.1 look.accesses (rw own at look.done) in
      let time = look.made k one.0 one.1 in
      grind (arith, older, before_end h.earlier other one.0 (f.at (At answer k)) time, shows.0, access_of_part other one.0 (f.at (At answer k)) (older h.inside) time, one.2)
  said_by call answer k evidence begins ends is at h shows = absurd shows

  pub said : {call answer k : ℕ} {evidence : Evidence} → IsAccessMade b call answer k evidence → IsSaid call answer k evidence
  said {call} {answer} {k} {evidence} made =
      said_by call answer k evidence made.begins made.ends made.called made.answered (here made.answered) (made.shows f.sound.catalogue)

  -- the table permits the access
  pub said_may : {call answer k : ℕ} {evidence : Evidence} (x : IsSaid call answer k evidence) → Permits (table_left_by table x.time.0) x.access
  said_may x = (flies x.time.1).1.0
