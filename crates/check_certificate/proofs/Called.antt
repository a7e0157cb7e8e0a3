-- The calls of a log that make the accesses of a flight, and the answers of their members.
use Rattle.check_certificate.proofs.Words.{◌≡◌, ℕ, ◌+◌, ◌-◌, ◌<◌, List, [], ◌∷◌, ◌++◌, length, refl, sym, arith, ⊎_elim, append_assoc, Option, Some}
use Rattle.check_certificate.proofs.Words.{slice_get, Moment, Logged, Accesses, IsOlderPart, Access, IsAccessAt, Identity, Happening, Completed, take}
use Rattle.check_certificate.proofs.Words.{Contains-append_right, IsBegun, MayAccess, contains_tail, WasLogged, Called, Answered, made_by, Asked}
use Rattle.check_certificate.proofs.Words.{Contains, Looks, IsEventAt, slot_count, TimedFlight, LogBeginning, answer_place, in_log, first_of_call}
use Rattle.check_certificate.proofs.Words.{slice_get_read}
use Rattle.check_certificate.proofs.Intended.{IsIntended, intended}
use Rattle.check_certificate.proofs.Orders.{IsHere, flies, here, may_at, older, ring, s}
use Rattle.check_certificate.proofs.Parts.{get_front, part_of_part}
use Rattle.fx_flight.proofs.Submission.{got_next}

module _ {b : LogBeginning} (f : TimedFlight b) where
  -- the call of an access before an event, in the log
  pub record IsOfLog (limit id : ℕ) (a : Access) (number : ℕ) : Type 0 where
    pub p : ℕ
    pub requests : List Asked
    pub low : p < limit
    pub called : IsEventAt b p (Called id requests)
    pub by : IsIntended b.catalogue.now (slot_count b) (first_of_call id) requests a (f.legal.answers id) number

  pub of_log : {i : ℕ} {e : Happening} (x : IsHere f i e) (time id : ℕ) (a : Access)
      → ((looked : ℕ) (found : Option Identity) → a ≡ Looks looked found → ⊥) → (at : IsAccessAt x.earlier id a time)
      → IsOfLog i id a (length (made_by id at.0))
  of_log {i} {e} x time id a looks at =
      let m : Moment = Accesses (record { chain = id; access = a }) in
      let inside : IsOlderPart (m ∷ at.0) f.legal.flight = part_of_part (older f x.inside) at.1 in
      let may : MayAccess (s f) at.0 id a = (flies f inside).1.1 in
      ⊎_elim
      (λ (y : (requests : List Asked) × WasLogged at.0 (Called id requests) × IsBegun (s f) id requests (made_by id at.0 ++ a ∷ [])).
      let there : WasLogged x.earlier (Called id y.0) = later at.1.0 m at.0 x.earlier at.1.1 (Called id y.0) y.1 in
      let front : Contains x.front (Called id y.0) = rw x.same at (in_log x.earlier (Called id y.0) there) in
      let got : slice_get x.front front.0 ≡ Some (Called id y.0) = slice_get_read x.front (length x.front) front.0 (Called id y.0) refl front.1 (sym front.2) in
      let few = x.few in let low = front.1 in
      let list : (made_by id at.0 ++ a ∷ []) ++ y.2.0 ≡ made_by id at.0 ++ a ∷ y.2.0 = append_assoc (made_by id at.0) (a ∷ []) y.2.0 in
      record {
        p = front.0;
        requests = y.0;
        low = omega arith;
        called = rw x.parts (get_front x.front (e ∷ x.rest) front.0 (Called id y.0) got);
        by = intended b.catalogue.now (slot_count b) (first_of_call id) y.0 (made_by id at.0) a y.2.0 (f.legal.answers id) (rw list at y.2.1);
      })
      (λ y. absurd (looks y.0 y.1 y.4)) may
    where
      later : (more : List Moment) (m : Moment) (part whole : List Moment) → whole ≡ more ++ m ∷ part → (e : Happening) → WasLogged part e → WasLogged whole e
      later more m part whole is e there = rw is (Contains-append_right more (m ∷ part) (Logged e) (contains_tail m part (Logged e) there))

  -- the answer of a member is that of its call in the flight
  pub answer_is : (at id : ℕ) (c : Completed) → IsEventAt b at (Answered id c) → slice_get (f.legal.answers id) (c.place.member - 1) ≡ Some c
  answer_is at id c answered =
      let may = may_at f (here f answered) in
      let member = may.2 in
      let place = answer_place (ring f).catalogue (ring f).size (first_of_call id) (take (length member.earlier + 1) may.0) member.own
      (member.earlier ++ c ∷ []) member.earlier c [] member.done refl in
      let got : slice_get (f.legal.answers id) (length member.earlier) ≡ Some c = rw member.answer (got_next member.earlier c member.later) in
      grind arith
