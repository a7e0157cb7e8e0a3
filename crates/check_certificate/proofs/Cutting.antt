-- The answers of a chain: after a member that severs it, or that is canceled, each one is canceled,
-- and no other one is.
use Rattle.check_certificate.proofs.Words.{common_steps, ◌≡◌, ℕ, zero, suc, ◌+◌, ◌-◌, ◌<◌, List, [], ◌∷◌, arith, Some, slice_get, Access, Asked}
use Rattle.check_certificate.proofs.Words.{Place, Completed, FileEntry, IsChainDone, IsRequestDone, not, Bool, true, false, refusal, ECANCELED}
use Rattle.check_certificate.proofs.Words.{either_way, severs, next_member, canceled, Answered, Called, cases_Bool, by_equality, Happening, asked_by}
use Rattle.check_certificate.proofs.Words.{is_next, is_cut_wrongly, IsEventAt, IsForced, LogBeginning, Event, Errno, table_may_answer, is_error}
use Rattle.check_certificate.proofs.Words.{may_answer, Operation, refusal_of, Decides-and, Decides-ltb, ◌||◌, if◌then◌else◌, first_of_call}
use Rattle.check_certificate.proofs.Called.{answer_is}
use Rattle.check_certificate.proofs.Forcing.{strict_from}
use Rattle.check_certificate.proofs.Impossible.{error_Decides, or_left, or_right}
use Rattle.check_certificate.proofs.Orders.{here, may_at, ring}

-- no request is refused as canceled
refused_so : (catalogue : List FileEntry) (size : ℕ) (operation : Operation) → refusal_of catalogue size operation ≡ Some ECANCELED → ⊥
refused_so catalogue size operation so = grind (arith, cases_Bool)

-- nor answers so at the table
answers_so : (operation : Operation) (place : Place) → may_answer operation (refusal place ECANCELED) ≡ true → ⊥
answers_so operation place so = grind (arith, cases_Bool)

errno_of : (place : Place) (errno : Errno) → is_error (refusal place errno) ECANCELED ≡ true → errno ≡ ECANCELED
errno_of place errno so = grind (arith, cases_Bool)

canceled_get : (place : Place) (requests : List Asked) (n : ℕ) (c : Completed) → slice_get (canceled place requests) n ≡ Some c → is_error c ECANCELED ≡ true
canceled_get place [] n c is = absurd (cc)
canceled_get place (r ∷ rs) zero c is = grind arith
canceled_get place (r ∷ rs) (suc n) c is = canceled_get (next_member place) rs n c is

cut_so : (a e f : Bool) → (a || e) ≡ true → f ≡ true → (if a || e then not f else f) ≡ true → ⊥
cut_so a e f one is wrong = grind arith

never_true : (b : Bool) → (b ≡ true → ⊥) → b ≡ false
never_true b is = grind arith

uncut_so : (a e f : Bool) → a ≡ false → e ≡ false → f ≡ false → (if a || e then not f else f) ≡ true → ⊥
uncut_so a e f p q r wrong = grind arith

module _ (catalogue : List FileEntry) (size : ℕ) where
  -- a request that isn't canceled has another answer
  not_so : (place : Place) (operation : Operation) (accesses : List Access) (c : Completed) → IsRequestDone catalogue size place operation accesses c
      → is_error c ECANCELED ≡ true → ⊥
  not_so place operation accesses c done so = grind (arith, error_Decides, answers_so, table_may_answer, errno_of, refused_so)

  -- the answers of two members that follow each other
  answers_agree : (place : Place) (requests : List Asked) (accesses : List Access) (cs : List Completed) → IsChainDone catalogue size place requests accesses cs
      → (n : ℕ) (r s : Asked) (c d : Completed) → slice_get requests n ≡ Some r → slice_get requests (suc n) ≡ Some s → slice_get cs n ≡ Some c
      → slice_get cs (suc n) ≡ Some d → is_cut_wrongly r c d ≡ true → ⊥
  answers_agree place [] accesses cs x n r s c d asked next own after wrong = absurd (cc)
  answers_agree place (q ∷ []) accesses cs x zero r s c d asked next own after wrong = absurd (cc)
  answers_agree place (q ∷ p ∷ requests) accesses cs x zero r s c d asked next own after wrong = grind (arith, common_steps, either_way, cut_so, or_left, canceled_get, next_member, uncut_so, never_true, not_so)
  answers_agree place (q ∷ requests) accesses cs x (suc n) r s c d asked next own after wrong =
      let one : slice_get x.3 n ≡ Some c = rw x.5 at own in
      let two : slice_get x.3 (suc n) ≡ Some d = rw x.5 at after in
      either_way {R = ⊥} (severs q x.2)
      (grind (arith, or_right, canceled_get, cut_so (severs r c) (is_error c ECANCELED) (is_error d ECANCELED), next_member place))
      (λ goes y. answers_agree (next_member place) requests x.1 x.3 y n r s c d asked next one two wrong) x.7

pub cut_forced : (b : LogBeginning) (call id first answer : ℕ) (requests : List Asked) (r s : Asked) (c d : Completed) → IsEventAt b call (Called id requests)
    → IsEventAt b first (Answered id c) → IsEventAt b answer (Answered id d) → slice_get requests (c.place.member - 1) ≡ Some r
    → slice_get requests (d.place.member - 1) ≡ Some s → 0 < c.place.member → d.place.member ≡ c.place.member + 1 → is_cut_wrongly r c d ≡ true
    → IsForced b (strict_from (Event answer) (Event answer))
cut_forced b call id first answer requests r s c d called one two asked next low after wrong f =
    let begun = may_at f (here f called) in
    let number : suc (c.place.member - 1) ≡ d.place.member - 1 = omega arith in
    absurd (answers_agree (ring f).catalogue (ring f).size (first_of_call id) requests begun.0 (f.legal.answers id) begun.1 (c.place.member - 1) r s c d asked
    (rw number next) (answer_is f first id c one) (rw number (answer_is f answer id d two)) wrong)

-- the call of an answer, and the request that it answers
pub asked_so : (e : Happening) (c : Completed) (r : Asked) → Some r ≡ asked_by e c
    → (requests : List Asked) × (e ≡ Called c.place.submission requests) × (slice_get requests (c.place.member - 1) ≡ Some r)
asked_so e c r is = grind (arith, by_equality)

-- the answers of a call contradict each other
pub cut_said : (b : LogBeginning) (call first answer : ℕ) (e : Happening) (r s : Asked) (c d : Completed) → IsEventAt b call e
    → IsEventAt b first (Answered c.place.submission c) → IsEventAt b answer (Answered d.place.submission d) → Some r ≡ asked_by e c → Some s ≡ asked_by e d
    → is_next c d ≡ true → is_cut_wrongly r c d ≡ true → IsForced b (strict_from (Event answer) (Event answer))
cut_said b call first answer e r s c d called one two asks asked next wrong = grind (arith, asked_so, Decides-and, Decides-ltb, cut_forced)
