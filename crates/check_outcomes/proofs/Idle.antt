-- Idle chains, which have only reads left.
use Rattle.check_outcomes.proofs.Words.{◌≡◌, inl, inr, ◌&&◌, not, Bool, true, false, if◌then◌else◌, List, [], ◌∷◌, length, refl, sym, ◌∙◌, arith}
use Rattle.check_outcomes.proofs.Words.{Some, false≢true, Asked, Place, asked_of, Request, all_asked, ℕ, ◌⊎◌, ⊎_elim, nil_from_length, Option, All}
use Rattle.check_outcomes.proofs.Words.{All-nil, All-cons, All-append, FileEntry, Completed, Operation, Reads, ECANCELED, refusal, AllByRecursion}
use Rattle.check_outcomes.proofs.Words.{next_member, canceled, severs, IsRequestDone, IsChainDone, either_way, list_all, are_reads, has_none, is_read}
use Rattle.check_outcomes.proofs.Words.{Rest, said_by, asks_from, rest_for, is_state_idle, Claimed, PlayedSubmission, and_from, and_parts, eqb-true}
use Rattle.check_outcomes.proofs.Words.{ne_eqb, AreIdle, IsLeft, Access, Looks, Identity, rest_at, IsDoneAtTable, request_place, unless_refused, Look}
use Rattle.check_outcomes.proofs.Words.{single}

pub over_idle : (submission : PlayedSubmission) (rest : Rest) → rest.requests ≡ [] → is_state_idle submission rest ≡ true
over_idle submission rest none = rw none

-- nothing is left, or reads, and they aren't asked for
cases : (with_reports asks : Bool) {reads : Bool} → (if with_reports then false else (reads && not asks)) ≡ true → (with_reports ≡ false) × (reads ≡ true) × (asks ≡ false)
cases with_reports asks is = grind arith

idle_cases : (submission : PlayedSubmission) (rest : Rest) → is_state_idle submission rest ≡ true
    → (rest.requests ≡ []) ⊎ ((submission.with_reports ≡ false) × (are_reads rest.requests ≡ true) × (asks_from submission.asked rest.place ≡ false))
idle_cases submission rest is = grind (arith, nil_from_length, cases)

-- the place of a request that is left is asked from there
asked_left : {rest : Rest} {own : Place} → IsLeft rest own → asks_from (Some own) rest.place ≡ true
asked_left left = grind (arith, and_from)

pub are_idle : (claimed : Claimed) → AreIdle (said_by claimed) (is_state_idle claimed.submission.now)
are_idle claimed = grind (arith, over_idle, idle_cases, asked_left)

-- where the answers of reads are recorded, a chain that is idle is over
pub none_left : (submission : PlayedSubmission) (rest : Rest) → submission.with_reports ≡ true → is_state_idle submission rest ≡ true → rest.requests ≡ []
none_left submission rest with_reports is = ⊎_elim (λ none. none) (λ some. absurd (false≢true (sym some.0 ∙ with_reports))) (idle_cases submission rest is)

pub none_for : (rest : Rest) → has_none rest ≡ true → rest.requests ≡ []
none_for rest is = nil_from_length rest.requests (eqb-true _ 0 is)

-- the members are all reads
pub all_reads : (requests : List Request) → list_all (λ request. is_read (asked_of request).operation) requests ≡ are_reads (all_asked requests)
all_reads [] = refl
all_reads (request ∷ requests) = λ i. is_read (asked_of request).operation && all_reads requests i

-- where some are left, these decide it
pub idle_some : (submission : PlayedSubmission) (requests : List Asked) (place : Place) (made : ℕ) → (length requests ≡ 0 → ⊥) → submission.with_reports ≡ false
    → is_state_idle submission (rest_for place requests made) ≡ (are_reads requests && not (asks_from submission.asked place))
idle_some submission [] place made some silent = absurd (some refl)
idle_some submission (request ∷ requests) place made some silent = rw (ne_eqb (length (request ∷ requests)) 0 some, silent)

-- The rest of a chain, if it is nothing but reads, only looks at slots, and answers at its places.

abbrev pub IsLook : Access → Type 0
IsLook a = (slot : ℕ) × (found : Option Identity) × (a ≡ Looks slot found)

-- what holds of each completion of one of these requests
abbrev HoldsOf : (Completed → Type 0) → ℕ → Place → List Asked → Type 0
HoldsOf P made place requests = (c : Completed) → IsLeft (rest_at place requests made) c.place → P c

module _ (P : Completed → Type 0) (made : ℕ) (place : Place) (request : Asked) (requests : List Asked)
    (so : HoldsOf P made place (request ∷ requests)) where
  later : HoldsOf P made (next_member place) requests
  later c left = so c (record { submission = left.submission; chain = left.chain; behind = omega arith; within = omega arith })

  first : (c : Completed) → c.place ≡ place → P c
  first c is = so c (rw is (record { submission = refl; chain = refl; behind = omega arith; within = omega arith }))

canceled_so : (P : Completed → Type 0) {made : ℕ} (place : Place) (requests : List Asked) → HoldsOf P made place requests
    → AllByRecursion P (canceled place requests)
canceled_so P place [] so = tt
canceled_so P {made} place (request ∷ requests) so = (
  first P made place request requests so (refusal place ECANCELED) refl,
  canceled_so P (next_member place) requests (later P made place request requests so),
)

module _ (catalogue : List FileEntry) (size : ℕ) where
  looks : {place : Place} (own : List Access) (c : Completed) (operation : Operation) → is_read operation ≡ true
      → IsDoneAtTable catalogue place operation own c → All IsLook own
  looks own c (Reads slot off len) is (inr x) =
      single (Look slot) (All IsLook) own x.0.2 (λ a looked. All-cons IsLook a [] (slot, looked.0, looked.1) (All-nil IsLook))
  looks own c operation is (inl x) = rw x.1.0 (All-nil IsLook)
  looks own c operation isnt (inr x) = absurd (false≢true isnt)

  read_done : {place : Place} (own : List Access) (c : Completed) (operation : Operation) → is_read operation ≡ true
      → IsRequestDone catalogue size place operation own c → All IsLook own × (c.place ≡ place)
  read_done {place} own c operation is done = (
    unless_refused place (λ l _. All IsLook l) own c catalogue size operation (λ _. All-nil IsLook) (λ _. looks own c operation is) done,
    request_place catalogue place size operation own c done,
  )

  pub reads_done : (P : Completed → Type 0) {made : ℕ} (place : Place) (requests : List Asked) (accesses : List Access) (cs : List Completed)
      → HoldsOf P made place requests → are_reads requests ≡ true
      → IsChainDone catalogue size place requests accesses cs → All IsLook accesses × AllByRecursion P cs
  reads_done P place [] accesses cs so all x = (rw x.0 (All-nil IsLook), rw x.1 tt)
  reads_done P {made} place (request ∷ requests) accesses cs so all (own, others, c, rest, are, whole, done, on) =
      let both = and_parts _ _ all in
      let mine = read_done own c request.operation both.0 done in
      let behind = later P made place request requests so in
      let its : All IsLook others × AllByRecursion P rest = either_way (severs request c)
      (λ _ y. (rw y.0 (All-nil IsLook), rw y.1 (canceled_so P (next_member place) requests behind)))
      (λ _. reads_done P (next_member place) requests others rest behind both.1) on in
      (rw are (All-append IsLook own others mine.0 its.0), rw whole (first P made place request requests so c mine.1, its.1))
