-- Beginnings of flights, and the events in them.
use Rattle.fx_flight.proofs.{◌≡◌, ◌≤◌, List, [], ◌∷◌, ◌++◌, length, refl, sym, ap, ◌∙◌, arith, suc, ⊎_elim, append-nil, append_assoc, ℕ}
use Rattle.fx_flight.proofs.{length-append, Contains, contains_cases, contains_none, contains_tail, Contains-append_cases, Identity, RingState, Place}
use Rattle.fx_flight.proofs.{Happening, FileClosed, Moment, Logged, Accesses, FlightSetting, WasLogged, log_of, taken_in, IsFlight, MayFollow}
use Rattle.fx_flight.proofs.{HasFlight, IsLegalLog, first_of_call}
use Rattle.fx_flight.specs.Whole.{IsLegalByWholeUpdates, IsWhole}

-- a list in two ways as two parts, the second part of the longer one not empty
mid_of : {X : Type 0} (front rest xs ys : List X) → xs ++ ys ≡ front ++ rest → length front ≤ length xs
    → (mid : List X) × (xs ≡ front ++ mid)
mid_of [] rest xs ys is few = (xs, refl)
mid_of (x ∷ front) rest [] ys is few = absurd (omega arith)
mid_of (x ∷ front) rest (y ∷ xs) ys is few =
    let head : y ≡ x = cc in
    let tail : xs ++ ys ≡ front ++ rest = cc in
    let (mid, same) = mid_of front rest xs ys tail (omega arith) in
    (mid, λ i. head i ∷ same i)

-- two lists with a last element
pub lasts : {X : Type 0} (xs ys : List X) {x y : X} → xs ++ x ∷ [] ≡ ys ++ y ∷ [] → (xs ≡ ys) × (x ≡ y)
lasts [] [] is = (refl, cc)
lasts [] (b ∷ ys) {x} {y} is = let long = ap length is ∙ ap suc (length-append ys (y ∷ [])) in absurd (omega arith)
lasts (a ∷ xs) [] {x} {y} is = let long = sym (ap length is) ∙ ap suc (length-append xs (x ∷ [])) in absurd (omega arith)
lasts (a ∷ xs) (b ∷ ys) {x} {y} is =
    let head : a ≡ b = cc in
    let tail : xs ++ x ∷ [] ≡ ys ++ y ∷ [] = cc in
    let same : (xs ≡ ys) × (x ≡ y) = lasts xs ys tail in
    ((λ i. head i ∷ same.0 i), same.1)

-- the flight of the beginning of a log: what each beginning of a flight keeps holds of it
cut : (P : List Moment → Type 0) → ((m : Moment) (flight : List Moment) → P (m ∷ flight) → P flight) → (flight : List Moment)
    (front rest : List Happening) → P flight → log_of flight ≡ front ++ rest
    → (part : List Moment) × P part × (log_of part ≡ front)
cut P before [] [] rest is same = ([], is, refl)
cut P before [] (e ∷ front) rest is same = absurd (cc)
cut P before (Accesses x ∷ flight) front rest is same = cut P before flight front rest (before (Accesses x) flight is) same
cut P before (Logged e ∷ flight) front [] is same = (Logged e ∷ flight, is, same ∙ append-nil front)
cut P before (Logged e ∷ flight) front (r ∷ rest) is same =
    let long = sym (length-append (log_of flight) (e ∷ [])) ∙ (ap length same ∙ length-append front (r ∷ rest)) in
    let (mid, part) = mid_of front (r ∷ rest) (log_of flight) (e ∷ []) same (omega arith) in
    cut P before flight front mid (before (Logged e) flight is) part

pub beginning : (first : ℕ → Place) (old : RingState) (front rest : List Happening) → HasFlight first old (front ++ rest) → HasFlight first old front
beginning first old front rest h =
    let s : FlightSetting = record { old = old; first = first; answers = h.answers } in
    let (part, is, same) = cut (IsFlight s) (λ m flight is. is.0) h.flight front rest h.is h.same in
    record { answers = h.answers; flight = part; is = is; same = same }

pub whole_beginning : (old : RingState) (front rest : List Happening) → IsLegalByWholeUpdates old (front ++ rest) → IsLegalByWholeUpdates old front
whole_beginning old front rest (h, whole) =
    let s : FlightSetting = record { old = old; first = first_of_call; answers = h.answers } in
    let (part, (is, parted), same) = cut (λ flight. IsFlight s flight × IsWhole s flight) (λ m flight both. (both.0.0, both.1.0)) h.flight front rest
    (h.is, whole refl) h.same in
    (record { answers = h.answers; flight = part; is = is; same = same }, λ _. parted)

-- an event of a log is in its flight
pub logged : (flight : List Moment) (e : Happening) → Contains (log_of flight) e → WasLogged flight e
logged [] e h = absurd (contains_none e h)
logged (Accesses x ∷ flight) e h = contains_tail (Accesses x) flight (Logged e) (logged flight e h)
logged (Logged d ∷ flight) e h =
    ⊎_elim (λ l. contains_tail (Logged d) flight (Logged e) (logged flight e l))
    (λ r. ⊎_elim (λ same. (0, omega arith, ap Logged (sym same))) (λ t. absurd (contains_none e t)) (contains_cases d [] e r))
    (Contains-append_cases (log_of flight) (d ∷ []) e h)

-- the flight before the last event of a log
pub before_last : (s : FlightSetting) (flight : List Moment) (front : List Happening) (e : Happening) → IsFlight s flight
    → log_of flight ≡ front ++ e ∷ []
    → (earlier : List Moment) × IsFlight s earlier × (log_of earlier ≡ front) × MayFollow s earlier e
before_last s [] front e is same = let long = ap length same ∙ length-append front (e ∷ []) in absurd (omega arith)
before_last s (Accesses x ∷ flight) front e is same = before_last s flight front e is.0 same
before_last s (Logged d ∷ flight) front e is same =
    let last : (log_of flight ≡ front) × (d ≡ e) = lasts (log_of flight) front same in
    (flight, is.0, last.0, rw last.1 at is.1)

pub closes_once : (old : RingState) (front rest : List Happening) (file : Identity) → IsLegalLog old (front ++ FileClosed file ∷ rest)
    → Contains front (FileClosed file) → ⊥
closes_once old front rest file legal again =
    let e : Happening = FileClosed file in
    let h : HasFlight first_of_call old (front ++ e ∷ []) = beginning first_of_call old (front ++ e ∷ []) rest (rw (append_assoc front (e ∷ []) rest) legal) in
    grind (arith, e, h, before_last, logged)

-- the earlier part of a flight
pub earlier_part : (s : FlightSetting) (later earlier : List Moment) → IsFlight s (later ++ earlier) → IsFlight s earlier
earlier_part s [] earlier is = is
earlier_part s (m ∷ later) earlier is = earlier_part s later earlier is.0

pub closed_was_removed : (s : FlightSetting) (earlier later : List Moment) (file : Identity) → IsFlight s (later ++ Logged (FileClosed file) ∷ earlier)
    → Contains (taken_in earlier) file
closed_was_removed s earlier later file is = (earlier_part s later _ is).1.removed
