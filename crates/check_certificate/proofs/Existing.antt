-- Each flight has times of all points.
use Rattle.check_certificate.proofs.Words.{◌≡◌, ◌⊎◌, ℕ, zero, ◌≤◌, List, [], ◌∷◌, ◌++◌, length, refl, sym, ap, ◌∙◌, arith, inl, inr, suc, ⊎_elim, Put}
use Rattle.check_certificate.proofs.Words.{append_assoc, length-append, Some, Moment, Logged, Accesses, IsOlderPart, Access, IsPut, IsLeftAt, Table}
use Rattle.check_certificate.proofs.Words.{IsEventTime, IsPutTime, IsGoneTime, AreTimes, Identity, Completed, IsFlight, FlightSetting, RingState, At}
use Rattle.check_certificate.proofs.Words.{table_of, table_left_by, log_of, Happening, MayFollow, Puts, Allocates, Looks, Clears, Takes, FindsFull}
use Rattle.check_certificate.proofs.Words.{cases_Bool, Point, Event, Gone, lasts, first_of_call, file_Decides, option_Decides, same_file, front_is}
use Rattle.check_certificate.proofs.Words.{false≢true}
use Rattle.check_certificate.proofs.Life.{IsPutAt, put_later}
use Rattle.check_certificate.proofs.Marks.{put_once}
use Rattle.check_certificate.proofs.Members.{access_times}
use Rattle.check_certificate.proofs.Parts.{before_end, one_more, same_or_not, part_cases, part_is_flight, part_length, whole}
use Rattle.std.specs.Option.{option_eq}

-- Positions of a list.

last_of : {X : Type 0} (xs : List X) → (xs ≡ []) ⊎ ((init : List X) × (z : X) × (xs ≡ init ++ z ∷ []))
last_of [] = inl refl
last_of (x ∷ xs) = ⊎_elim (λ none. inr ([], x, ap (λ l. x ∷ l) none)) (λ some. inr (x ∷ some.0, some.1, ap (λ l. x ∷ l) some.2)) (last_of xs)

parts_at : {X : Type 0} (xs : List X) (i : ℕ) → ((front : List X) × (x : X) × (rest : List X) × (xs ≡ front ++ x ∷ rest) × (length front ≡ i))
    ⊎ (length xs ≤ i)
parts_at [] i = inr (omega arith)
parts_at (x ∷ xs) zero = inl ([], x, xs, refl, refl)
parts_at (x ∷ xs) (suc i) = ⊎_elim (λ p. inl (x ∷ p.0, p.1, p.2, ap (λ l. x ∷ l) p.3, omega (arith, p.4))) (λ past. inr (omega arith)) (parts_at xs i)

-- an event of the log, in the flight
event_at : (flight : List Moment) (front : List Happening) (e : Happening) (rest : List Happening) → log_of flight ≡ front ++ e ∷ rest
    → (earlier : List Moment) × IsOlderPart (Logged e ∷ earlier) flight × (log_of earlier ≡ front)
event_at [] front e rest is = let long = ap length is in let more = length-append front (e ∷ rest) in absurd (omega arith)
event_at (Accesses x ∷ flight) front e rest is =
    let at = event_at flight front e rest is in (at.0, one_more (Accesses x) at.1, at.2)
event_at (Logged d ∷ flight) front e rest is =
    ⊎_elim
    (λ none. let last : (log_of flight ≡ front) × (d ≡ e) = lasts (log_of flight) front (is ∙ ap (λ l. front ++ e ∷ l) none) in
    (flight, ([], λ i. Logged (last.1 i) ∷ flight), last.0))
    (λ some. let all : log_of flight ++ d ∷ [] ≡ (front ++ e ∷ some.0) ++ some.1 ∷ [] =
    is ∙ (ap (λ l. front ++ e ∷ l) some.2 ∙ sym (append_assoc front (e ∷ some.0) (some.1 ∷ []))) in
    let last : (log_of flight ≡ front ++ e ∷ some.0) × (d ≡ some.1) = lasts (log_of flight) (front ++ e ∷ some.0) all in
    grind (arith, one_more, event_at flight front e some.0 last.0))
    (last_of rest)

-- whether an access installs a file
puts_file : (a : Access) (file : Identity) → ((slot : ℕ) × IsPut a slot file) ⊎ ((slot : ℕ) → IsPut a slot file → ⊥)
puts_file (Puts own f removed) file = ⊎_elim (λ same. inl (own, (refl, same))) (λ other. inr (λ slot is. other is.1)) (same_or_not f file)
puts_file (Allocates own f) file = ⊎_elim (λ same. inl (own, (refl, same))) (λ other. inr (λ slot is. other is.1)) (same_or_not f file)
puts_file (Looks own found) file = inr (λ slot is. is)
puts_file (Clears own removed) file = inr (λ slot is. is)
puts_file (Takes own removed) file = inr (λ slot is. is)
puts_file FindsFull file = inr (λ slot is. is)

-- whether a flight installs a file
is_put : (flight : List Moment) (file : Identity) → ((slot : ℕ) × (time : ℕ) × IsPutAt flight slot file time)
    ⊎ ((slot time : ℕ) → IsPutAt flight slot file time → ⊥)
is_put [] file = inr (λ slot time put. let low = before_end [] put.0 put.1 time put.3 in omega arith)
is_put (Logged e ∷ flight) file = ⊎_elim (λ put. inl (put.0, put.1, put_later (Logged e) flight put.0 file put.1 put.2))
    (λ none. inr (λ slot time put. ⊎_elim (λ same. let head : Accesses (record { chain = put.0; access = put.1 }) ≡ Logged e = cc in cc)
    (λ inside. none slot time (put.0, put.1, put.2, (put.3.0, inside, put.3.2)))
    (part_cases (Logged e) flight (Accesses (record { chain = put.0; access = put.1 }) ∷ put.3.0) put.3.1))) (is_put flight file)
is_put (Accesses x ∷ flight) file =
    ⊎_elim (λ here. inl (here.0, length flight, (x.chain, x.access, here.1, (flight, whole (Accesses x ∷ flight), refl))))
    (λ other. ⊎_elim (λ put. inl (put.0, put.1, put_later (Accesses x) flight put.0 file put.1 put.2))
    (λ none. inr (λ slot time put. ⊎_elim
    (λ same. let head : put.1 ≡ x.access = cc in let is : IsPut x.access slot file = rw head at put.2 in other slot is)
    (λ inside. none slot time (put.0, put.1, put.2, (put.3.0, inside, put.3.2)))
    (part_cases (Accesses x) flight (Accesses (record { chain = put.0; access = put.1 }) ∷ put.3.0) put.3.1)))
    (is_put flight file)) (puts_file x.access file)

-- the last time at which a file is at a slot
gone_time : (table : Table) (flight : List Moment) (file : Identity) (slot : ℕ) → (time : ℕ) × IsGoneTime table flight file slot time
gone_time table [] file slot = (0, record { last = λ part inside there. part_length [] part inside; there = inl refl })
gone_time table (m ∷ flight) file slot = elim (cases_Bool (option_eq same_file ((table_left_by table (m ∷ flight)).at slot) (Some file))) [
  | inl alike ↦ (
    length (m ∷ flight),
    record {
      last = λ part inside there. part_length (m ∷ flight) part inside;
      there = inr (
        m ∷ flight,
        whole (m ∷ flight),
        (option_Decides file_Decides ((table_left_by table (m ∷ flight)).at slot) (Some file)).0 alike,
        refl,
      );
    },
  )
  | inr differs ↦ let rest = gone_time table flight file slot in (
    rest.0,
    record {
      last = λ part inside there. ⊎_elim
          (λ same. let here : IsLeftAt table (m ∷ flight) slot file = rw same at there in
          absurd (false≢true (sym differs ∙ (option_Decides file_Decides ((table_left_by table (m ∷ flight)).at slot) (Some file)).1 here)))
          (λ older. rest.1.last part older there) (part_cases m flight part inside);
      there = ⊎_elim (λ never. inl never) (λ some. inr (some.0, one_more m some.1, some.2, some.3)) rest.1.there;
    },
  )
]

moved : (s : FlightSetting) (flight : List Moment) (front other : List Happening) (e d : Happening) (time : ℕ) (times : ℕ → ℕ) → front ≡ other → e ≡ d
    → IsEventTime s flight front e time times → IsEventTime s flight other d time times
moved s flight front other e d time times same so is = rw (same, so) at is

module _ (old : RingState) (answers : ℕ → List Completed) (flight : List Moment)
    (is : IsFlight (record { old = old; first = first_of_call; answers = answers }) flight) where
  abbrev s : FlightSetting
  s = record { old = old; first = first_of_call; answers = answers }

  put_time : (file : Identity) → (time : ℕ) × IsPutTime flight file time
  put_time file = ⊎_elim
      (λ put. (
        put.1,
        record {
          each = λ id slot at a is_one here. put_once old answers flight is file id slot at put.2.0 put.0 put.1 a put.2.1 is_one here put.2.2 put.2.3;
          some = inl (put.2.0, put.0, put.2.1, put.2.2, put.2.3);
        },
      ))
      (λ none. (
        length flight,
        record {
          each = λ id slot at a is_one here. absurd (none slot at (id, a, is_one, here));
          some = inr (omega arith);
        },
      ))
      (is_put flight file)

  abbrev IsTimeAt : ℕ → ℕ → (ℕ → ℕ) → Type 0
  IsTimeAt i time times = (front : List Happening) (e : Happening) (rest : List Happening) → log_of flight ≡ front ++ e ∷ rest
      → length front ≡ i → IsEventTime s flight front e time times

  event_time : (i : ℕ) → (time : ℕ) × (times : ℕ → ℕ) × IsTimeAt i time times
  event_time i = ⊎_elim
      (λ p. let at = event_at flight p.0 p.1 p.2 p.3 in
      let may : MayFollow s at.0 p.1 = (part_is_flight s flight (Logged p.1 ∷ at.0) at.1 is).1 in
      let times = access_times old answers at.0 p.1 may in
      let one : IsEventTime s flight p.0 p.1 (length at.0) times.0 =
      record { earlier = at.0; part = at.1; same = at.2; count = refl; accesses = times.1 } in (
        length at.0,
        times.0,
        λ front e rest so few.
            grind (arith, moved, front_is p.0 (p.1 ∷ p.2) (log_of flight) i p.3 p.4, front_is front (e ∷ rest) (log_of flight) i so few),
      ))
      (λ past. (0, (λ _. 0), λ front e rest so few. let long = ap length so in let more = length-append front (e ∷ rest) in absurd (omega arith)))
      (parts_at (log_of flight) i)

  time_of_point : Point → ℕ
  time_of_point (Event i) = (event_time i).0
  time_of_point (At i k) = (event_time i).1 k
  time_of_point (Put file) = (put_time file).0
  time_of_point (Gone file slot) = (gone_time (table_of old) flight file slot).0

  -- each flight has times of all points
  pub times_of_flight : (at : Point → ℕ) × AreTimes s flight at
  unfolding time_of_point event_time
  times_of_flight = (
    time_of_point,
    record {
      event = λ front e rest so. (event_time (length front)).2 front e rest so refl;
      put = λ file. (put_time file).1;
      gone = λ file slot. (gone_time (table_of old) flight file slot).1;
    },
  )
