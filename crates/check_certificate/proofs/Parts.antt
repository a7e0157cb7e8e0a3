-- Parts of a flight: its oldest moments.
use Rattle.check_certificate.proofs.Words.{◌≡◌, ◌⊎◌, ◌<◌, ◌≤◌, List, [], ◌∷◌, ◌++◌, refl, sym, ap, ◌∙◌, inl, inr, Some, Puts, zero, suc}
use Rattle.check_certificate.proofs.Words.{ℕ, append_assoc, length-append, IsOlderPart, IsAccessAt, FlightSetting, Allocates, file_Decides}
use Rattle.check_certificate.proofs.Words.{length, arith, Moment, Access, Accesses, IsFlight, Option, Identity, IsPut, slice_get, same_file}

pub whole : (flight : List Moment) → IsOlderPart flight flight
whole flight = ([], refl)

pub part_of_part : {flight mid part : List Moment} → IsOlderPart mid flight → IsOlderPart part mid → IsOlderPart part flight
part_of_part {part} (later, outer) (more, inner) = (later ++ more, outer ∙ (ap (λ l. later ++ l) inner ∙ sym (append_assoc later more part)))

pub one_more : (m : Moment) {flight part : List Moment} → IsOlderPart part flight → IsOlderPart part (m ∷ flight)
one_more m (later, is) = (m ∷ later, ap (λ l. m ∷ l) is)

pub part_length : (flight part : List Moment) → IsOlderPart part flight → length part ≤ length flight
part_length flight part (later, is) = omega (arith, ap length is, length-append later part)

-- a part of a flight with one more moment is the whole or a part of the flight
pub part_cases : (m : Moment) (flight part : List Moment) → IsOlderPart part (m ∷ flight) → (part ≡ m ∷ flight) ⊎ IsOlderPart part flight
part_cases m flight part ([], is) = inl (sym is)
part_cases m flight part (n ∷ later, is) = let tail : flight ≡ later ++ part = cc in inr (later, tail)

suffix : {X : Type 0} (a p b q : List X) → a ++ p ≡ b ++ q → length q ≤ length p → (k : List X) × (p ≡ k ++ q)
suffix [] p b q is few = (b, is)
suffix (x ∷ a) p [] q is few = let long = ap length is in let more = length-append (x ∷ a) p in absurd (omega arith)
suffix (x ∷ a) p (y ∷ b) q is few = let tail : a ++ p ≡ b ++ q = cc in suffix a p b q tail few

-- of two parts, the shorter one is a part of the longer one
pub shorter : {flight : List Moment} (long short : List Moment) → IsOlderPart long flight → IsOlderPart short flight → length short ≤ length long
    → IsOlderPart short long
shorter long short (a, is) (b, so) few = suffix a long b short (sym is ∙ so) few

pub part_is_flight : (s : FlightSetting) (flight part : List Moment) → IsOlderPart part flight → IsFlight s flight → IsFlight s part
part_is_flight s flight part (later, is) h = drop_later later (subst_is is h)
  where
    subst_is : {l r : List Moment} → l ≡ r → IsFlight s l → IsFlight s r
    subst_is same given = rw (← same) given

    drop_later : (later : List Moment) → IsFlight s (later ++ part) → IsFlight s part
    drop_later [] given = given
    drop_later (m ∷ later) given = drop_later later given.0

-- a list with an element isn't empty
pub none_of : {X : Type 0} (front : List X) (x : X) (rest : List X) → [] ≡ front ++ x ∷ rest → ⊥
none_of front x rest is = let long = ap length is in let more = length-append front (x ∷ rest) in omega arith

-- the elements of a list keep their numbers before other ones
pub get_front : {X : Type 0} (xs ys : List X) (k : ℕ) (x : X) → slice_get xs k ≡ Some x → slice_get (xs ++ ys) k ≡ Some x
get_front [] ys k x is = absurd (cc)
get_front (y ∷ xs) ys zero x is = is
get_front (y ∷ xs) ys (suc k) x is = get_front xs ys k x is

-- two files are one, or they aren't
pub same_or_not : (a b : Identity) → (a ≡ b) ⊎ (a ≡ b → ⊥)
same_or_not a b = grind (arith, file_Decides, same_file)

-- an access that installs a file is of one of two kinds
pub by_put : (slot : ℕ) (file : Identity) (P : Access → Type 0) → ((removed : Option Identity) → P (Puts slot file removed))
    → P (Allocates slot file) → (a : Access) → IsPut a slot file → P a
by_put slot file P puts allocates a is = grind arith

pub access_of_part : {flight part : List Moment} (id : ℕ) (a : Access) (time : ℕ) → IsOlderPart part flight → IsAccessAt part id a time
    → IsAccessAt flight id a time
access_of_part id a time part at = (at.0, part_of_part part at.1, at.2)

-- an access of a flight comes before its end
pub before_end : (flight : List Moment) (id : ℕ) (a : Access) (time : ℕ) → IsAccessAt flight id a time → time < length flight
before_end flight id a time at =
    let few = part_length flight (Accesses (record { chain = id; access = a }) ∷ at.0) at.1 in let same = at.2 in omega arith
