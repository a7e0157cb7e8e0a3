-- A file that was taken from its slot is at no slot afterwards; one that is installed and wasn't
-- taken is there.
use Rattle.check_certificate.proofs.Words.{◌≡◌, ◌⊎◌, ℕ, ◌<◌, List, [], ◌∷◌, ◌++◌, length, refl, sym, ap, arith, inl, inr, Some, None, Option, ⊎_elim}
use Rattle.check_certificate.proofs.Words.{Contains, contains_cases, contains_none, Moment, Logged, Accesses, IsOlderPart, Access, ChainAccess, IsPut}
use Rattle.check_certificate.proofs.Words.{IsLeftAt, IsAccessAt, IsPutTime, Table, table_with, table_left_by, taken_in, file_removed_by, Identity}
use Rattle.check_certificate.proofs.Words.{option_to_list, IsFlight, FlightSetting, table_of, Permits, Contains-append_left, Contains-append_right}
use Rattle.check_certificate.proofs.Words.{Contains-append_cases, contains_head, length-append, at_itself, emptied, left_or_removed}
use Rattle.check_certificate.proofs.Life.{IsPutAt, put_before, put_here, stays, put_of}
use Rattle.check_certificate.proofs.Parts.{by_put, one_more, part_is_flight, part_length, part_of_part, shorter, whole}

-- an access that installs a file leaves it there
pub there_after : (t : Table) (a : Access) (slot : ℕ) (file : Identity) → IsPut a slot file → (table_with t a).at slot ≡ Some file
there_after t a slot file = grind (arith, by_put, at_itself)

-- an access that took the file from its slot
pub record Taking (flight : List Moment) (file : Identity) : Type 0 where
  pub id : ℕ
  pub access : Access
  pub earlier : List Moment
  pub inside : IsOlderPart (Accesses (record { chain = id; access = access }) ∷ earlier) flight
  pub takes : file_removed_by access ≡ Some file

pub taking : (flight : List Moment) (file : Identity) → Contains (taken_in flight) file → Taking flight file
taking [] file has = absurd (contains_none file has)
taking (Logged e ∷ flight) file has = grind (arith, taking flight file has, one_more)
taking (Accesses x ∷ flight) file has =
    ⊎_elim
    (λ here. record { id = x.chain; access = x.access; earlier = flight; inside = whole (Accesses x ∷ flight); takes = one (file_removed_by x.access) here })
    (λ older. let t = taking flight file older in
    record { id = t.id; access = t.access; earlier = t.earlier; inside = one_more (Accesses x) t.inside; takes = t.takes })
    (Contains-append_cases (option_to_list (file_removed_by x.access)) (taken_in flight) file has)
  where
    one : (o : Option Identity) → Contains (option_to_list o) file → o ≡ Some file
    one None inside = absurd (contains_none file inside)
    one (Some f) inside = ⊎_elim (λ same. ap Some (sym same)) (λ none. absurd (contains_none file none)) (contains_cases f [] file inside)

-- accesses at one time are one
pub same_moment : (flight : List Moment) (time id jd : ℕ) (a b : Access) → IsAccessAt flight id a time → IsAccessAt flight jd b time → (id ≡ jd) × (a ≡ b)
same_moment flight time id jd a b one other =
    let x : Moment = Accesses (record { chain = id; access = a }) in
    let y : Moment = Accesses (record { chain = jd; access = b }) in
    let few = one.2 in let few_too = other.2 in
    let more = shorter (x ∷ one.0) (y ∷ other.0) one.1 other.1 (omega arith) in
    only more.0 one.0 other.0 more.1 (omega arith)
  where
    only : (k l r : List Moment) → Accesses (record { chain = id; access = a }) ∷ l ≡ k ++ Accesses (record { chain = jd; access = b }) ∷ r
        → length l ≡ length r → (id ≡ jd) × (a ≡ b)
    only [] l r is few =
        let x : ChainAccess = record { chain = id; access = a } in
        let y : ChainAccess = record { chain = jd; access = b } in
        let same : x ≡ y = cc in
        (ap (λ (z : ChainAccess). z.chain) same, ap (λ (z : ChainAccess). z.access) same)
    only (m ∷ k) l r is few = let long = ap length is in let more = length-append k (Accesses (record { chain = jd; access = b }) ∷ r) in absurd (omega arith)

-- an access installs a file at one slot
pub same_slot : (a b : Access) (one other : ℕ) (file : Identity) → a ≡ b → IsPut a one file → IsPut b other file → one ≡ other
same_slot a b one other file same first = by_put one file (λ (x : Access). IsPut x other file → one ≡ other) (λ _ y. y.0) (λ y. y.0) b (rw same at first)

module _ (s : FlightSetting) (flight : List Moment) (is : IsFlight s flight) (file : Identity)
    (new : (slot : ℕ) → (table_of s.old).at slot ≡ Some file → ⊥) (put : ℕ) (is_put : IsPutTime flight file put) where
  -- a file that was taken was installed before, and isn't there
  pub taken_gone : (part : List Moment) → IsOlderPart part flight → Contains (taken_in part) file → (slot : ℕ)
      → (put < length part) × (IsLeftAt (table_of s.old) part slot file → ⊥)
  taken_gone part inside has slot =
      let t = taking part file has in
      let x : Moment = Accesses (record { chain = t.id; access = t.access }) in
      let within : IsOlderPart (x ∷ t.earlier) flight = part_of_part inside t.inside in
      let older : IsOlderPart t.earlier flight = part_of_part within (x ∷ [], refl) in
      let may : Permits (table_left_by (table_of s.old) t.earlier) t.access = (part_is_flight s flight (x ∷ t.earlier) within is).1.0 in
      let e = emptied (table_left_by (table_of s.old) t.earlier) t.access file may t.takes in
      let early : put < length t.earlier = put_before (table_of s.old) e.slot file flight put is_put (new e.slot) t.earlier older e.was in
      let few = part_length part (x ∷ t.earlier) t.inside in (
        omega arith,
        λ there. let now : IsLeftAt (table_of s.old) (x ∷ t.earlier) slot file =
            stays (table_of s.old) slot file flight put is_put t.inside.0 (x ∷ t.earlier) (rw t.inside.1 at inside) (omega arith) (rw t.inside.1 at there) in
            ⊎_elim
            (λ other. let here = put_here (table_of s.old) slot file flight put is_put (new slot) t.earlier older other.1 in
            let there_too = put_here (table_of s.old) e.slot file flight put is_put (new e.slot) t.earlier older e.was in
            grind (arith, same_slot, there_too.1, (same_moment t.earlier put here.0 there_too.0 here.1 there_too.1 here.3 there_too.3).1))
            (λ placed. let again = is_put.each t.id slot (length t.earlier) t.access (put_of t.access slot file placed) (t.earlier, within, refl) in omega arith)
            (e.after slot file now),
      )

  -- a file that was installed at the slot is there, or was taken
  pub there_or_taken : (slot : ℕ) (part : List Moment) → IsOlderPart part flight → IsPutAt part slot file put
      → IsLeftAt (table_of s.old) part slot file ⊎ Contains (taken_in part) file
  there_or_taken slot part inside here = go here.3.1.0 (Accesses (record { chain = here.0; access = here.1 }) ∷ here.3.0) part here.3.1.1
      (part_is_flight s flight part inside is) (there_after (table_left_by (table_of s.old) here.3.0) here.1 slot file here.2)
    where
      go : (later base whole : List Moment) → whole ≡ later ++ base → IsFlight s whole → IsLeftAt (table_of s.old) base slot file
          → IsLeftAt (table_of s.old) whole slot file ⊎ Contains (taken_in whole) file
      go later base whole same flies there = rw same (on later base (rw same at flies) there)
        where
          on : (later base : List Moment) → IsFlight s (later ++ base) → IsLeftAt (table_of s.old) base slot file
              → IsLeftAt (table_of s.old) (later ++ base) slot file ⊎ Contains (taken_in (later ++ base)) file
          on [] base flies there = inl there
          on (Logged e ∷ later) base flies there = on later base flies.0 there
          on (Accesses x ∷ later) base flies there =
              ⊎_elim
              (λ still. ⊎_elim (λ kept. inl kept)
              (λ removed. ⊎_elim (λ now. inr (Contains-append_left (option_to_list (file_removed_by x.access)) (taken_in (later ++ base)) file
              (rw now (contains_head file [])))) (λ none. absurd none) removed)
              (left_or_removed (table_left_by (table_of s.old) (later ++ base)) (x.access ∷ []) (flies.1.0, tt) (inl still)))
              (λ taken. inr (Contains-append_right (option_to_list (file_removed_by x.access)) (taken_in (later ++ base)) file taken))
              (on later base flies.0 there)
