-- Two accesses without a common slot may be made in the other order, and leave the same table.
use Rattle.check_outcomes.proofs.Words.{◌≡◌, ℕ, ◌+◌, ◌<◌, ◌≤◌, ◌==◌, List, ◌∷◌, Option, Some, None, if◌then◌else◌, refl, sym, subst, ◌∙◌, by_equality}
use Rattle.check_outcomes.proofs.Words.{Table, Permits, PermitsAll, table_with, table_after, IsSome, Looks, Puts, Clears, Takes, Allocates, FindsFull}
use Rattle.check_outcomes.proofs.Words.{Access, Identity, IfSome}

-- an access reaches a slot, at a table with this allocation range
abbrev pub ComesTo : ℕ × ℕ → Access → ℕ → Type 0
ComesTo range (Looks own found) slot = slot ≡ own
ComesTo range (Puts own file removed) slot = slot ≡ own
ComesTo range (Clears own removed) slot = slot ≡ own
ComesTo range (Takes own removed) slot = slot ≡ own
ComesTo range (Allocates own file) slot = (slot ≡ own) × (range.0 ≤ slot) × (slot < range.0 + range.1)
ComesTo range FindsFull slot = (range.0 ≤ slot) × (slot < range.0 + range.1)

-- the slot that an access writes, and what it leaves there
abbrev written : Access → Option (ℕ × Option Identity)
written (Puts own file removed) = Some (own, Some file)
written (Clears own removed) = Some (own, None)
written (Takes own removed) = Some (own, None)
written (Allocates own file) = Some (own, Some file)
written access = None

abbrev left_at : Option (ℕ × Option Identity) → ℕ → Option Identity → Option Identity
left_at None slot found = found
left_at (Some w) slot found = if slot == w.0 then w.1 else found

-- the files after an access
abbrev pub left_by : Access → (ℕ → Option Identity) → ℕ → Option Identity
left_by a at slot = left_at (written a) slot (at slot)

module _ (size : ℕ) (range : ℕ × ℕ) where
  abbrev pub table : (ℕ → Option Identity) → Table
  table at = record { size = size; range = range; at = at }

  -- the two reach no common slot
  abbrev pub AreApart : Access → Access → Type 0
  AreApart a b = (slot : ℕ) → slot < size → ComesTo range a slot → ComesTo range b slot → ⊥

  behind : (a : Access) (at : ℕ → Option Identity) → table_with (table at) a ≡ table (left_by a at)
  behind FindsFull at = refl
  behind a at = refl

  abbrev IsOwn : Access → ℕ × Option Identity → Type 0
  IsOwn a w = (w.0 < size) × ComesTo range a w.0

  -- an access writes only at a slot that it reaches
  writes_own : (a : Access) (at : ℕ → Option Identity) → Permits (table at) a → IfSome (written a) (IsOwn a)
  writes_own (Looks own found) at may = tt
  writes_own (Allocates own file) at may = (may.0.0, (refl, may.1.0, may.1.1))
  writes_own FindsFull at may = tt
  writes_own a at may = (may.0, refl)

  -- nothing changes at a slot that it doesn't reach
  kept_at : (a : Access) (w : Option (ℕ × Option Identity)) (slot : ℕ) (found : Option Identity) → IfSome w (IsOwn a) → (ComesTo range a slot → ⊥)
      → left_at w slot found ≡ found
  kept_at a None slot found own away = refl
  kept_at a (Some w) slot found own away =
      by_equality slot w.0 (λ b. (if b then w.1 else found) ≡ found) (λ same. absurd (away (rw same own.1))) (λ _. refl)

  both_ways : (a b : Access) (v w : Option (ℕ × Option Identity)) (slot : ℕ) (found : Option Identity) → AreApart a b → IfSome v (IsOwn a)
      → IfSome w (IsOwn b) → left_at w slot (left_at v slot found) ≡ left_at v slot (left_at w slot found)
  both_ways a b None w slot found apart mine its = refl
  both_ways a b (Some v) w slot found apart mine its =
      by_equality slot v.0 (λ c. left_at w slot (if c then v.1 else found) ≡ (if c then v.1 else left_at w slot found))
      (λ same. kept_at b w slot v.1 its (apart slot (rw same mine.0) (rw same mine.1))) (λ _. refl)

  -- the files at the slots that an access reaches decide whether it is permitted
  like : (b : Access) {f g : ℕ → Option Identity} → ((slot : ℕ) → slot < size → ComesTo range b slot → f slot ≡ g slot)
      → Permits (table f) b → Permits (table g) b
  like (Allocates own file) same may = ((may.0.0, may.0.1 ∙ same own may.0.0 (refl, may.1.0, may.1.1)), may.1)
  like FindsFull same may = λ slot few within. subst IsSome (same slot few within) (may slot few within)
  like a same may = (may.0, may.1 ∙ same _ may.0 refl)

  -- these accesses may be made one after another, and leave this table
  pub record Leaves (before : Table) (accesses : List Access) (end : Table) : Type 0 where
    pub permitted : PermitsAll before accesses
    pub left : table_after before accesses ≡ end

  pub first_of : {at : ℕ → Option Identity} {a : Access} {accesses : List Access} {end : Table} → Leaves (table at) (a ∷ accesses) end
      → Permits (table at) a × Leaves (table (left_by a at)) accesses end
  first_of {at} {a} leaves =
      (leaves.permitted.0, record { permitted = rw (behind a at) at leaves.permitted.1; left = rw (behind a at) at leaves.left })

  pub in_front : {at : ℕ → Option Identity} (a : Access) {accesses : List Access} {end : Table} → Permits (table at) a
      → Leaves (table (left_by a at)) accesses end → Leaves (table at) (a ∷ accesses) end
  in_front {at} a may leaves = record { permitted = (may, rw (behind a at) leaves.permitted); left = rw (behind a at) leaves.left }

  -- the first two of them, the other way round, where both look at slots
  pub looks_swapped : {at : ℕ → Option Identity} (one other : ℕ) (found there : Option Identity) {accesses : List Access} {end : Table}
      → Leaves (table at) (Looks one found ∷ Looks other there ∷ accesses) end → Leaves (table at) (Looks other there ∷ Looks one found ∷ accesses) end
  looks_swapped one other found there leaves =
      let first = first_of leaves in
      let second = first_of first.1 in
      in_front (Looks other there) second.0 (in_front (Looks one found) first.0 second.1)

  -- and where they share no slot
  pub swapped : {at : ℕ → Option Identity} (a b : Access) {accesses : List Access} {end : Table} → AreApart a b
      → Leaves (table at) (a ∷ b ∷ accesses) end → Leaves (table at) (b ∷ a ∷ accesses) end
  swapped {at} a b {accesses} {end} apart leaves =
      let one = first_of leaves in
      let two = first_of one.1 in
      let mine = writes_own a at one.0 in
      let its = writes_own b (left_by a at) two.0 in
      let same : left_by b (left_by a at) ≡ left_by a (left_by b at) =
      λ i slot. both_ways a b (written a) (written b) slot (at slot) apart mine its i in
      in_front b (like b (λ slot few comes. kept_at a (written a) slot (at slot) mine (λ too. apart slot few too comes)) two.0)
      (in_front a (like a (λ slot few comes. sym (kept_at b (written b) slot (at slot) its (apart slot few comes))) one.0)
      (subst (λ (f : ℕ → Option Identity). Leaves (table f) accesses end) same two.1))
