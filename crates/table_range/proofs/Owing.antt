-- The slots that passes owe to a group's word: each pass owes one at most. So a word that counts
-- all slots of its group says that they are full.
use Rattle.table_range.proofs.Words.{◌≡◌, ◌≢◌, ℕ, ◌+◌, ◌%◌, ◌^◌, ◌<◌, ◌≤◌, List, [], ◌∷◌, length, set, get_or, refl, ap, subst, arith, ⊎_elim}
use Rattle.table_range.proofs.Words.{Option, IsSome, None, dite, ℕ_discrete, File, sum_by, get_elem?, some, at_set, sum_set, sum_at, sum_le_at, bit_is, bit_here}
use Rattle.table_range.proofs.Words.{full_in, full_few, full_all, owing, RangeCounts, AreFull, group_place, group_start, group_len, group_of, groups_in}
use Rattle.table_range.proofs.Words.{Change, Outside, Lowered, Inside, Survey}
use Rattle.table_range.proofs.GroupSlots.{in_group, of_group, few_slots}
use Rattle.table_range.proofs.Slots.{full_gap}

one_at_most : (g : ℕ) (c : Change) → owing g c ≤ 1
one_at_most g Outside = omega arith
one_at_most g (Lowered n) = omega (arith, bit_is g n)
one_at_most g (Inside n) = omega (arith, bit_is g n)

-- a seat without a pass owes nothing
module _ {V L : Type 0} (logs : V → List L) (change : V → Change) (views : List V)
    (idle : (j : ℕ) (u : V) → get_elem? views j ≡ some u → logs u ≡ [] → change u ≡ Outside) where
  abbrev lengths : V → ℕ
  lengths u = length (logs u)

  few_owing : (g j : ℕ) (u : V) → get_elem? views j ≡ some u → owing g (change u) ≤ lengths u
  few_owing g j u there = go (logs u) refl
    where
      go : (l : List L) → logs u ≡ l → owing g (change u) ≤ length (logs u)
      go [] is = let a = ap (owing g) (idle j u there is) in omega (arith, a)
      go (z ∷ l) is = let a = one_at_most g (change u) in let b = ap (length {A = L}) is in omega (arith, a, b)

  pub owing_few : (g : ℕ) → sum_by (λ u. owing g (change u)) views ≤ sum_by lengths views
  owing_few g = sum_le_at (λ u. owing g (change u)) lengths views (few_owing g)

  -- if a seat with one pass isn't the only one to owe, another seat has a pass
  pub others_owe : (spent : V) → change spent ≡ Outside → lengths spent ≡ 0 → (g id : ℕ) (v : V) → get_elem? views id ≡ some v → lengths v ≡ 1
      → sum_by (λ u. owing g (change u)) views ≢ owing g (change v) → 1 < sum_by lengths views
  others_owe spent still none g id v here alone other =
      let a = sum_set (λ u. owing g (change u)) views id v spent here in let b = sum_set lengths views id v spent here in
      let c = sum_le_at (λ u. owing g (change u)) lengths (set views id spent) each in let d = sum_at (λ u. owing g (change u)) views id v here in
      let e = ap (owing g) still in omega (arith, a, b, c, d, e, none, alone, other)
    where
      each : (j : ℕ) (u : V) → get_elem? (set views id spent) j ≡ some u → owing g (change u) ≤ lengths u
      each j u there = ⊎_elim (λ (t : (j ≡ id) × (spent ≡ u)). subst (λ (z : V). owing g (change z) ≤ lengths z) t.1 (let e = ap (owing g) still in omega (arith, e)))
          (λ t. few_owing g j u t.1) (at_set views id j spent u there)

  module _ {number : L → ℕ} {asked : L → Survey} {at : ℕ → Option File} {range : ℕ × ℕ} {words : List ℕ}
      (ok : RangeCounts logs change number asked at range views words) (g : ℕ) (its : g < groups_in range.1) where
    -- a group that counts all its slots: they are full, and no pass owes it a slot
    module _ (few : sum_by lengths views ≤ 1024) (all : get_or words (group_place g) 0 ≡ group_len range.1 g) where
      settled : (sum_by (λ u. owing g (change u)) views ≡ 0) × (full_in at (group_start range g) (group_len range.1 g) ≡ group_len range.1 g)
      settled = let a = (ok.groups g its).counts in let b = owing_few g in let c = few_slots range.1 g in
          let d = full_few at (group_start range g) (group_len range.1 g) in (omega (arith, a, b, c, d, few, all), omega (arith, a, b, c, d, few, all))

      -- they are full
      pub each_full : (s : ℕ) → range.0 ≤ s → s < range.0 + range.1 → group_of range s ≡ g → IsSome (at s)
      each_full s low high same = let z = in_group range s g low high same in full_all at (group_start range g) (group_len range.1 g) settled.1 s z.0 z.1

      -- so one group more is full
      pub more_full : AreFull change at range views g → AreFull change at range views (g + 1)
      more_full o = record {
        full = λ s low high l. dite (ℕ_discrete (group_of range s) g)
            (λ same. each_full s low high same)
            (λ other. o.full s low high (omega (arith, l, other)));
        calm = λ j u m there is. let a = o.calm j u m there is in dite (ℕ_discrete m g)
            (λ same. let b = sum_at (λ u. owing g (change u)) views j u there in let c = ap (owing g) is in
            let d = bit_here g m same in absurd (omega (arith, settled.0, b, c, d)))
            (λ other. omega (arith, a, other));
      }

    -- a group that doesn't count all its slots, and to which no pass owes one, has an empty slot
    pub group_gap : get_or words (group_place g) 0 < 18446744073709551616 → sum_by (λ u. owing g (change u)) views ≡ 0
        → get_or words (group_place g) 0 ≢ group_len range.1 g → (slot : ℕ) × (range.0 ≤ slot) × (slot < range.0 + range.1) × (at slot ≡ None)
    group_gap fits none some_empty = let a = (ok.groups g its).counts in
        let z = full_gap at (group_start range g) (group_len range.1 g) (λ e. some_empty (omega (arith, a, none, e, fits))) in
        let b = of_group range z.0 g z.1 z.2 in (z.0, b.0, b.1, z.3)
