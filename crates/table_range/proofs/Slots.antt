-- A slot changes: what its group counts, and the account of the pass that changes it.
use Rattle.table_range.proofs.Words.{◌≡◌, ◌≢◌, ℕ, zero, suc, ◌+◌, ◌<◌, ◌≤◌, Bool, true, false, cond, Option, Some, None, is_some, not, sym, refl, ap, ◌∙◌}
use Rattle.table_range.proofs.Words.{subst, arith, eq-eqb, ne_eqb, eqb, ⊎_elim, File, changed_at, full_in, if_full, full_else, full_here}
use Rattle.table_range.proofs.Words.{group_of, group_start, group_len, is_in, owing, uncounted, Change, Outside, Inside}
use Rattle.table_range.proofs.GroupSlots.{in_group, of_group, in_range_so, is_in_or}

-- a range that has fewer full slots than slots has an empty one
pub full_gap : (at : ℕ → Option File) (off len : ℕ) → full_in at off len ≢ len → (slot : ℕ) × (off ≤ slot) × (slot < off + len) × (at slot ≡ None)
full_gap at off zero e = absurd (e refl)
full_gap at off (suc len) e = go (full_gap at off len) (at (off + len)) refl
  where
    go : (full_in at off len ≢ len → (slot : ℕ) × (off ≤ slot) × (slot < off + len) × (at slot ≡ None)) → (found : Option File) → at (off + len) ≡ found
        → (slot : ℕ) × (off ≤ slot) × (slot < off + suc len) × (at slot ≡ None)
    go before None is = (off + len, omega arith, omega arith, is)
    go before (Some f) is = let one = ap if_full is in let z = before (λ same. e (omega (arith, same, one))) in (z.0, z.1, omega (arith, z.2), z.3)

-- what the count of full slots has of a slot with this file
abbrev pub counted : Bool → Option File → ℕ
counted b found = cond b (if_full found) 0

module _ (at : ℕ → Option File) (range : ℕ × ℕ) (s : ℕ) (new : Option File) where
  abbrev Swapped : Bool → Type 0
  Swapped b = full_in (changed_at at s new) range.0 range.1 + counted b (at s) ≡ full_in at range.0 range.1 + counted b new

  pub full_swap : Swapped (is_in range s)
  full_swap = ⊎_elim
      (λ inside. subst Swapped (sym inside.2) (full_here at s new range.0 range.1 inside.0 inside.1))
      (λ out. subst Swapped (sym out.1) (let g = full_else at s new range.0 range.1
      (λ i l bad. out.0 (omega (arith, bad)) (omega (arith, l, bad))) in omega arith)) (is_in_or range s)

pub none_in : (b : Bool) → ◌≡◌ {A = ℕ} (cond b 0 0) 0
none_in true = refl
none_in false = refl

-- what the account of a pass adds to a group's word, where its slot is in the group, and was empty
abbrev pub share : Bool → Bool → ℕ
share b e = cond b (cond e 1 0) 0

-- a slot is in a group if it is in the range and the group is its own
in_its_group : (range : ℕ × ℕ) (s g : ℕ) → is_in (group_start range g, group_len range.1 g) s ≡ cond (is_in range s) (eqb (group_of range s) g) false
in_its_group range s g = ⊎_elim
    (λ its. let z = of_group range s g its.0 its.1 in its.2 ∙ sym (rw (in_range_so range s z.0 z.1, eq-eqb (group_of range s) g z.2) refl))
    (λ none. none.1 ∙ ⊎_elim
    (λ inside. sym (rw (inside.2, ne_eqb (group_of range s) g (λ same. let z = in_group range s g inside.0 inside.1 same in none.0 z.0 z.1)) refl))
    (λ out. sym (rw out.1 refl)) (is_in_or range s)) (is_in_or (group_start range g, group_len range.1 g) s)

-- so a slot's account is one with its group alone
pub owing_so : (range : ℕ × ℕ) (s g : ℕ) (e : Bool)
    → owing g (uncounted (is_in range s) e (group_of range s)) ≡ share (is_in (group_start range g, group_len range.1 g) s) e
owing_so range s g e = of_each (is_in range s) e ∙ sym (ap (λ (b : Bool). share b e) (in_its_group range s g))
  where
    of_each : (b e : Bool) → owing g (uncounted b e (group_of range s)) ≡ share (cond b (eqb (group_of range s) g) false) e
    of_each true true = refl
    of_each true false = sym (none_in (eqb (group_of range s) g))
    of_each false e = refl

-- what the pass that writes the slot owes, and what was counted there: one, in the slot's group
pub one_in : (b : Bool) (old : Option File) → ◌≡◌ {A = ℕ} (share b (not (is_some old)) + counted b old) (cond b 1 0)
one_in true None = refl
one_in true (Some f) = refl
one_in false None = refl
one_in false (Some f) = refl

-- an account that owes to a group
pub owes_to : (b e : Bool) {g g' : ℕ} → uncounted b e g ≡ Inside g' → (b ≡ true) × (e ≡ true) × (g ≡ g')
owes_to true true is = (refl, refl, cc is)
owes_to true false is = absurd (cc is)
owes_to false true is = absurd (cc is)
owes_to false false is = absurd (cc is)
