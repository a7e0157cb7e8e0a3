-- A fact of each view of a table, after one view was replaced or appended.
use Rattle.std.proofs.Common.{◌≡◌, ℕ, zero, suc, List, [], ◌∷◌, ◌++◌, set, sym, subst, ⊎_elim}
use mathlib.Core.Option.{some, some-injective, some-ne-none}
use lib.ListN.{get_elem?}
use Rattle.atomic_table.proofs.Lists.{at_set, at_snoc}

abbrev pub OfEach : {V : Type 0} → (V → Type 0) → List V → Type 0
OfEach {V} P views = (seat : ℕ) (v : V) → get_elem? views seat ≡ some v → P v

module _ {V : Type 0} (P : V → Type 0) where
  pub of_one : (u : V) → P u → OfEach P (u ∷ [])
  of_one u new zero v e = subst P (some-injective u v e) new
  of_one u new (suc seat) v e = absurd (some-ne-none v (sym e))

  pub of_replaced : (views : List V) → OfEach P views → (id : ℕ) (u : V) → P u → OfEach P (set views id u)
  of_replaced views each id u new seat v e =
      ⊎_elim (λ (here : (seat ≡ id) × (u ≡ v)). subst P here.1 new) (λ other. each seat v other.1) (at_set views id seat u v e)

  pub of_appended : (views : List V) → OfEach P views → (u : V) → P u → OfEach P (views ++ u ∷ [])
  of_appended views each u new seat v e = ⊎_elim (λ old. each seat v old) (λ (here : u ≡ v). subst P here new) (at_snoc views u v seat e)
