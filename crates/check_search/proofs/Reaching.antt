-- Lists of states that leave none of their steps out.
use Rattle.check_search.proofs.Words.{length-map, get_or-map, ◌∙◌, drop-cons, ◌≡◌, ℕ, suc, ◌<◌, drop, get_or, sym, List, ◌∷◌, length, ap, All, subst}
use Rattle.check_search.proofs.Words.{Any, arith, map, ◌≢◌, inl, inr, zero, ◌+◌, Bool, true, [], Option, Some, None, refl, IsLookedThrough, set_comm}
use Rattle.check_search.proofs.Words.{get_or_from_slice_get, same_Some, slice_get_within, Contains, slice_index, slice_set, if◌then◌else◌}
use Rattle.check_search.proofs.Words.{get_or-set_other, All-contains, All-map, slice_get, option_and_then, by_equality, Cell, Claim, Packing, Strand}
use Rattle.check_search.proofs.Words.{Standing, Vec, all_unpacked, allows, cells_after, next, made, claim_at, Ends, is_test, unpacked, IsEndOfClaims}
use Rattle.check_search.specs.Machine.{HasNoEnd, IsExplored, LeadsInside}

-- the element at a place of a mapped list, and those after it
pub mapped_at : {X Y : Type 0} (f : X → Y) (xs : List X) (i : ℕ) (x : X) → i < length xs → x ≡ get_or xs i x
    → drop i (map f xs) ≡ f x ∷ drop (suc i) (map f xs)
mapped_at f xs i x lt is =
    drop-cons (map f xs) i (f x) (let long = length-map xs f in omega arith)
    ∙ ap (λ y. y ∷ drop (suc i) (map f xs)) (get_or-map f xs i x (f x) lt ∙ ap f (sym is))

-- what holds of none of a list's elements holds of no element
pub no_any : {X : Type 0} (P : X → Type 0) (xs : List X) → All (λ x. P x → ⊥) xs → Any P xs → ⊥
no_any P xs none (k, x, lt, is, holds) = subst (λ y. P y → ⊥) is (none k x lt) holds

-- A list of states that leaves none of their steps out, and has no end, shows that no order leads
-- to one.

-- an answer of two steps has one of the first, to which the second was applied
pub both_steps : {A B : Type 0} (f : A → Option B) (o : Option A) (y : B) → option_and_then f o ≡ Some y → (x : A) × (o ≡ Some x) × (f x ≡ Some y)
both_steps f o y is = grind arith

-- what is chosen where a test holds
pub chosen : {X : Type 0} (b : Bool) (x y : X) → (if b then Some x else None) ≡ Some y → (b ≡ true) × (x ≡ y)
chosen b x y is = grind arith

test_keeps : (cells : List Cell) (claim : Claim) → is_test claim ≡ true → cells_after cells claim ≡ cells
test_keeps cells claim is = grind arith

abbrev standing : List ℕ → List Cell → Standing
standing places cells = record { places = places; cells = cells }

-- one more claim of a chain made
abbrev pub after : Standing → ℕ → Claim → Standing
after at c step = standing (slice_set at.places c (slice_index at.places c + 1)) (cells_after at.cells step)

-- no end is reached from where something holds that each claim keeps, and that holds at no end
pub none_ends : (strands : List Strand) (P : Standing → Type 0) → ((at : Standing) → P at → IsEndOfClaims strands at → ⊥)
    → ((at : Standing) (d : ℕ) (step : Claim) → claim_at strands at.places d ≡ Some step → allows at.cells step ≡ true → P at → P (after at d step))
    → (at : Standing) → P at → (order : List ℕ) → Ends strands at order → ⊥
none_ends strands P over keeps at holds [] ends = over at holds ends
none_ends strands P over keeps at holds (d ∷ order) ends =
    let own = both_steps (made at d) (claim_at strands at.places d) ends.0 ends.1 in
    let there = chosen (allows at.cells own.0) _ ends.0 own.2 in
    none_ends strands P over keeps ends.0 (subst P there.1 (keeps at d own.0 own.1 there.0 holds)) order ends.2

-- one that changed nothing
abbrev skipped : Standing → ℕ → Standing
skipped at c = standing (slice_set at.places c (slice_index at.places c + 1)) at.cells

claim_other : (strands : List Strand) (places : List ℕ) (c d x : ℕ) → d ≢ c → claim_at strands (slice_set places c x) d ≡ claim_at strands places d
claim_other strands places c d x other =
    ap (λ (n : ℕ). option_and_then (λ (s : Strand). slice_get s.claims.items n) (slice_get strands d)) (get_or-set_other places c d x 0 other)

-- from where the test was made, an end is reached in one step less
test_first : (strands : List Strand) (c : ℕ) (claim : Claim) (order : List ℕ) (at : Standing)
    → claim_at strands at.places c ≡ Some claim → is_test claim ≡ true → Ends strands at order
    → (less : List ℕ) × Ends strands (skipped at c) less × (length order ≡ suc (length less))
test_first strands c claim [] at is test ends = let none : None ≡ Some claim = sym (ends.over c) ∙ is in absurd (cc)
test_first strands c claim (d ∷ order) at is test ends =
    let own = both_steps (made at d) (claim_at strands at.places d) ends.0 ends.1 in
    let there = chosen (allows at.cells own.0) _ ends.0 own.2 in
    by_equality d c (λ _. (less : List ℕ) × Ends strands (skipped at c) less × (suc (length order) ≡ suc (length less)))
    (λ same.
    let claim_is : own.0 ≡ claim = same_Some own.0 claim (sym own.1 ∙ (ap (claim_at strands at.places) same ∙ is)) in
    let mid_is : ends.0 ≡ skipped at c =
    sym there.1 ∙ ((λ i. after at (same i) (claim_is i)) ∙ ap (standing (skipped at c).places) (test_keeps at.cells claim test)) in
    (order, subst (λ (x : Standing). Ends strands x order) mid_is ends.2, refl))
    (λ other.
    let apart : c ≢ d = λ e. other (sym e) in
    let kept : claim_at strands ends.0.places c ≡ Some claim =
    subst (λ (x : Standing). claim_at strands x.places c ≡ Some claim) there.1
    (claim_other strands at.places d c (slice_index at.places d + 1) apart ∙ is) in
    let rest = test_first strands c claim order ends.0 kept test ends.2 in
    let next_is : next strands (skipped at c) d ≡ Some (after (skipped at c) d own.0) =
    ap (option_and_then (made (skipped at c) d)) (claim_other strands at.places c d (slice_index at.places c + 1) other ∙ own.1)
    ∙ ap (λ (b : Bool). if b then Some (after (skipped at c) d own.0) else None) there.0 in
    let places : (after (skipped at c) d own.0).places ≡ (skipped (after at d own.0) c).places =
    ap (λ (n : ℕ). slice_set (skipped at c).places d (n + 1)) (get_or-set_other at.places c d (slice_index at.places c + 1) 0 other)
    ∙ (set_comm at.places c d (slice_index at.places c + 1) (slice_index at.places d + 1) apart
    ∙ sym (ap (λ (n : ℕ). slice_set (after at d own.0).places c (n + 1)) (get_or-set_other at.places d c (slice_index at.places d + 1) 0 apart))) in
    let joined : after (skipped at c) d own.0 ≡ skipped ends.0 c =
    ap (λ (l : List ℕ). standing l (cells_after at.cells own.0)) places ∙ ap (λ (x : Standing). skipped x c) there.1 in
    (d ∷ rest.0, (after (skipped at c) d own.0, next_is, subst (λ (x : Standing). Ends strands x rest.0) (sym joined) rest.1), ap suc rest.2))

-- from a list that was looked through no order of this length leads to an end
module _ (strands : List Strand) (standings : List Standing) (looked : All (IsLookedThrough strands standings) standings) where
  none_of_length : (n : ℕ) (order : List ℕ) (at : Standing) → length order ≡ n → Contains standings at → Ends strands at order → ⊥
  unfolding IsExplored LeadsInside HasNoEnd
  none_of_length n [] at few inside ends = (All-contains (IsLookedThrough strands standings) standings at looked inside).no_end ends
  none_of_length zero (c ∷ order) at few inside ends = absurd (omega arith)
  none_of_length (suc n) (c ∷ order) at few inside ends =
      elim (All-contains (IsLookedThrough strands standings) standings at looked inside).explored [
        | inl leads ↦ elim (leads c ends.0 ends.1) [
          | inl there ↦ none_of_length n order ends.0 (omega arith) there ends.2
          | inr dead ↦ dead order ends.2
        ]
        | inr test ↦
            let t = test.1 in
            let less = test_first strands test.0 t.claim (c ∷ order) at t.claims t.test ends in
            let made_is = chosen (allows at.cells t.claim) _ t.mid (sym (ap (option_and_then (made at test.0)) t.claims) ∙ t.leads) in
            let mid_is : t.mid ≡ skipped at test.0 =
            sym made_is.1 ∙ ap (standing (skipped at test.0).places) (test_keeps at.cells t.claim t.test) in
            let fewer = less.2 in
            none_of_length n less.0 (skipped at test.0) (omega arith) (subst (Contains standings) mid_is t.inside) less.1
      ]

pub never_reached : (strands : List Strand) (packing : Packing) (rows : List (Vec ℕ)) (k : ℕ) (row : Vec ℕ) → slice_get rows k ≡ Some row
    → All (λ r. IsLookedThrough strands (all_unpacked packing rows) (unpacked packing r.items)) rows → HasNoEnd strands (unpacked packing row.items)
unfolding HasNoEnd
never_reached strands packing rows k row is looked = λ order ends.
    let state : Vec ℕ → Standing = λ row. unpacked packing row.items in
    let within = slice_get_within rows k row is in
    let here = get_or-map state rows k row (state row) within ∙ ap state (get_or_from_slice_get rows k row row is) in
    none_of_length strands (all_unpacked packing rows) (All-map (IsLookedThrough strands (all_unpacked packing rows)) state rows looked)
    (length order) order (state row) refl (k, omega (arith, length-map rows state), here) ends
