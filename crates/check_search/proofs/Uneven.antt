-- States from which no end is reached, since the files of a slot differ in number.
use Rattle.check_search.proofs.Words.{At, Bool, Cell, Claim, Condition, Empty, File, Full, IsEndOfClaims, IsUneven, List, None, Option, Resident}
use Rattle.check_search.proofs.Words.{Same, Some, Standing, Strand, [], allows, and_parts, ap, arith, by_equality, cell_at, cells_after, changes}
use Rattle.check_search.proofs.Words.{claim_at, cond, count_by, drop, drop-cons, drop_all, eq-eqb, false, get_or_from_slice_get, has_slot}
use Rattle.check_search.proofs.Words.{if◌then◌else◌, is_change, is_staying, length, length-set, list_all, list_any, may_leave, may_stay, not, refl}
use Rattle.check_search.proofs.Words.{slice_get, slice_get_within, slice_index, slice_set, suc, suits, to_come, true, with_cell, zero, ℕ, ◌&&◌, ◌+◌}
use Rattle.check_search.proofs.Words.{◌||◌, ◌∙◌, ◌∷◌, ◌≡◌, ◌≤◌}
use Rattle.check_search.specs.Machine.{HasNoEnd}
use Rattle.std.proofs.lemmas.List.Sums.{sum_by-cons}
use Rattle.check_search.specs.declared.dead.SlotChange.{SlotChange}
use Rattle.check_search.specs.declared.dead.SlotChange.TheVariants.{Takes, Empties, Leaving, Staying}
use Rattle.check_search.proofs.Hopeless.{written}
use Rattle.check_search.proofs.Reaching.{after, none_ends}

-- writing a file leaves what a test finds that looks at no file
any_stays : (test : Cell → Bool) → ((cell : Cell) (file : Option Resident) → test (record cell { file = file }) ≡ test cell)
    → (cells : List Cell) (slot : ℕ) (file : Option Resident) → list_any test (with_cell cells slot file) ≡ list_any test cells
any_stays test same [] slot file = refl
any_stays test same (cell ∷ cells) slot file =
    by_equality cell.slot slot
    (λ b. (test (if b then record cell { file = file } else cell) || list_any test (with_cell cells slot file)) ≡ (test cell || list_any test cells))
    (λ _ i. same cell file i || any_stays test same cells slot file i) (λ _ i. test cell || any_stays test same cells slot file i)

pub slots_after : (cells : List Cell) (claim : Claim) (o : Option ℕ) → has_slot (cells_after cells claim) o ≡ has_slot cells o
slots_after cells claim o = grind (arith, any_stays)

-- what was written to a slot is there
written_here : (cells : List Cell) (slot : ℕ) (x : Option Resident) → has_slot cells (Some slot) ≡ true → cell_at (with_cell cells slot x) slot ≡ x
written_here [] slot x has = absurd (cc)
written_here (cell ∷ cells) slot x has =
    by_equality cell.slot slot
    (λ b. (b || has_slot cells (Some slot)) ≡ true → cell_at ((if b then record cell { file = x } else cell) ∷ with_cell cells slot x) slot ≡ x)
    (λ same _. ap (λ (b : Bool). if b then x else cell_at (with_cell cells slot x) slot) (eq-eqb cell.slot slot same))
    (λ other rest. grind (arith, written_here cells slot x rest)) has

abbrev number : Bool → ℕ
number b = cond b 1 0

-- the file at a slot counts as one that stays, or as one that leaves
abbrev stay : Option Resident → ℕ
stay x = number (not (may_leave x))

abbrev leave : Option Resident → ℕ
leave x = number (not (may_stay x))

-- what a claim that makes these changes does to a slot, counted
record Does (makes : SlotChange → Bool) (now after : Option Resident) : Type 0 where
  stays : stay after ≡ stay now + number (makes Staying)
  leaves : leave after + number (makes Takes) ≤ leave now + number (makes Leaving)
  some : 1 ≤ leave now + number (makes Leaving) → 1 ≤ leave after + number (makes Empties) + number (makes Staying)

keeps : {now after : Option Resident} → after ≡ now → Does (λ _. false) now after
keeps same = grind arith

-- a claim that empties the slot
emptied : (condition : Condition) (now : Option Resident) → (suits condition now && may_leave now) ≡ true → Does (is_change Empty condition) now None
emptied condition now may = grind arith

does : (cells : List Cell) (slot : ℕ) (step : Claim) → has_slot cells (Some slot) ≡ true → allows cells step ≡ true
    → Does (λ change. changes change slot step) (cell_at cells slot) (cell_at (cells_after cells step) slot)
does cells slot Full has may = keeps refl
does cells slot (At s condition Same) has may =
    by_equality s slot (λ b. Does (λ _. b && false) (cell_at cells slot) (cell_at cells slot)) (λ _. keeps refl) (λ _. keeps refl)
does cells slot (At s condition Empty) has may = grind (arith, by_equality, written_here, keeps, written, emptied)
does cells slot (At s condition (File r)) has may = grind (arith, by_equality, written_here, keeps, written)

-- how many such changes of a slot a claim makes: 0 or 1
abbrev one : SlotChange → ℕ → Claim → ℕ
one change slot step = number (changes change slot step)

-- a claim that is made is one less to come
one_less : (change : SlotChange) (slot : ℕ) (strands : List Strand) (places : List ℕ) (d : ℕ) (step : Claim) → length places ≡ length strands
    → claim_at strands places d ≡ Some step
    → to_come change slot strands places ≡ one change slot step + to_come change slot strands (slice_set places d (slice_index places d + 1))
one_less change slot [] places d step long is = absurd (cc)
one_less change slot (strand ∷ strands) [] d step long is = absurd (omega arith)
one_less change slot (strand ∷ strands) (p ∷ places) zero step long is =
    let claims : List Claim = strand.claims.items in
    let next : suc p ≡ p + 1 = omega arith in
    let got : drop p claims ≡ step ∷ drop (suc p) claims =
    drop-cons claims p step (slice_get_within claims p step is) ∙ (λ i. get_or_from_slice_get claims p step step is i ∷ drop (suc p) claims) in
    let first : count_by (changes change slot) (drop p claims) ≡ one change slot step + count_by (changes change slot) (drop (p + 1) claims) =
    ap (count_by (changes change slot)) got ∙ (sum_by-cons (λ (x : Claim). cond (changes change slot x) 1 0) step (drop (suc p) claims)
    ∙ ap (λ (n : ℕ). one change slot step + count_by (changes change slot) (drop n claims)) next) in
    omega arith
one_less change slot (strand ∷ strands) (p ∷ places) (suc d) step long is =
    let rest = one_less change slot strands places d step (omega arith) is in omega arith

past : (claims : List Claim) (n : ℕ) → slice_get claims n ≡ None → drop n claims ≡ []
past [] n none = drop_all n [] (omega arith)
past (x ∷ claims) zero none = absurd (cc)
past (x ∷ claims) (suc n) none = past claims n none

none_to_come : (change : SlotChange) (slot : ℕ) (strands : List Strand) (places : List ℕ) → ((c : ℕ) → claim_at strands places c ≡ None)
    → length places ≡ length strands → to_come change slot strands places ≡ 0
none_to_come change slot [] places over long = refl
none_to_come change slot (strand ∷ strands) [] over long = absurd (omega arith)
none_to_come change slot (strand ∷ strands) (p ∷ places) over long =
    let first : count_by (changes change slot) (drop p strand.claims.items) ≡ 0 =
    ap (count_by (changes change slot)) (past strand.claims.items p (over 0)) in
    let rest = none_to_come change slot strands places (λ c. over (suc c)) (omega arith) in
    omega arith

-- a state whose files of a slot don't balance
record Uneven (strands : List Strand) (slot : ℕ) (at : Standing) : Type 0 where
  here : has_slot at.cells (Some slot) ≡ true
  long : length at.places ≡ length strands
  why : IsUneven strands at slot

module _ (strands : List Strand) (slot : ℕ) (at : Standing) (d : ℕ) (step : Claim) (is_next : claim_at strands at.places d ≡ Some step)
    (may : allows at.cells step ≡ true) (uneven : Uneven strands slot at) where
  still : Does (λ change. changes change slot step) (cell_at at.cells slot) (cell_at (after at d step).cells slot)
      → IsUneven strands at slot → IsUneven strands (after at d step) slot
  still did holds = grind (arith, one_less, after)

  uneven_then : Uneven strands slot (after at d step)
  uneven_then = record {
    here = slots_after at.cells step (Some slot) ∙ uneven.here;
    long = length-set at.places d (slice_index at.places d + 1) ∙ uneven.long;
    why = still (does at.cells slot step uneven.here may) uneven.why;
  }

-- a file that may stay, or none
stays_there : (cells : List Cell) (slot : ℕ) → list_all is_staying cells ≡ true → may_stay (cell_at cells slot) ≡ true
stays_there [] slot all = refl
stays_there (cell ∷ cells) slot all =
    let parts = and_parts (is_staying cell) (list_all is_staying cells) all in
    by_equality cell.slot slot (λ b. may_stay (if b then cell.file else cell_at cells slot) ≡ true) (λ _. parts.0) (λ _. stays_there cells slot parts.1)

ended : (strands : List Strand) (at : Standing) (slot : ℕ) → IsEndOfClaims strands at → length at.places ≡ length strands → IsUneven strands at slot → ⊥
ended strands at slot end long holds = grind (arith, none_to_come, stays_there)

pub uneven_ends : (strands : List Strand) (at : Standing) (slot : ℕ) → has_slot at.cells (Some slot) ≡ true → length at.places ≡ length strands
    → IsUneven strands at slot → HasNoEnd strands at
unfolding HasNoEnd
uneven_ends strands at slot here long why = none_ends strands (Uneven strands slot)
    (λ x uneven end. ended strands x slot end uneven.long uneven.why)
    (λ x d step is_next may uneven. uneven_then strands slot x d step is_next may uneven) at (record { here = here; long = long; why = why })
