-- Places of a list where one was written, and their counts.
use Rattle.fx_plain.proofs.Words.{◌≡◌, ◌≢◌, ℕ, zero, suc, replicate, ◌<◌, Bool, true, false, List, length, refl, sym, ap, ◌∙◌, slice_index_or}
use Rattle.fx_plain.proofs.Words.{slice_set, subst, ◌==◌, if◌then◌else◌, inl, inr, get_or-set_same, get_or-set_other, cases_lt, get_or-eq_default}
use Rattle.fx_plain.proofs.Words.{changed_at, IsSome, Option, Some, None, Closed, Contents, IsTable, state_of, slot_at, node_at, file_at}
use Rattle.fx_plain.proofs.Words.{leaving, removed_at, is_fresh, is_leaving, is_retired, identity_in, Fresh, At, Leaving, Retired, Gone, Node, ◌≤◌}
use Rattle.fx_plain.proofs.Words.{arith, File, ◌+◌, eq-eqb, ne_eqb}

-- either two numbers are equal, and the test says so, or they are not
pub by_equality : (q k : ℕ) (P : Bool → Type 0) → (q ≡ k → P true) → (q ≢ k → P false) → P (q == k)
by_equality q k P same other = grind arith

module _ {X Y : Type 0} (g : ℕ → X → Y) (xs : List X) {k : ℕ} (v d : X) (inside : k < length xs) where
  -- a read of the list yields the new value at the place that was written
  pub written : (λ q. g q (slice_index_or (slice_set xs k v) q d)) ≡ changed_at (λ p. g p (slice_index_or xs p d)) k (g k v)
  written = grind (arith, get_or-set_same, get_or-set_other)

module _ {Y : Type 0} (f : ℕ → Y) (k : ℕ) where
  -- the place that was written, and each other one
  pub changed_here : (v : Y) (q : ℕ) → q ≡ k → changed_at f k v q ≡ v
  changed_here v q same = rw (eq-eqb q k same)

  pub changed_else : (v : Y) (q : ℕ) → q ≢ k → changed_at f k v q ≡ f q
  changed_else v q other = rw (ne_eqb q k other)

  -- to write the same value again changes nothing
  pub unchanged : (v : Y) → v ≡ f k → changed_at f k v ≡ f
  unchanged v is = λ i q. by_equality q k (λ b. (if b then v else f q) ≡ f q) (λ same. is ∙ ap f (sym same)) (λ other. refl) i

-- a place that does not read as the default is inside
pub inside_of : {X : Type 0} (xs : List X) (k : ℕ) (d : X) → slice_index_or xs k d ≢ d → k < length xs
inside_of xs k d differs = elim (cases_lt k (length xs)) [ inl lt ↦ lt | inr le ↦ absurd (differs (get_or-eq_default xs d le)) ]

-- a property of the written element, and of each other one as it was, holds for each element
pub each_set : {X : Type 0} (P : ℕ → X → Type 0) (xs : List X) (k : ℕ) (v d : X) → k < length xs → P k v
    → (m : ℕ) → (m ≢ k → P m (slice_index_or xs m d)) → P m (slice_index_or (slice_set xs k v) m d)
each_set P xs k v d inside here m others = grind (arith, get_or-set_same, get_or-set_other)

-- each element of a list of equal values, and each read past its end
pub read_default : {X : Type 0} (n i : ℕ) (d : X) → slice_index_or (replicate n d) i d ≡ d
read_default zero i d = refl
read_default (suc n) zero d = refl
read_default (suc n) (suc i) d = read_default n i d

-- Reads of a table, after one of its lists was written at one place.
-- a node that isn't gone is one of the table's
pub inside_of-At : (nodes : List Node) (n : ℕ) {slot : ℕ} {file : Closed} → node_at nodes n ≡ At slot file → n < length nodes
inside_of-At nodes n is = inside_of nodes n Gone (λ (gone : node_at nodes n ≡ Gone). cc)

pub inside_told : (told : Node → Bool) (nodes : List Node) (n : ℕ) → told Gone ≡ false → told (node_at nodes n) ≡ true → n < length nodes
inside_told told nodes n none is = grind (arith, inside_of)

-- a node has a file, at a slot or removed
pub has_file-At : (nodes : List Node) (n : ℕ) {slot : ℕ} {file : Closed} → node_at nodes n ≡ At slot file → IsSome (identity_in (node_at nodes n))
has_file-At nodes n is = subst (λ (node : Node). IsSome (identity_in node)) (sym is) refl

-- a node, by the results of its tests
pub fresh_is : (node : Node) → is_fresh node ≡ true → node ≡ Fresh
fresh_is node e = grind arith

pub leaving_is : (node : Node) → is_leaving node ≡ true → (file : Closed) × (node ≡ Leaving file)
leaving_is node e = grind arith

pub retired_is : (node : Node) → is_retired node ≡ true → (file : Closed) × (node ≡ Retired file)
retired_is node e = grind arith

-- no slot names the number of a node that isn't at a slot
abbrev pub IsOff : Node → Type 0
IsOff node = (slot : ℕ) (file : Closed) → node ≢ At slot file

-- a file stays where its node does, as where a node that isn't at a slot is written
pub file_same : (old new : List Node) (x : Option ℕ) → ((m : ℕ) → x ≡ Some m → node_at new m ≡ node_at old m) → file_at new x ≡ file_at old x
file_same old new x same = grind arith

pub same_file : {c : Contents} (n : ℕ) (v : Node) → IsTable c → IsOff (node_at c.nodes n) → (slot : ℕ)
    → file_at (slice_set c.nodes n v) (slot_at c.slots slot) ≡ file_at c.nodes (slot_at c.slots slot)
same_file {c} n v t off slot = grind (arith, get_or-set_other)

pub state_of-holds : (c : Contents) {n : ℕ} (h : ℕ) → n < length c.holds
    → state_of (record c { holds = slice_set c.holds n h }) ≡ record (state_of c) { holds = changed_at (state_of c).holds n h }
state_of-holds c h inside = λ i. record (state_of c) { holds = written (λ q x. x) c.holds h 0 inside i }

pub state_of-nodes : {c : Contents} {n : ℕ} (v : Node) → IsTable c → n < length c.nodes → IsOff (node_at c.nodes n)
    → state_of (record c { nodes = slice_set c.nodes n v })
    ≡ record (state_of c) { removed = changed_at (state_of c).removed n (removed_at n v); fresh = changed_at (state_of c).fresh n (is_fresh v) }
state_of-nodes {c} {n} v t inside off = λ i. record (state_of c) {
  at = λ slot. same_file n v t off slot i;
  removed = written removed_at c.nodes v Gone inside i;
  fresh = written (λ q x. is_fresh x) c.nodes v Gone inside i;
}

pub leaving-nodes : (c : Contents) {n : ℕ} (v : Node) → n < length c.nodes
    → leaving (record c { nodes = slice_set c.nodes n v }) ≡ changed_at (leaving c) n (is_leaving v)
leaving-nodes c v inside = written (λ q x. is_leaving x) c.nodes v Gone inside

-- an empty slot names no number
none_named : {c : Contents} (slot : ℕ) → IsTable c → (x : Option ℕ) → slot_at c.slots slot ≡ x → file_at c.nodes x ≡ None → x ≡ None
none_named slot t x is empty = grind arith

pub unnamed : {c : Contents} (slot : ℕ) → IsTable c → (state_of c).at slot ≡ None → slot_at c.slots slot ≡ None
unnamed {c} slot t empty = none_named slot t (slot_at c.slots slot) refl empty

-- The test for a file's number, as a count, and sums of a function over the numbers below a bound.

-- 1 for a file of the number, otherwise 0
abbrev pub named : ℕ → Option File → ℕ
named n None = 0
named n (Some f) = if f.number == n then 1 else 0

pub named_same : (f : File) (n : ℕ) → f.number ≡ n → named n (Some f) ≡ 1
named_same f n is = grind arith

-- Sums of a function over the numbers below a bound.
abbrev pub sum_below : (ℕ → ℕ) → ℕ → ℕ
sum_below f zero = 0
sum_below f (suc n) = f n + sum_below f n

module _ (f g : ℕ → ℕ) {q : ℕ} (off : (k : ℕ) → k ≢ q → g k ≡ f k) where
  -- a change at or above the bound changes nothing
  pub same_below : (n : ℕ) → n ≤ q → sum_below g n ≡ sum_below f n
  same_below zero le = refl
  same_below (suc n) le = grind (arith, same_below n)

  -- a change below the bound shows in the sum
  pub changed_below : (n : ℕ) → q < n → sum_below g n + f q ≡ sum_below f n + g q
  changed_below zero lt = absurd (omega arith)
  changed_below (suc n) lt = grind (arith, by_equality, same_below, changed_below n)

module _ (f : ℕ → ℕ) where
  pub sum_grows : (n q : ℕ) → n ≤ q → sum_below f n ≤ sum_below f q
  sum_grows n zero le = let e : n ≡ 0 = omega arith in rw e (omega arith)
  sum_grows n (suc q) le = elim (cases_lt q n) [
    | inl lt ↦ let e : n ≡ suc q = omega arith in rw e (omega arith)
    | inr ge ↦ let rest = sum_grows n q ge in omega arith
  ]

  pub sum_zero : (n : ℕ) → ((k : ℕ) → k < n → f k ≡ 0) → sum_below f n ≡ 0
  sum_zero zero none_there = refl
  sum_zero (suc n) none_there = grind (arith, sum_zero n)

  -- if at most one term isn't 0, and it is 1, so is the sum
  pub sum_one : (n : ℕ) → ((k : ℕ) → f k ≤ 1) → ((j k : ℕ) → j < n → k < n → 0 < f j → 0 < f k → j ≡ k) → sum_below f n ≤ 1
  sum_one zero small single = omega arith
  sum_one (suc n) small single = grind (arith, cases_lt, sum_zero, sum_one n small)

  -- a sum that is not 0 has a term that is not
  pub term_found : (n : ℕ) → 0 < sum_below f n → (k : ℕ) × (k < n) × (0 < f k)
  term_found zero some_there = absurd (omega arith)
  term_found (suc n) some_there = elim (cases_lt 0 (f n)) [
    | inl here ↦ (n, omega arith, here)
    | inr no_term ↦ let (k, lt, there) = term_found n (omega arith) in (k, omega arith, there)
  ]
