-- Passes in seats: as they begin, move and come back.
use Rattle.fx_table.proofs.Words.{◌≡◌, ℕ, Bool, false, State, state_of, Opening, ◌≢◌, List, [], ◌∷◌, ◌++◌, map, length, reverse, sym, refl, ap, ◌∙◌}
use Rattle.fx_table.proofs.Words.{subst, Contains, sum_by, reverse-append, some, get_elem?, All, zero, suc, ◌+◌, set, take, ◌⊎◌, inl, inr, ⊎_elim}
use Rattle.fx_table.proofs.Words.{Contains-append_left, Contains-append_right, Contains-append_cases, sum_by-append, some-injective, some-ne-none}
use Rattle.fx_table.proofs.Words.{arith, drop, opening, numbers_for, start_of, is_fresh_at_first, flat_map, All-contains, Contains-push, common_steps}
use Rattle.fx_table.proofs.Words.{nil_from_length, take-append-drop, opens_inside, opening_is_start}
use Rattle.fx_plain.specs.Laws.{IsStart}
use Rattle.fx_plain.specs.Reopening.{IsTableAtRest}
use Rattle.fx_table.proofs.SumLemmas.{contains_none, contains_head, contains_tail, sum_map, sum_only, sum_reverse, sum_two, sum_set}

-- a table that doesn't last has fresh numbers up to the last chain's last
pub start_is : (o : Opening) → o.lasts ≡ false → start_of o ≡ opening (state_of o.contents) (numbers_for o.chains)
start_is o ends = grind arith

starts : (st : State) (numbers : ℕ) (lasts : Bool) → IsStart (record (opening st numbers) { fresh = is_fresh_at_first lasts st.size numbers })
starts st numbers lasts = grind (arith, opening_is_start, common_steps)

-- each table begins at rest
pub begins_at_rest : (o : Opening) → IsTableAtRest (start_of o)
begins_at_rest o = grind (arith, common_steps, starts, opens_inside)

-- All passes in one seat, which come back one after another.

-- a property of all elements holds for the last one
pub last_of : {X : Type 0} (P : X → Type 0) (xs ys : List X) (x : X) → xs ≡ ys ++ x ∷ [] → All P xs → P x
last_of {X} P xs ys x split all = All-contains P xs x all (subst (λ (l : List X). Contains l x) (sym split) (Contains-push ys x))

module _ {P L : Type 0} (logs : P → List L) where
  -- the first pass, and the others after it
  pub gathered : (ps others : List P) (first : P) (its all : List L) → ps ≡ others ++ first ∷ [] → its ≡ logs first
      → all ≡ its ++ flat_map logs (reverse others) → all ≡ flat_map logs (reverse ps)
  gathered ps others first its all split is joined = rw (split, reverse-append, ← is) joined

  -- if each pass has one log
  pub logs_are : (log : P → L) (ps : List P) → ((p : P) → Contains ps p → logs p ≡ log p ∷ []) → flat_map logs ps ≡ map log ps
  logs_are log [] each = refl
  logs_are log (p ∷ ps) each = λ i. each p (contains_head p ps) i ++ logs_are log ps (λ q h. each q (contains_tail p ps q h)) i

  -- the sum over all of them
  pub sum_gathered : (log : P → L) (f : L → ℕ) (ps : List P) (all : List L) → all ≡ map log (reverse ps) → sum_by f all ≡ sum_by (λ p. f (log p)) ps
  sum_gathered log f ps all is = ap (sum_by f) is ∙ (sum_map f log (reverse ps) ∙ sum_reverse (λ p. f (log p)) ps)

-- a seat that has all logs
module _ {V L : Type 0} (logs : V → List L) (views : List V) (seat : ℕ) (v : V) (at : get_elem? views seat ≡ some v)
    (all : length (logs v) ≡ sum_by (λ u. length (logs u)) views) where
  pub empty_else : (i : ℕ) (u : V) → i ≢ seat → get_elem? views i ≡ some u → logs u ≡ []
  empty_else i u other e = grind (arith, sum_two, nil_from_length)

  -- only this seat adds to a sum that seats without logs don't add to
  pub only_here : (f : V → ℕ) → ((u : V) → logs u ≡ [] → f u ≡ 0) → sum_by f views ≡ f v
  only_here f none = sum_only f views seat v at (λ i u other e. none u (empty_else i u other e))

  -- a property of this seat, and of each seat without logs, holds for each seat
  pub each_seat : (P : V → Type 0) → P v → ((i : ℕ) (u : V) → get_elem? views i ≡ some u → logs u ≡ [] → P u)
      → (i : ℕ) (u : V) → get_elem? views i ≡ some u → P u
  each_seat P here none i u e = grind (arith, empty_else)

-- Passes move between idle seats.

module _ {A : Type 0} where
  pub set_else : (l : List A) (i j : ℕ) (a : A) → j ≢ i → get_elem? (set l i a) j ≡ get_elem? l j
  set_else (x ∷ l) zero zero a n = absurd (n refl)
  set_else (x ∷ l) (suc i) (suc j) a n = set_else l i j a (λ e. n (ap suc e))
  set_else _ _ _ a n = refl

  pub set_here : (l : List A) (i : ℕ) (a b : A) → get_elem? (set l i a) i ≡ some b → a ≡ b
  set_here [] i a b e = absurd (some-ne-none b (sym e))
  set_here (x ∷ l) zero a b e = some-injective a b e
  set_here (x ∷ l) (suc i) a b e = set_here l i a b e

  at_longer : (l m : List A) (i : ℕ) (a : A) → get_elem? l i ≡ some a → get_elem? (l ++ m) i ≡ some a
  at_longer [] m i a e = absurd (some-ne-none a (sym e))
  at_longer (x ∷ l) m zero a e = e
  at_longer (x ∷ l) m (suc i) a e = at_longer l m i a e

  at_snoc : (l : List A) (a b : A) (j : ℕ) → get_elem? (l ++ a ∷ []) j ≡ some b → (get_elem? l j ≡ some b) ⊎ (a ≡ b)
  at_snoc [] a b zero e = inr (some-injective a b e)
  at_snoc [] a b (suc j) e = absurd (some-ne-none b (sym e))
  at_snoc (x ∷ l) a b zero e = inl e
  at_snoc (x ∷ l) a b (suc j) e = at_snoc l a b j e

module _ {V L S : Type 0} (logs : V → List L) (start : V → S) (k : S) (Idle : V → Type 0) where
  -- an idle seat, whose passes were in idle seats
  pub record IsAnew (views : List V) (u : V) : Type 0 where
    pub idle : Idle u
    pub its : (x : L) → Contains (logs u) x → (i : ℕ) × (w : V) × (get_elem? views i ≡ some w) × Idle w × Contains (logs w) x
    pub begun : (logs u ≡ []) ⊎ (start u ≡ k)

  -- seats that aren't idle stay, and the passes of all seats are the same
  pub record AreReseated (views views' : List V) : Type 0 where
    pub each : (j : ℕ) (u : V) → get_elem? views' j ≡ some u → IsAnew views u ⊎ (get_elem? views j ≡ some u)
    pub others : (j : ℕ) (u : V) → get_elem? views j ≡ some u → (Idle u → ⊥) → get_elem? views' j ≡ some u
    pub by_logs : (f : List L → ℕ) → f [] ≡ 0 → ((xs ys : List L) → f (xs ++ ys) ≡ f xs + f ys)
        → sum_by (λ u. f (logs u)) views' ≡ sum_by (λ u. f (logs u)) views
    pub by_work : (f : V → ℕ) → ((u : V) → Idle u → f u ≡ 0) → sum_by f views' ≡ sum_by f views

  -- a seat without passes comes after the others
  pub appended : (views : List V) (u : V) → Idle u → logs u ≡ [] → AreReseated views (views ++ u ∷ [])
  appended views u idle empty = grind (arith, contains_none, at_snoc, at_longer, sum_by-append)

  module _ (views : List V) (id : ℕ) (v : V) (at : get_elem? views id ≡ some v) (idle : Idle v) where
    -- a seat that isn't idle is another one
    other_than : (j : ℕ) (u : V) → get_elem? views j ≡ some u → (Idle u → ⊥) → j ≢ id
    other_than j u e busy same = let is : v ≡ u = cc in busy (subst Idle is idle)

    set_cases : (a : V) (j : ℕ) (u : V) → IsAnew views a → get_elem? (set views id a) j ≡ some u → IsAnew views u ⊎ (get_elem? views j ≡ some u)
    set_cases a j u new e = grind (arith, set_here, set_else)

    -- a seat hands its first pass to a new seat
    module _ (cut : List L → V) (its_logs : (l : List L) → logs (cut l) ≡ l) (its_idle : (l : List L) → Idle (cut l))
        (its_start : (l : List L) → start (cut l) ≡ start v) (begun : (logs v ≡ []) ⊎ (start v ≡ k)) where
      abbrev rest : V
      rest = cut (drop 1 (logs v))

      abbrev first : V
      first = cut (take 1 (logs v))

      both : take 1 (logs v) ++ drop 1 (logs v) ≡ logs v
      both = take-append-drop 1 (logs v)

      part : (l : List L) → (logs v ≡ [] → l ≡ []) → ((x : L) → Contains l x → Contains (logs v) x) → IsAnew views (cut l)
      part l none inside = grind arith

      rest_part : IsAnew views rest
      rest_part = part (drop 1 (logs v)) (ap (drop 1)) (λ x h. rw both at (Contains-append_right (take 1 (logs v)) (drop 1 (logs v)) x h))

      first_part : IsAnew views first
      first_part = part (take 1 (logs v)) (ap (take 1)) (λ x h. rw both at (Contains-append_left (take 1 (logs v)) (drop 1 (logs v)) x h))

      sum_split : (g : V → ℕ) → g first + g rest ≡ g v → sum_by g (set views id rest ++ first ∷ []) ≡ sum_by g views
      sum_split g whole = omega (arith, sum_by-append g (set views id rest) (first ∷ []), sum_set g views id v rest at, whole)

      pub split : AreReseated views (set views id rest ++ first ∷ [])
      split = grind (arith, set_cases, rest_part, first_part, at_snoc, at_longer, set_else, other_than, sum_split, both)

    -- a seat takes in the passes of another
    module _ (other : ℕ) (w both spent : V) (apart : other ≢ id) (there : get_elem? (set views id both) other ≡ some w) (w_idle : Idle w)
        (both_idle : Idle both) (its_logs : logs both ≡ logs v ++ logs w) (begun : start both ≡ k)
        (spent_idle : Idle spent) (none_left : logs spent ≡ []) where
      w_at : get_elem? views other ≡ some w
      w_at = sym (set_else views id other both apart) ∙ there

      both_new : IsAnew views both
      both_new = record {
        idle = both_idle;
        its = λ x h. ⊎_elim (λ m. (id, v, at, idle, m)) (λ m. (other, w, w_at, w_idle, m))
            (Contains-append_cases (logs v) (logs w) x (rw its_logs at h));
        begun = inr begun;
      }

      sum_joined : (g : V → ℕ) → g both + g spent ≡ g v + g w → sum_by g (set (set views id both) other spent) ≡ sum_by g views
      sum_joined g whole = omega (arith, sum_set g views id v both at, sum_set g (set views id both) other w spent there, whole)

      pub joined : AreReseated views (set (set views id both) other spent)
      joined = grind (arith, set_here, both, set_cases, both_new, set_else, w_at, other_than, sum_joined)
