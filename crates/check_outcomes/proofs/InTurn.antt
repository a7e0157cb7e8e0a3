-- Orders that can be made in turn, one part and one chain after another.
use Rattle.check_outcomes.proofs.{◌≡◌, ℕ, ◌≤◌, suc, List, [], ◌∷◌, ⊎_elim, arith, All, All-cons, All-head, All-nil, All-tail, Table, PermitsAll}
use Rattle.check_outcomes.proofs.{table_with, accesses_of, accesses_of_chain, ◌⊎◌, inl, inr, ◌<◌, ◌==◌, Bool, true, false, ◌++◌, filter, cond, refl}
use Rattle.check_outcomes.proofs.{sym, ap, ◌∙◌, Option, cases_lt, false≢true, append_assoc, file_removed_by, files_removed_in, Closed, IsPermutation}
use Rattle.check_outcomes.proofs.{IsPermutation-refl, IsPermutation-cons, IsPermutation-sym, IsPermutation-trans, IsPermutation-middle}
use Rattle.check_outcomes.proofs.{option_to_list, Access, ChainAccess, not_own, of_chain, own_first, cases_eq, Looks, ne_eqb, Identity, HasTurn}
use Rattle.check_outcomes.proofs.{Parts, Rest, StateView, are_reads, All-permutation, IsPermutation-append_comm, IsPermutation-append_left}
use Rattle.check_outcomes.proofs.{IsPermutation-append_right, AreApart, ComesTo, Leaves, first_of, in_front, looks_swapped, swapped, table, IsLook}

-- what holds of each chain's accesses holds of the order's
pub of_each : (Keeps : ℕ → Access → Type 0) {chains : ℕ} (order : List ChainAccess) → All (λ x. (1 ≤ x.chain) × (x.chain ≤ chains)) order
    → ((q : ℕ) → 1 ≤ q → q ≤ chains → All (Keeps q) (accesses_of_chain q order)) → All (λ x. Keeps x.chain x.access) order
of_each Keeps [] within each = All-nil (λ (x : ChainAccess). Keeps x.chain x.access)
of_each Keeps {chains} (x ∷ order) within each =
    let (low, high) = within 0 x (omega arith) in
    All-cons (λ (y : ChainAccess). Keeps y.chain y.access) x order
    (All-head (Keeps x.chain) x.access _ (rw (own_first x order) at (each x.chain low high)))
    (of_each Keeps order (λ k d lt. within (suc k) d (omega arith)) (λ q low high. ⊎_elim
    (λ mine. All-tail (Keeps q) x.access _ (rw mine.1 at (each q low high))) (λ other. rw other.1 at (each q low high)) (of_chain x order q)))

module _ (chains : ℕ) where
  -- an order goes on from a table
  pub record OrderGoesOn (table : Table) (Each : ℕ → List Access → Type 0) (order : List ChainAccess) : Type 0 where
    pub permitted : PermitsAll table (accesses_of order)
    pub within : All (λ x. (1 ≤ x.chain) × (x.chain ≤ chains)) order
    pub each : (chain : ℕ) → 1 ≤ chain → chain ≤ chains → Each chain (accesses_of_chain chain order)

  module _ {table : Table} {Each : ℕ → List Access → Type 0} {x : ChainAccess} {order : List ChainAccess}
      (comes : OrderGoesOn table Each (x ∷ order)) where
    pub first_within : (1 ≤ x.chain) × (x.chain ≤ chains)
    first_within = comes.within 0 x (omega arith)

    -- the chain of its first access
    pub its_first : Each x.chain (x.access ∷ accesses_of_chain x.chain order)
    its_first = rw (own_first x order) at (comes.each x.chain first_within.0 first_within.1)

    -- after that access
    pub past_first : {next : Table} (Next : ℕ → List Access → Type 0) → next ≡ table_with table x.access
        → Next x.chain (accesses_of_chain x.chain order)
        → ((chain : ℕ) → 1 ≤ chain → (chain ≡ x.chain → ⊥) → Each chain (accesses_of_chain chain order) → Next chain (accesses_of_chain chain order))
        → OrderGoesOn next Next order
    past_first Next leads own others = record {
      permitted = rw leads comes.permitted.1;
      within = λ k d lt. comes.within (suc k) d (omega arith);
      each = λ chain low high. ⊎_elim (λ same. rw same own)
          (λ apart. others chain low apart (rw (not_own x order chain apart) at (comes.each chain low high))) (cases_eq chain x.chain);
    }

-- An order of a submission whose chains are in parts can be made in turn: part by part, and chain
-- after chain where all that is left of a part looks at slots.

abbrev is_look : Access → Bool
is_look (Looks slot found) = true
is_look access = false

cases_look : (access : Access) → IsLook access ⊎ (IsLook access → ⊥)
cases_look (Looks slot found) = inl (slot, found, refl)
cases_look access = inr (λ is. absurd (false≢true (ap is_look is.2)))

-- a chain without an access among these
pub none_of : {chain : ℕ} (l : List ChainAccess) → All (λ x. x.chain ≡ chain → ⊥) l → accesses_of_chain chain l ≡ []
none_of [] others = refl
none_of {chain} (x ∷ l) others = rw (ne_eqb x.chain chain (others 0 x (omega arith))) (none_of l (λ k d lt. others (suc k) d (omega arith)))

module _ (part : ℕ → ℕ) where
  -- each access of this part looks at a slot
  abbrev pub AreLooks : ℕ → List ChainAccess → Type 0
  AreLooks own l = All (λ x. part x.chain ≡ own → IsLook x.access) l

  -- no access of an earlier part follows, and where each one left of the part looks at a slot, none
  -- of an earlier chain of the part
  pub record IsNextInTurn (x : ChainAccess) (l : List ChainAccess) : Type 0 where
    pub part_first : All (λ y. part x.chain ≤ part y.chain) l
    pub chain_first : AreLooks (part x.chain) (x ∷ l) → All (λ y. part y.chain ≡ part x.chain → x.chain ≤ y.chain) l

  abbrev pub IsInTurn : List ChainAccess → Type 0
  IsInTurn [] = Unit {0}
  IsInTurn (x ∷ l) = IsNextInTurn x l × IsInTurn l

  cases_looks : (own : ℕ) (l : List ChainAccess) → AreLooks own l ⊎ (AreLooks own l → ⊥)
  cases_looks own [] = inl (All-nil (λ (x : ChainAccess). part x.chain ≡ own → IsLook x.access))
  cases_looks own (x ∷ l) = elim (cases_looks own l) [
    | inl looks ↦ elim (cases_eq (part x.chain) own) [
      | inl same ↦ elim (cases_look x.access) [
        | inl look ↦ inl (All-cons (λ y. part y.chain ≡ own → IsLook y.access) x l (λ _. look) looks)
        | inr other ↦ inr (λ all. other (all 0 x (omega arith) same))
      ]
      | inr other ↦ inl (All-cons (λ y. part y.chain ≡ own → IsLook y.access) x l (λ same. absurd (other same)) looks)
    ]
    | inr mixed ↦ inr (λ all. mixed (All-tail (λ y. part y.chain ≡ own → IsLook y.access) x l all))
  ]

  -- the accesses of a chain
  abbrev of : ℕ → List ChainAccess → List ChainAccess
  of chain l = filter (λ x. x.chain == chain) l

  flipped : (chain : ℕ) (x y : ChainAccess) (l : List ChainAccess) → (y.chain ≡ x.chain → ⊥) → of chain (x ∷ y ∷ l) ≡ of chain (y ∷ x ∷ l)
  flipped chain x y l apart = grind arith

  -- the files that the accesses take from their slots
  abbrev removed : List ChainAccess → List Closed
  removed l = files_removed_in (accesses_of l)

  abbrev taken : ChainAccess → List Closed
  taken x = option_to_list (file_removed_by x.access)

  module _ (size : ℕ) (range : ℕ × ℕ) (of_slot : ℕ → ℕ) where
    -- an access uses slots of its chain's part alone
    abbrev pub IsInPart : ChainAccess → Type 0
    IsInPart x = (slot : ℕ) → slot < size → ComesTo range x.access slot → of_slot slot ≡ part x.chain

    apart : (x y : ChainAccess) → part y.chain < part x.chain → IsInPart x → IsInPart y → AreApart size range x.access y.access
    apart x y less mine its slot few one other = let same = sym (mine slot few one) ∙ its slot few other in omega arith

    abbrev Leave : (ℕ → Option Identity) → Table → List ChainAccess → Type 0
    Leave at end l = Leaves size range (table size range at) (accesses_of l) end

    abbrev Replaces : List ChainAccess → List ChainAccess → Type 0
    Replaces l m = (at : ℕ → Option Identity) (end : Table) → All IsInPart l → Leave at end l → Leave at end m

    -- the same accesses in another order, with the same results
    pub record Exchanged (l m : List ChainAccess) : Type 0 where
      pub all : IsPermutation l m
      pub own : (chain : ℕ) → of chain l ≡ of chain m
      pub removed_same : IsPermutation (removed m) (removed l)
      pub leaves : Replaces l m

    unchanged : (l : List ChainAccess) → Exchanged l l
    unchanged l = record {
      all = IsPermutation-refl l;
      own = λ chain. refl;
      removed_same = IsPermutation-refl (removed l);
      leaves = λ at end all leaves. leaves;
    }

    both : {l m n : List ChainAccess} → Exchanged l m → Exchanged m n → Exchanged l n
    both {l} {m} {n} one two = record {
      all = IsPermutation-trans l m n one.all two.all;
      own = λ chain. one.own chain ∙ two.own chain;
      removed_same = IsPermutation-trans _ _ _ two.removed_same one.removed_same;
      leaves = λ at end all leaves. two.leaves at end (All-permutation IsInPart l m one.all all) (one.leaves at end all leaves);
    }

    behind : (x : ChainAccess) {l m : List ChainAccess} → Exchanged l m → Exchanged (x ∷ l) (x ∷ m)
    behind x {l} {m} one = record {
      all = IsPermutation-cons x l m one.all;
      own = λ chain. ap (λ z. cond (x.chain == chain) (x ∷ z) z) (one.own chain);
      removed_same = IsPermutation-append_right (taken x) (removed m) (removed l) one.removed_same;
      leaves = λ at end all leaves.
          let (may, on) = first_of size range leaves in
          in_front size range x.access may (one.leaves _ end (All-tail IsInPart x l all) on);
    }

    exchange : {x y : ChainAccess} (l : List ChainAccess) → (y.chain ≡ x.chain → ⊥) → Replaces (x ∷ y ∷ l) (y ∷ x ∷ l)
        → Exchanged (x ∷ y ∷ l) (y ∷ x ∷ l)
    exchange {x} {y} l others leaves = record {
      all = IsPermutation-middle (x ∷ []) y l;
      own = λ chain. flipped chain x y l others;
      removed_same = simp append_assoc at
          (IsPermutation-append_left (removed l) (taken y ++ taken x) (taken x ++ taken y) (IsPermutation-append_comm (taken y) (taken x)));
      leaves = leaves;
    }

    -- accesses of different parts
    of_parts : (x y : ChainAccess) (l : List ChainAccess) → part y.chain < part x.chain → Exchanged (x ∷ y ∷ l) (y ∷ x ∷ l)
    of_parts x y l less = exchange l (λ same. let parts = ap part same in omega arith) (λ at end all leaves.
        swapped size range x.access y.access (apart x y less (all 0 x (omega arith)) (all 1 y (omega arith))) leaves)

    -- looks
    of_looks : (x y : ChainAccess) (l : List ChainAccess) → y.chain < x.chain → IsLook x.access → IsLook y.access
        → Exchanged (x ∷ y ∷ l) (y ∷ x ∷ l)
    of_looks x y l less (slot, found, mine) (other, there, its) = exchange l (λ same. omega arith) (λ at end all leaves.
        rw (mine, its) (looks_swapped size range slot other found there (rw (mine, its) at leaves)))

    -- an order that is made in turn, with these accesses
    pub record HasTurns (l : List ChainAccess) : Type 0 where
      pub order : List ChainAccess
      pub by : IsInTurn order
      pub is : Exchanged l order

    -- the first access changes places with the second one
    passes : (x y : ChainAccess) (l : List ChainAccess) → IsNextInTurn y l → part y.chain ≤ part x.chain
        → (part x.chain ≡ part y.chain → y.chain ≤ x.chain) → Exchanged (x ∷ y ∷ l) (y ∷ x ∷ l) → HasTurns (x ∷ l) → HasTurns (x ∷ y ∷ l)
    passes x y l next low first one turns =
        let m = turns.order in
        let all = turns.is.all in record {
          order = y ∷ m;
          by = (
            record {
              part_first = All-permutation (λ z. part y.chain ≤ part z.chain) (x ∷ l) m all
                  (All-cons (λ z. part y.chain ≤ part z.chain) x l low next.part_first);
              chain_first = λ looks.
                  let Its : ChainAccess → Type 0 = λ z. part z.chain ≡ part y.chain → IsLook z.access in
                  let old = All-permutation Its m (x ∷ l) (IsPermutation-sym (x ∷ l) m all) (All-tail Its y m looks) in
                  let later = next.chain_first (All-cons Its y l (looks 0 y (omega arith)) (All-tail Its x l old)) in
                  All-permutation (λ z. part z.chain ≡ part y.chain → y.chain ≤ z.chain) (x ∷ l) m all
                  (All-cons (λ z. part z.chain ≡ part y.chain → y.chain ≤ z.chain) x l first later);
            },
            turns.by,
          );
          is = both one (behind y turns.is);
        }

    -- or stays the first one
    stays : (x y : ChainAccess) (l : List ChainAccess) → IsInTurn (y ∷ l) → part x.chain ≤ part y.chain
        → (AreLooks (part x.chain) (x ∷ y ∷ l) → part y.chain ≡ part x.chain → x.chain ≤ y.chain) → HasTurns (x ∷ y ∷ l)
    stays x y l by low first = record {
      order = x ∷ y ∷ l;
      by = (
        record {
          part_first = All-cons (λ z. part x.chain ≤ part z.chain) y l low (λ k d lt. let more = by.0.part_first k d lt in omega arith);
          chain_first = λ looks. All-cons (λ z. part z.chain ≡ part x.chain → x.chain ≤ z.chain) y l (first looks) (λ k d lt same.
              let more = by.0.part_first k d lt in
              let its : part y.chain ≡ part x.chain = omega arith in
              let rest = All-tail (λ z. part z.chain ≡ part x.chain → IsLook z.access) x (y ∷ l) looks in
              let later = by.0.chain_first (rw its rest) k d lt (same ∙ sym its) in
              let own = first looks its in
              omega arith);
        },
        by,
      );
      is = unchanged (x ∷ y ∷ l);
    }

    placed : (x : ChainAccess) (l : List ChainAccess) → IsInTurn l → HasTurns (x ∷ l)
    placed x [] by = record {
      order = x ∷ [];
      by = (
        record {
          part_first = All-nil (λ (y : ChainAccess). part x.chain ≤ part y.chain);
          chain_first = λ _. All-nil (λ (y : ChainAccess). part y.chain ≡ part x.chain → x.chain ≤ y.chain);
        },
        tt,
      );
      is = unchanged (x ∷ []);
    }
    placed x (y ∷ l) by = elim (cases_lt (part y.chain) (part x.chain)) [
      | inl less ↦ passes x y l by.0 (omega arith) (λ same. absurd (omega arith)) (of_parts x y l less) (placed x l by.1)
      | inr low ↦ elim (cases_lt y.chain x.chain) [
        | inl earlier ↦ elim (cases_eq (part y.chain) (part x.chain)) [
          | inl same ↦ elim (cases_looks (part x.chain) (x ∷ y ∷ l)) [
            | inl looks ↦ passes x y l by.0 (omega arith) (λ _. omega arith)
                (of_looks x y l earlier (looks 0 x (omega arith) refl) (looks 1 y (omega arith) same)) (placed x l by.1)
            | inr mixed ↦ stays x y l by low (λ looks. absurd (mixed looks))
          ]
          | inr other ↦ stays x y l by low (λ _ same. absurd (other same))
        ]
        | inr not ↦ stays x y l by low (λ _ _. not)
      ]
    ]

    pub in_turn : (l : List ChainAccess) → HasTurns l
    in_turn [] = record { order = []; by = tt; is = unchanged [] }
    in_turn (x ∷ l) =
        let rest = in_turn l in
        let turns = placed x rest.order rest.by in
        record { order = turns.order; by = turns.by; is = both (behind x rest.is) turns.is }

-- In an order that is made in turn, the chain of the first access has its turn.

pub has_turn : (idle : Rest → Bool) (parts : Parts) (state : StateView) {chains : ℕ} (x : ChainAccess) (order : List ChainAccess)
    → All (λ y. (1 ≤ y.chain) × (y.chain ≤ chains)) (x ∷ order)
    → ((chain : ℕ) → 1 ≤ chain → chain ≤ chains → accesses_of_chain chain (x ∷ order) ≡ [] → idle (state.rests chain) ≡ true)
    → ((chain : ℕ) → 1 ≤ chain → chain ≤ chains → are_reads (state.rests chain).requests ≡ true
    → All IsLook (accesses_of_chain chain (x ∷ order)))
    → IsInTurn parts.of_chain (x ∷ order) → HasTurn idle parts chains state x.chain
has_turn idle parts state {chains} x order within over looks by =
    let part = parts.of_chain in record {
      part = λ other low high less. over other low high (none_of (x ∷ order)
          (All-cons (λ y. y.chain ≡ other → ⊥) x order (λ same. let parts = ap part same in omega arith)
          (λ k d lt same. let parts = ap part same in let more = by.0.part_first k d lt in omega arith)));
      reader = λ alone other low less mine.
          let high = (within 0 x (omega arith)).1 in
          let all = of_each (λ q a. part q ≡ part x.chain → IsLook a) (x ∷ order) within
          (λ q from to k a lt same. looks q from to (alone q from to same) k a lt) in
          over other low (omega arith) (none_of (x ∷ order) (All-cons (λ y. y.chain ≡ other → ⊥) x order (λ same. omega arith)
          (λ k d lt same. let more = by.0.chain_first all k d lt (ap part same ∙ mine) in omega arith)));
    }
