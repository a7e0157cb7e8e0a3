-- The first stocks of passes, one after another.
use Rattle.fx_lasting.proofs.{◌≡◌, ℕ, zero, suc, ◌+◌, ◌<◌, ◌≤◌, List, [], ◌∷◌, ◌++◌, map, length, set, refl, sym, ap, ◌∙◌, arith, length-append}
use Rattle.fx_lasting.proofs.{range_with_len, stock_of, stocks_back, slot_place, empty_word_of, LastingTable, first_stock, AreNamed, map-append}
use Rattle.fx_lasting.proofs.{stock_start, MOST_SLOTS, MOST_NODES, MOST_PASSES, MOST_INSTALLING, rules}
use Rattle.std.proofs.lemmas.Grind.{common_steps}

-- one number more in a row
pub row_more : (a n : ℕ) → range_with_len a (suc n) ≡ range_with_len a n ++ (a + n) ∷ []
row_more a zero = let e : a ≡ a + 0 = omega arith in ap (λ (m : ℕ). m ∷ []) e
row_more a (suc n) = grind (arith, row_more (a + 1) n)

-- a stock ends before the end of the nodes
pub stock_ends : (size passes installing pass start : ℕ) → start ≡ stock_start size passes pass → size ≤ MOST_SLOTS → 1 ≤ pass → pass ≤ installing
    → installing ≤ MOST_INSTALLING → passes ≤ MOST_PASSES → start + passes ≤ MOST_NODES
stock_ends size passes installing pass start is few low within some many = grind arith

pub length_back : (size passes installing p n : ℕ) → length (stocks_back size passes installing p n) ≡ n
length_back size passes installing p zero = refl
length_back size passes installing p (suc n) = grind (arith, length_back size passes installing (p + 1) n, common_steps, stock_of)

last_same : {A : Type 0} (xs ys : List A) (a b : A) → xs ++ a ∷ [] ≡ ys ++ b ∷ [] → (xs ≡ ys) × (a ≡ b)
last_same [] [] a b e = (refl, cc e)
last_same [] (y ∷ ys) a b e = absurd (let z = ap length e in let c = length-append ys (b ∷ []) in omega (arith, z, c))
last_same (x ∷ xs) [] a b e = absurd (let z = ap length e in let c = length-append xs (a ∷ []) in omega (arith, z, c))
last_same (x ∷ xs) (y ∷ ys) a b e = grind (arith, common_steps)

-- the stock of the next pass is taken
pub stock_taken : {V : Type 0} (items : V → List ℕ) (size passes installing p n : ℕ) (old new : List V) (s : V) → old ≡ new ++ s ∷ []
    → map items old ≡ stocks_back size passes installing p (suc n)
    → (map items new ≡ stocks_back size passes installing (p + 1) n) × (items s ≡ stock_of size passes installing p)
stock_taken items size passes installing p n old new s is all = last_same (map items new) (stocks_back size passes installing (p + 1) n) (items s)
    (stock_of size passes installing p) (sym (map-append items new (s ∷ [])) ∙ (ap (map items) (sym is) ∙ all))

-- it is that of the pass, as the rule names it
pub its_first : (t : LastingTable) (p : ℕ) → stock_of t.size t.passes t.installing p ≡ first_stock t.table.shared.key p
its_first t p = λ i. stock_of (t.same_size i) (t.key.0 i) (t.key.1 i) p

-- the word of one slot more is named
pub one_named : (n : ℕ) (old new : List ℕ) → AreNamed n old new → slot_place n < length old → AreNamed (n + 1) old (set new (slot_place n) (empty_word_of n))
one_named n old new so inside = search (rules, set)
