-- Counts over the numbers of passes, where one of them changes.
use Rattle.fx_lasting.proofs.Words.{◌≡◌, ◌≢◌, ℕ, zero, suc, ◌+◌, ◌<◌, ◌≤◌, Bool, true, false, eqb, sym, refl, ap, ◌∙◌, arith, dite, ℕ_discrete, cold_takes}
use Rattle.fx_lasting.proofs.Words.{changed_at, changed_here, changed_else, one_if, tally, owed, eq-eqb}

-- each pass counts for one at most
pub tally_few : (f : ℕ → Bool) (n : ℕ) → tally f n ≤ n
tally_few f zero = omega arith
tally_few f (suc n) = let a = tally_few f n in go (f (suc n)) a
  where
    go : (b : Bool) → tally f n ≤ n → tally f n + one_if b ≤ suc n
    go true a = omega arith
    go false a = omega arith

-- the same for each pass
pub tally_same : (f g : ℕ → Bool) (n : ℕ) → ((p : ℕ) → 0 < p → p ≤ n → f p ≡ g p) → tally f n ≡ tally g n
tally_same f g zero same = refl
tally_same f g (suc n) same = let a = tally_same f g n (λ p low high. same p low (omega arith)) in
    let b = ap one_if (same (suc n) (omega arith) (omega arith)) in omega arith

-- one pass counts otherwise
pub tally_one : (f g : ℕ → Bool) (n p : ℕ) → 0 < p → p ≤ n → ((q : ℕ) → q ≢ p → f q ≡ g q)
    → tally f n + one_if (g p) ≡ tally g n + one_if (f p)
tally_one f g zero p low high same = absurd (omega arith)
tally_one f g (suc n) p low high same = dite (ℕ_discrete p (suc n))
    (λ is. let a = tally_same f g n (λ q l h. same q (λ e. omega arith)) in
    let b = ap (λ (q : ℕ). one_if (f q)) is in let c = ap (λ (q : ℕ). one_if (g q)) is in omega arith)
    (λ other. let a = tally_one f g n p low (omega arith) same in let b = ap one_if (same (suc n) (λ e. other (sym e))) in omega arith)

pub tally_none : (n : ℕ) → tally (λ p. false) n ≡ 0
tally_none zero = refl
tally_none (suc n) = let a = tally_none n in omega arith

-- a pass that counts
pub tally_at : (f : ℕ → Bool) (n p : ℕ) → 0 < p → p ≤ n → f p ≡ true → 1 ≤ tally f n
tally_at f zero p low high is = absurd (omega arith)
tally_at f (suc n) p low high is = dite (ℕ_discrete p (suc n))
    (λ same. let b = ap one_if (sym (ap f same) ∙ is) in omega arith)
    (λ other. let a = tally_at f n p low (omega arith) is in omega arith)

-- not each pass counts, if one doesn't
pub tally_room : (f : ℕ → Bool) (n p : ℕ) → 0 < p → p ≤ n → f p ≡ false → tally f n + 1 ≤ n
tally_room f n p low high is = let a = tally_one (changed_at f p true) f n p low high (λ q other. changed_else f p true q other) in
    let b = tally_few (changed_at f p true) n in let c = ap one_if is in let d = ap one_if (changed_here f p true p refl) in omega arith

-- a debt of one pass becomes another one
pub owed_changed : (debt : ℕ → ℕ) (n p value : ℕ) → 0 < p → p ≤ n → (node : ℕ)
    → owed (changed_at debt p value) n node + one_if (eqb (debt p) (node + 1)) ≡ owed debt n node + one_if (eqb value (node + 1))
owed_changed debt n p value low high node =
    let a = tally_one (λ q. eqb (changed_at debt p value q) (node + 1)) (λ q. eqb (debt q) (node + 1)) n p low high
    (λ q other. ap (λ (d : ℕ). eqb d (node + 1)) (changed_else debt p value q other)) in
    let b = ap (λ (d : ℕ). one_if (eqb d (node + 1))) (changed_here debt p value p refl) in omega arith

-- who owes to a node
pub owed_at : (debt : ℕ → ℕ) (n p node : ℕ) → 0 < p → p ≤ n → debt p ≡ node + 1 → 1 ≤ owed debt n node
owed_at debt n p node low high is = tally_at (λ q. eqb (debt q) (node + 1)) n p low high (eq-eqb (debt p) (node + 1) is)

bit_true : (b : Bool) → one_if b ≡ 1 → b ≡ true
bit_true b is = grind arith

pub bit_few : (b : Bool) → one_if b ≤ 1
bit_few b = grind arith

-- a pass that counts, if any does
pub tally_found : (f : ℕ → Bool) (n : ℕ) → 1 ≤ tally f n → (p : ℕ) × (0 < p) × (p ≤ n) × (f p ≡ true)
tally_found f zero some = absurd (omega arith)
tally_found f (suc n) some = dite (ℕ_discrete (one_if (f (suc n))) 1) (λ is. (suc n, omega arith, omega arith, bit_true (f (suc n)) is))
    (λ not_so. let a = bit_few (f (suc n)) in let z = tally_found f n (omega (arith, some, not_so, a)) in
    (z.0, z.1, (let l = z.2 in omega arith), z.3))

-- who owes to a node, if anybody does
pub owed_found : (debt : ℕ → ℕ) (n node : ℕ) → 1 ≤ owed debt n node → (p : ℕ) × (0 < p) × (p ≤ n) × (debt p ≡ node + 1)
owed_found debt n node some = grind (arith, tally_found)

-- a cold slot leaves room in its word
pub few_cold : (passes : ℕ) → cold_takes passes ≤ 524288
few_cold passes = grind arith
