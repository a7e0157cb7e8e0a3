-- The round of a retirement: the passes that it has visited, and those that it need not visit.
use Rattle.fx_lasting.proofs.{◌%◌, ◌≡◌, ◌≢◌, ℕ, ◌+◌, ◌-◌, ◌*◌, ◌/◌, ◌^◌, ◌<◌, ◌≤◌, ◌∙◌, ap, sym, refl, subst, arith, dite, dec_le, File, Sat, []}
use Rattle.fx_lasting.proofs.{Retiring, Runs, HasVisited, Round, round_at, round_from, round_to, IsPassed, IsIdleIn, list_place, bit_at, Skims, At}
use Rattle.fx_lasting.proofs.{Start, IsAtWork, shr-shr, bit_at-trailing_zeros, bit_at_above, bit_at-zero, w64, trailing_zeros, does_then, runs_goes}
use Rattle.fx_lasting.proofs.{placed_none}

-- the same pass retires the file
pub passed_by : (round : Round) {number other p : ℕ} → number ≡ other → IsPassed number round p → IsPassed other round p
passed_by round {p = p} same passed = subst (λ (n : ℕ). IsPassed n round p) same passed

-- another pass was visited, and charged or not
pub visited_more : {passes number node takes first words last pass : ℕ} (charges r : ℕ) {f : File} {m m' m'' : Sat} → pass ≤ passes → pass ≢ number
    → (h : HasVisited passes number node f takes first words last pass charges m m')
    → Runs m' [] (Retiring f node takes (round_at (round_to h.next words last) pass) (charges + r)) m'.0.glance m'.0.change 2 m''
    → HasVisited passes number node f takes first words last (pass + 1) (charges + r) m m''
visited_more {passes} {number} {node} {takes} {first} {words} {last} {pass} charges r inside other h did = let few = h.few in let near = h.near in record {
  next = pass + 1;
  near = omega arith;
  inside = omega (arith, inside);
  passed = λ p low high. absurd (omega (arith, low, high));
  most = h.most + 2;
  few = omega arith;
  fewer = λ low high. dite (dec_le (number + 1) h.next) (λ before. let e = h.fewer low (omega (arith, before)) in omega arith)
      (λ after. omega (arith, after, other, high));
  does = does_then h.does did;
}

-- the round goes past passes that it need not visit
pub goes_past : {passes number node takes first words last pass to charges : ℕ} {f : File} {m m' : Sat} → pass ≤ to
    → ((p : ℕ) → pass ≤ p → p < to → IsIdleIn (round_to pass words last) p)
    → HasVisited passes number node f takes first words last pass charges m m' → HasVisited passes number node f takes first words last to charges m m'
goes_past more idle h = grind arith

-- how many words of the list are loaded when that of this pass is
abbrev pub words_at : ℕ → ℕ
words_at pass = (pass - 1) / 64 + 1

-- a word of the list was loaded
pub loads_more : {passes number node takes first words last pass charges : ℕ} {f : File} {m m' m'' : Sat} {st : At} {found : ℕ} → pass ≡ 64 * words + 1
    → pass ≤ passes → st.word ≡ list_place pass → (h : HasVisited passes number node f takes first words last pass charges m m') → Skims st m' found m''
    → HasVisited passes number node f takes first (words_at pass) found pass charges m m''
loads_more {number = number} {node} {takes} {words = words} {last} {pass} {charges} {f} {m' = m'} {m'' = m''} {st = st} {found = found} at inside place h did =
    let few = h.few in let near = h.near in
    let next_is : 64 * (st.word - 6) + 1 ≡ pass = omega (arith, at, place) in
    let words_are : st.word - 5 ≡ words_at pass = omega (arith, at, place) in
    let round : round_from st.word found ≡ round_to pass (words_at pass) found = λ i. round_to (next_is i) (words_are i) found in record {
      next = pass;
      near = omega arith;
      inside = omega (arith, inside);
      passed = λ p low high. absurd (omega (arith, low, high));
      most = h.most + 1;
      few = omega (arith, at);
      fewer = λ low high. dite (dec_le (number + 1) h.next) (λ before. let e = h.fewer low (omega (arith, before)) in omega (arith, at))
          (λ after. omega (arith, after, high, at));
      does = does_then h.does (subst (λ (z : Round). Runs m' [] (Retiring f node takes z charges) m'.0.glance m'.0.change 1 m'') round
          (runs_goes (did.goes f node takes (round_to h.next words last) charges h.does.work)));
    }

-- the round so far, as one that begins here
pub from_here : {passes number node takes first words last pass charges : ℕ} {f : File} {m m' : Sat} {k : Start} {p : ℕ}
    → HasVisited passes number node f takes first words last pass charges m m' → IsAtWork k p m'
    → (begin : ℕ) × HasVisited passes number node f takes begin words last pass charges m' m'
from_here h h2 = grind (arith, placed_none)

-- the passes whose bits are clear in the last word that was loaded
pub idle_at : (next words word : ℕ) {first pass to : ℕ} → first ≡ 64 * words + 1 → first ≤ pass → to ≤ first + 64
    → ((i : ℕ) → pass - first ≤ i → i < to - first → bit_at word i ≡ 0) → (p : ℕ) → pass ≤ p → p < to
    → IsIdleIn (round_to next (words_at first) word) p
idle_at next words word h4 low high clear p from before = grind arith

-- The bits of a word from one on
module _ (word d : ℕ) (fits : word < 2 ^ 64) where
  abbrev rest : ℕ
  rest = word / 2 ^ d

  bit_on : (i : ℕ) → bit_at rest i ≡ bit_at word (d + i)
  bit_on i = ap (λ (z : ℕ). z % 2) (shr-shr word d i)

  -- its lowest bit that is set, and the clear ones before it
  pub lowest : 0 < rest → (d + trailing_zeros w64 rest < 64) × (bit_at word (d + trailing_zeros w64 rest) ≡ 1)
      × ((i : ℕ) → d ≤ i → i < d + trailing_zeros w64 rest → bit_at word i ≡ 0)
  lowest some = let small : rest < 2 ^ 64 = omega arith in let z = bit_at-trailing_zeros w64 rest some small in let t = trailing_zeros w64 rest in
      let set = sym (bit_on t) ∙ z.1 in (
        dite (dec_le (d + t + 1) 64) (λ l. omega (arith, l)) (λ g. absurd (let a = bit_at_above word 64 (d + t) fits (omega (arith, g)) in omega (arith, a, set))),
        set,
        λ i low high. let same : d + (i - d) ≡ i = omega (arith, low) in
            ap (bit_at word) (sym same) ∙ (sym (bit_on (i - d)) ∙ z.2 (i - d) (omega (arith, low, high))),
      )

  pub none_left : rest ≡ 0 → (i : ℕ) → d ≤ i → bit_at word i ≡ 0
  none_left none i low = let same : d + (i - d) ≡ i = omega (arith, low) in ap (bit_at word) (sym same)
      ∙ (sym (bit_on (i - d)) ∙ (ap (λ (z : ℕ). bit_at z (i - d)) none ∙ bit_at-zero (i - d)))

  -- the word that is left when that bit was passed
  pub shifted : (t : ℕ) → rest / 2 ^ t / 2 ≡ word / 2 ^ (d + t + 1)
  shifted t = let one : 2 ^ 1 ≡ 2 = refl in ap (λ (z : ℕ). z / 2) (shr-shr word d t) ∙ shr-shr word (d + t) 1
