-- The bit of a pass in a word, before and after it is set.
use Rattle.table_range.proofs.Words.{◌≡◌, ℕ, ◌+◌, ◌*◌, ◌%◌, ◌^◌, ◌<◌, ap, ◌∙◌, subst, arith, ◌⊎◌, inl, inr, dite, ℕ_discrete, bit_at, bit_or, bit_of, HasQuestionOf}
use Rattle.std.proofs.lemmas.Nat.Bits.{bit_at_or, bit_at-lt, bit_at-pow_same, bit_at-pow_other, and_pow}
use Rattle.std.proofs.lemmas.Nat.{pow_below}
use lib.Bits.{bit_and, or_disjoint, or_lt}

module _ (own old : ℕ) where
  -- no bit is lost
  pub bit_stays : (pass : ℕ) → HasQuestionOf old pass → HasQuestionOf (bit_or old (2 ^ bit_of own)) pass
  bit_stays pass has = let a = bit_at_or old (2 ^ bit_of own) (bit_of pass) in let b = bit_at-lt (2 ^ bit_of own) (bit_of pass) in omega (arith, a, b, has)

  -- and at most that of the pass itself is new
  pub bit_was : (pass : ℕ) → HasQuestionOf (bit_or old (2 ^ bit_of own)) pass → HasQuestionOf old pass ⊎ (bit_of pass ≡ bit_of own)
  bit_was pass has = dite (ℕ_discrete (bit_of pass) (bit_of own)) (λ same. inr same)
      (λ apart. inl (let a = bit_at_or old (2 ^ bit_of own) (bit_of pass) in let b = bit_at-pow_other (bit_of own) (bit_of pass) apart in omega (arith, a, b, has)))

  -- the bit of the pass itself is set
  pub bit_now : HasQuestionOf (bit_or old (2 ^ bit_of own)) own
  bit_now = let a = bit_at_or old (2 ^ bit_of own) (bit_of own) in let b = bit_at-pow_same (bit_of own) in
      let c = bit_at-lt old (bit_of own) in omega (arith, a, b, c)

-- a bit that is clear is set by an addition
pub bit_added : (word bit : ℕ) → word < 2 ^ 64 → bit < 64 → (bit_at word bit ≡ 1 → ⊥) → (word + 2 ^ bit) % 2 ^ 64 ≡ bit_or word (2 ^ bit)
bit_added word bit fits low clear = let none : bit_at word bit ≡ 0 = omega (arith, bit_at-lt word bit, clear) in
    let apart : bit_and word (2 ^ bit) ≡ 0 = and_pow word bit ∙ (ap (λ (d : ℕ). d * 2 ^ bit) none ∙ omega arith) in let sum = or_disjoint word (2 ^ bit) apart in
    let small = or_lt 64 word (2 ^ bit) fits (pow_below bit 64 low) in omega (arith, sum, small)
