-- The bits of the list, before and after a step.
use Rattle.fx_lasting.proofs.Words.{◌≡◌, ℕ, ◌<◌, ◌^◌, arith, ◌⊎◌, bit_or, bit_of, IsListedIn, list_place, Bool, true}
use Rattle.table_range.proofs.Bits.{bit_stays, bit_was}

-- a word of the list, which has a pass's bit, after a step of the pass `own`, which is listed now
-- or not: it is the same, or has one bit more
abbrev pub ListGoesOn : ℕ → Bool → ℕ → ℕ → ℕ → Type 0
ListGoesOn own listed pass old new = (new ≡ old) ⊎ ((list_place pass ≡ list_place own) × (new ≡ bit_or old (2 ^ bit_of own)) × (listed ≡ true))

-- no bit is lost
pub stays_listed : (own : ℕ) (listed : Bool) (pass : ℕ) {old new : ℕ} → ListGoesOn own listed pass old new → IsListedIn old pass → IsListedIn new pass
stays_listed own listed pass goes has = grind (arith, bit_stays)

-- and at most that of the pass itself is new
pub was_listed : (own : ℕ) (listed : Bool) (pass : ℕ) {old new : ℕ} → 0 < own → 0 < pass → ListGoesOn own listed pass old new → IsListedIn new pass
    → IsListedIn old pass ⊎ (pass ≡ own)
was_listed own listed pass low more goes has = grind (arith, bit_was)
