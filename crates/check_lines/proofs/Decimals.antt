-- Decimal numbers and results as they are printed.
use Rattle.check_lines.proofs.Words.{nat_tests, false, List, suc, ℕ, ◌≡◌, ◌++◌, ◌≤◌, ap, length, Some, not, arith, zero, refl, ◌∷◌, true, nat_le, ◌<◌}
use Rattle.check_lines.proofs.Words.{get_or, ◌==◌, ◌^◌, unwrap_or, append_assoc, ℤ, ◌||◌, codes, decimal, ◌&&◌, BeginsWithOneResult, IsResultInRange}
use Rattle.check_lines.proofs.Words.{is_without, is_digit, is_decimal, number_up_to, and_from, append_cancel_left, signed_decimal, list_all}
use Rattle.std.specs.Str.Parse.{digits_value}
use Rattle.std.proofs.lemmas.Fmt.{decimal_digit, decimal_nonempty, first_decimal, digits_decimal, digits_value-decimal, signed_decimal_injective}
use Rattle.std.proofs.lemmas.Str.Parse.{IsNumeralModel, numerals_by_value}
use Rattle.check_lines.proofs.Cuts.{cut_once, without_failing}
use Rattle.std.specs.Int.Signed.{mag}

own : IsNumeralModel (λ ds. list_all is_digit ds ≡ true) (digits_value 10)
own = grind (arith, numerals_by_value, and_from)

from_shape : {n first : ℕ} → 0 < n → (first ≡ 48 → n ≡ 1) → (n == 1 || (nat_le 2 n && not (first == 48))) ≡ true
from_shape some one = grind (arith, nat_tests)

-- only 0 begins with the digit 0
one_zero : (n : ℕ) → n < 2 ^ 64 → get_or (decimal n) 0 0 ≡ 48 → length (decimal n) ≡ 1
one_zero zero small is = ap length (decimal_digit 0 (omega arith))
one_zero (suc n) small is = let above = first_decimal (suc n) (omega arith) small in absurd (omega arith)

-- a printed number is decimal
decimal_is : {n : ℕ} → n < 2 ^ 64 → is_decimal (decimal n) ≡ true
decimal_is {n} small =
    and_from (list_all is_digit (decimal n)) _ (digits_decimal own n small) (from_shape (decimal_nonempty n small) (one_zero n small))

-- the number of its text
pub number_of : (largest n : ℕ) → largest < 2 ^ 64 → n ≤ largest → number_up_to largest (decimal n) ≡ Some n
number_of largest n small inside = grind (arith, and_from, decimal_is, digits_value-decimal own n (omega arith))

-- no number above the largest one
pub at_most : (largest : ℕ) (word : List ℕ) → unwrap_or (number_up_to largest word) 0 ≤ largest
at_most largest word = grind arith

pub number_is : {largest r : ℕ} {word : List ℕ} → r ≡ unwrap_or (number_up_to largest word) 0 → largest < 2 ^ 64 → (n : ℕ) → n ≤ largest
    → word ≡ decimal n → n ≡ r
number_is is small n inside same = grind (arith, number_of)

-- a byte that isn't a digit is in no number
pub decimal_without : (at n : ℕ) → is_digit at ≡ false → n < 2 ^ 64 → is_without at (decimal n) ≡ true
decimal_without at n none small = without_failing is_digit at none (decimal n) (digits_decimal own n small)

-- a result has no byte but digits and its sign
pub result_without : (at : ℕ) (res : ℤ) → is_digit at ≡ false → (45 == at) ≡ false → IsResultInRange res → is_without at (signed_decimal res) ≡ true
result_without at res none other fits = grind (arith, decimal_without, and_from)

-- The line of a result determines the result.

small : (res : ℤ) → IsResultInRange res → mag res < 2 ^ 63
small res fits = grind arith

pub one_result : BeginsWithOneResult
one_result word res other behind more fits fits_other same =
    let tails : codes " " ++ (signed_decimal res ++ (10 ∷ behind)) ≡ codes " " ++ (signed_decimal other ++ (10 ∷ more)) =
    append_cancel_left word _ _ (simp append_assoc at same) in
    grind (arith, signed_decimal_injective, cut_once 10 (signed_decimal res) (10 ∷ behind) (signed_decimal other) (10 ∷ more), result_without 10 res refl refl fits, result_without 10 other refl refl fits_other, small res fits, small other fits_other)
