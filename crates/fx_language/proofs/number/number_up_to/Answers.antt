use Rattle.std.proofs.Common.{◌≡◌, true, None, ℕ, ◌+◌, ◌-◌, ◌*◌, ◌<◌, ◌≤◌, nat_le, List, length, get_or, take, sym, ◌∙◌, arith}
use Rattle.std.specs.Prelude.{◌&&◌}
use Rattle.std.proofs.lemmas.Bool.{and_from, and_parts, false_from_ne_true, leb-true}
use Rattle.std.proofs.lemmas.Int.Digits.{digits_value_more}
use Rattle.std.proofs.lemmas.List.Folds.{list_all_more}
use Rattle.std.proofs.lemmas.Str.{digit_value_digit}
use Rattle.std.proofs.lemmas.Str.Parse.{digits_value-take-le}
use Rattle.std.specs.Str.Parse.{digits_value}
use Rattle.fx_language.specs.Words.{is_digit, is_decimal, number_up_to}
use Rattle.fx_language.proofs.number.number_up_to.Goals as goal

-- the number that digits write, and one digit more
value_more : (word : List ℕ) (i n d : ℕ) → i < length word → is_digit (get_or word i 0) ≡ true → d ≡ get_or word i 0 - 48
    → n ≡ digits_value 10 (take i word) → n * 10 + d ≡ digits_value 10 (take (i + 1) word)
value_more word i n d inside digit is before =
    let c : ℕ = get_or word i 0 in
    let both = and_parts (nat_le 48 c) (nat_le c 57) digit in
    let low = leb-true 48 c both.0 in
    let value = digit_value_digit c (low, leb-true c 57 both.1) in
    omega (arith, digits_value_more 10 word i inside)

-- a word whose first digits are too large a number isn't a number
too_large : (largest : ℕ) (word : List ℕ) (i n : ℕ) → n ≡ digits_value 10 (take i word) → largest < n → None ≡ number_up_to largest word
too_large largest word i n is large =
    let less : digits_value 10 (take i word) ≤ digits_value 10 word = digits_value-take-le 10 word i (omega arith) in
    rw (false_from_ne_true (is_decimal word && nat_le (digits_value 10 word) largest)
    (λ holds. let small = leb-true _ _ (and_parts (is_decimal word) _ holds).1 in absurd (omega arith)))

pub returns-then-n-largest : goal.returns-then-n-largest
returns-then-n-largest c =
    let i = c.loop-digit.digit-index in
    let digit = sym c.is_digit.ensures ∙ c.if-not-is_digit.false in
    too_large c.args.largest c.args.word.now (i + 1) (c.loop-digit.n * 10 + c.from.result)
    (value_more c.args.word.now i c.loop-digit.n c.from.result c.loop-digit-test.true digit c.from.ensures c.loop-digit.invariant.value)
    c.if-n-largest.true

pub loop-digit-preserved : goal.loop-digit-preserved
loop-digit-preserved c =
    let i = c.loop-digit.digit-index in
    let digit = sym c.is_digit.ensures ∙ c.if-not-is_digit.false in
    record {
      digits = list_all_more is_digit c.args.word.now i 0 c.loop-digit-test.true ∙ and_from _ _ c.loop-digit.invariant.digits digit;
      value = value_more c.args.word.now i c.loop-digit.n c.from.result c.loop-digit-test.true digit c.from.ensures c.loop-digit.invariant.value;
      small = omega arith;
    }
