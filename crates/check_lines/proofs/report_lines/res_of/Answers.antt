use Rattle.check_lines.proofs.{suc, ◌∙◌, ◌≡◌, ap, sym, [], arith, refl, ◌∷◌, pos, decimal, negsuc, is_without, ints, cut_has, decimal_without}
use Rattle.check_lines.proofs.report_lines.res_of.Goals as goal

pub returns-in-Some-clause-parsed : goal.returns-in-Some-clause-parsed
returns-in-Some-clause-parsed c (pos n) fits same =
    let digits = c.in-Some.digits.now in
    absurd (cut_has 45 [] digits (ap (is_without 45) (sym c.in-Some.ensures.rest ∙ same) ∙ decimal_without 45 n refl (omega arith)))
returns-in-Some-clause-parsed c (negsuc n) fits same =
    let both : 45 ∷ c.in-Some.digits.now ≡ 45 ∷ decimal (suc n) = sym c.in-Some.ensures.rest ∙ same in
    let is : suc n ≡ c.number.result = c.number.ensures.parsed (suc n) (omega arith) (cc) in
    omega (arith, ints)

pub returns-clause-parsed : goal.returns-clause-parsed
returns-clause-parsed c (pos n) fits same =
    let is : n ≡ c.number-2.result = c.number-2.ensures.parsed n (omega arith) same in omega (arith, ints)
returns-clause-parsed c (negsuc n) fits same = absurd (c.in_default.ensures.none (decimal (suc n)) same)
