use Rattle.std.proofs.Common.{◌++◌, ap, sym, ◌∙◌, arith, string_bytes, List, ℕ}
use Rattle.std.proofs.lemmas.Fmt.{decimal_digit}
use Rattle.fx_print.proofs.digits.push_number.Goals as goal

pub returns-then-number-lt10 : goal.returns-then-number-lt10
returns-then-number-lt10 c =
    c.in_ok-push.ensures.bytes ∙ ap (λ (more : List ℕ). string_bytes c.args.text.now ++ more)
    (c.push.ensures.ascii (omega arith) ∙ sym (decimal_digit c.args.number (omega arith)))
