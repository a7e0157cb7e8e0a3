use Rattle.std.proofs.Common.{◌≡◌, ℕ, ◌+◌, ◌<◌, ◌==◌, Bool, true, false, List, ◌∷◌, ◌++◌, length, get_or, take, drop, sym, ap, ◌∙◌, All}
use Rattle.std.proofs.Common.{take-append-drop, take_all, eq-eqb, arith}
use Rattle.std.specs.List.{slice_split}
use Rattle.std.proofs.lemmas.List.{drop_more, take_rest}
use Rattle.std.proofs.lemmas.List.Elements.{All-more}
use Rattle.std.proofs.lemmas.List.Splits.{slice_split_at, slice_split_none}
use Rattle.std.proofs.lemmas.Bool.Decides.{nat_tests}
use Rattle.fx_language.proofs.parts.first_part.Goals as goal

-- the first part ends at the first element that passes
slice_split_read : (p : ℕ → Bool) (xs : List ℕ) (i : ℕ) → i < length xs → p (get_or xs i 0) ≡ true → All (λ x. p x ≡ false) (take i xs)
    → slice_split p xs ≡ take i xs ∷ slice_split p (drop (i + 1) xs)
slice_split_read p xs i inside passes none =
    let parts : xs ≡ take i xs ++ get_or xs i 0 ∷ drop (i + 1) xs = sym (take-append-drop i xs)
    ∙ ap (λ zs. take i xs ++ zs) (drop_more xs i 0 inside) in
    ap (slice_split p) parts ∙ slice_split_at p (take i xs) (get_or xs i 0) (drop (i + 1) xs) none passes

pub returns-then-b-at : goal.returns-then-b-at
returns-then-b-at c =
    rw take_rest
    (slice_split_read (λ b. b == c.args.at) c.args.text.now c.loop-i.i c.loop-i-test.true (eq-eqb _ c.args.at c.if-b-at.true) c.loop-i.invariant)

pub loop-i-preserved : goal.loop-i-preserved
loop-i-preserved c =
    All-more (λ b. (b == c.args.at) ≡ false) c.args.text.now c.loop-i.i 0 c.loop-i-test.true c.loop-i.invariant (grind (arith, nat_tests))

pub returns : goal.returns
returns c = slice_split_none (λ b. b == c.args.at) c.args.text.now (rw (take_all _ _ c.loop-i-test.false) at c.loop-i.invariant)
