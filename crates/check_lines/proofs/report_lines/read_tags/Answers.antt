use Rattle.check_lines.proofs.{◌≡◌, ◌∙◌, ◌++◌, ◌∷◌, [], ℕ, List, sym, ap, arith, rules, codes, decimal, flat_map, line_of_tag, goes_on, next_line}
use Rattle.check_lines.proofs.{no_next, one_tag}
use Rattle.check_lines.proofs.report_lines.read_tags.Goals as goal

pub returns-in_default-rest_after : goal.returns-in_default-rest_after
returns-in_default-rest_after c =
    let line : c.as_bytes.result.now ≡ decimal c.number-tag.result ++ (10 ∷ []) = search rules in
    no_next c.loop-tail.invariant (λ y later behind ends fits same.
    let others : List ℕ = flat_map line_of_tag later ++ behind in
    c.in_default-rest_after.ensures.none others ((one_tag c.in-Some.ensures.rest c.cut.ensures c.number-tag.ensures.parsed y others fits same).1
    ∙ ap (λ (t : List ℕ). t ++ others) (sym line)))

pub loop-tail-preserved : goal.loop-tail-preserved
loop-tail-preserved c =
    let line : c.as_bytes.result.now ≡ decimal c.number-tag.result ++ (10 ∷ []) = search rules in
    let most = c.number-tag.ensures.most in
    rw c.in_ok-push-2.ensures.items (next_line c.loop-tail.invariant (omega arith)
    (c.in-Some.ensures.rest ∙ ap (λ (t : List ℕ). codes "tag " ++ t)
    (c.in-Some-rest_after.ensures.rest ∙ ap (λ (t : List ℕ). t ++ c.in-Some-rest_after.others.now) line))
    (goes_on (codes "tag ") c.in-Some.tail.now c.in-Some.ensures.rest)
    (λ y more fits same. (one_tag c.in-Some.ensures.rest c.cut.ensures c.number-tag.ensures.parsed y more fits same).0))

pub returns : goal.returns
returns c = no_next c.loop-tail.invariant (λ y later behind ends fits same. c.in_default.ensures.none _ same)
