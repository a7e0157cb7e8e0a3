use Rattle.check_lines.proofs.{◌≡◌, ◌++◌, ◌∷◌, [], ℕ, List, sym, rules, codes, mark_text, flat_map, named_line, map-append, close_is, goes_on}
use Rattle.check_lines.proofs.{next_line, no_next, one_close, one_mark}
use Rattle.check_lines.proofs.report_lines.read_closed.Goals as goal

pub returns-in_default-rest_after : goal.returns-in_default-rest_after
returns-in_default-rest_after c =
    let head : c.as_bytes.result.now ≡ mark_text c.mark_of-mark.result ++ (32 ∷ []) = search rules in
    no_next c.loop-tail.invariant (λ y later behind ends fits same.
    c.in_default-rest_after.ensures.none _
    (one_mark c.in-Some.ensures.rest head c.mark_of-mark.ensures.parsed y (flat_map named_line later ++ behind) fits same).1)

pub returns-in_default-rest_after-2 : goal.returns-in_default-rest_after-2
returns-in_default-rest_after-2 c =
    let head : c.as_bytes.result.now ≡ mark_text c.mark_of-mark.result ++ (32 ∷ []) = search rules in
    no_next c.loop-tail.invariant (λ y later behind ends fits same.
    let others : List ℕ = flat_map named_line later ++ behind in
    c.in_default-rest_after-2.ensures.none others
    (sym (one_close c.in-Some.ensures.rest head c.mark_of-mark.ensures.parsed c.in-Some-rest_after.ensures.rest c.cut.ensures y others fits same).1))

pub loop-tail-preserved : goal.loop-tail-preserved
loop-tail-preserved c =
    let head : c.as_bytes.result.now ≡ mark_text c.mark_of-mark.result ++ (32 ∷ []) = search rules in
    let copied : c.in_ok-name.name.items ≡ c.cut.result.0.now = search rules in
    rw (c.in_ok-push-2.ensures.items, map-append, copied) (next_line c.loop-tail.invariant
    (record { mark = c.mark_of-mark.ensures.fits; name = c.cut.ensures.without })
    (close_is c.in-Some.ensures.rest head c.mark_of-mark.ensures.parsed c.in-Some-rest_after.ensures.rest c.cut.ensures c.in-Some-rest_after-2.ensures.rest)
    (goes_on (codes "closed ") c.in-Some.tail.now c.in-Some.ensures.rest)
    (λ y more fits same. (one_close c.in-Some.ensures.rest head c.mark_of-mark.ensures.parsed c.in-Some-rest_after.ensures.rest c.cut.ensures y more fits
    same).0))

pub returns : goal.returns
returns c = no_next c.loop-tail.invariant (λ y later behind ends fits same. c.in_default.ensures.none _ same)
