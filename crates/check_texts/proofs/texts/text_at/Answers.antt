use Rattle.check_texts.proofs.{[], ap, append-nil, append_assoc, arith, concat-append, drop, drop_all, refl, string_bytes, ◌++◌, ◌+◌, ◌∷◌, ◌≡◌}
use Rattle.check_texts.proofs.{from_here, rests_in, way_from}
use Rattle.check_texts.proofs.texts.text_at.Goals as goal

pub loop-own-init : goal.loop-own-init
loop-own-init c = record { counted = c.requires; way = ([], rw c.new-text.ensures.bytes refl, λ later at. at) }

pub loop-own-preserved : goal.loop-own-preserved
loop-own-preserved c =
    let here : rests_in (drop c.loop-own.own-index c.args.rests.now)
    ≡ c.own-item.result.items ∷ rests_in (drop (c.loop-own.own-index + 1) c.args.rests.now) =
    ap rests_in (from_here c.args.rests.now c.loop-own.own-index c.own-item.result c.loop-own-test.true c.own-item.is) in
    let counted = rw here at c.loop-own.invariant.counted in
    let (front, text_is, goes) = c.loop-own.invariant.way in
    let exit = c.in-Some.exit.now in
    let line = string_bytes exit.line in
    let (rest, place, there, is) = c.in-Some.ensures.there in
    record {
      counted = counted.1;
      way = (
        front ++ line ∷ [],
        rw (c.in_ok-push_str.ensures.bytes, c.as_str.ensures.value, text_is, concat-append front (line ∷ []), append-nil line) refl,
        λ later at.
            rw (append_assoc front (line ∷ []) later)
            (goes (line ∷ later) (rw here (way_from _ c.own-item.result.items c.loop-own.number rest place exit c.loop-own.left later
            (rw c.deref.ensures.value at there) is c.in-Some.ensures.before c.in-Some.ensures.few counted.0 at))),
      );
    }

pub returns : goal.returns
returns c =
    let (front, text_is, goes) = c.loop-own.invariant.way in
    let none : c.loop-own.left ≡ 0 = omega arith in
    (front ++ [], goes [] (rw (drop_all c.loop-own.own-index c.args.rests.now c.loop-own-test.false, none) refl), rw (append-nil front) text_is)
