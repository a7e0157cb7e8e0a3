use Rattle.check_texts.proofs.{stage_of, sym, ◌∙◌, bytes_decides, at_value}
use Rattle.check_texts.proofs.next.has_ring.Goals as goal

pub returns-then-are_same : goal.returns-then-are_same
returns-then-are_same c = λ _ catalogue.
    let same = (bytes_decides c.as_bytes.result.now c.as_bytes-in-loop-reached.result.now).0 (sym c.eq.ensures ∙ c.if-eq.true) in
    rw (sym (c.are_same.ensures c.if-are_same.true catalogue), sym c.as_bytes-in-loop-reached.ensures.value, sym same, c.as_bytes.ensures.value)
    (at_value (stage_of catalogue) c.args.rings.now c.loop-reached-test.true c.reached-item.is)
