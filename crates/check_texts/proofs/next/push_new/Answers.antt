use Rattle.check_texts.proofs.{stage_of, refl, sym, pushed}
use Rattle.check_texts.proofs.next.push_new.Goals as goal

pub returns-then-has_ring-clause-there : goal.returns-then-has_ring-clause-there
returns-then-has_ring-clause-there c = λ catalogue. rw (sym c.deref.ensures.value) (c.has_ring.ensures c.if-has_ring.true catalogue)

pub returns-clause-grows : goal.returns-clause-grows
returns-clause-grows c = λ catalogue. pushed (stage_of catalogue) c.args.rings.now.items c.args.reached c.in_ok-push.ensures.items refl
