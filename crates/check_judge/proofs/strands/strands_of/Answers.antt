use Rattle.check_judge.proofs.{◌≡◌, ◌∙◌, ℕ, length, refl, ap, subst, arith, filter, slice_get_read, AreStrands}
use Rattle.check_judge.proofs.Words.{keeps}
use Rattle.check_judge.proofs.StrandClaims.{one_more}
use Rattle.check_judge.proofs.strands.strands_of.Goals as goal

pub loop-i-preserved : goal.loop-i-preserved
loop-i-preserved c =
    one_more c.args.cells.now c.args.chains.now c.loop-i.i c.loop-i.strands.items c.index-chains-i.result c.in_ok-own.own
    (slice_get_read c.args.chains.now (length c.args.chains.now) c.loop-i.i c.index-chains-i.result refl c.loop-i-test.true c.index-chains-i.is)
    (c.in_ok-own.ensures ∙ ap (filter (keeps c.args.cells.now)) c.deref.ensures.value) c.loop-i.invariant c.push_strand.new.strands.items c.in_ok-push_strand.ensures

pub returns : goal.returns
returns c = λ closes order recorded.
    let whole : c.loop-i.i ≡ length c.args.chains.now = omega arith in
    subst (λ (n : ℕ). AreStrands closes c.args.cells.now n order c.loop-i.strands.items) whole (c.loop-i.invariant.are closes order recorded)
