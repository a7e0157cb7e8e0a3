use Rattle.check_judge.proofs.{◌∙◌, All-more, Claim, Vec, refl, sym, take_all, true≢false, Brings, no_any, Any}
use Rattle.check_judge.proofs.refuted.is_brought.Goals as goal

pub returns-then-has_bringing : goal.returns-then-has_bringing
returns-then-has_bringing c = (
  λ _. (
    c.loop-i.i,
    c.index-chains-i.result,
    c.loop-i-test.true,
    sym c.index-chains-i.is,
    rw c.deref.ensures.value at (c.has_bringing.ensures.0 c.if-has_bringing.true),
  ),
  λ _. refl,
)

pub loop-i-preserved : goal.loop-i-preserved
loop-i-preserved c =
    All-more (λ (claims : Vec Claim). Any (λ claim. Brings claim c.args.file) claims.items → ⊥) c.args.chains.now c.loop-i.i c.index-chains-i.result
    c.loop-i-test.true c.loop-i.invariant (rw (sym c.index-chains-i.is, sym c.deref.ensures.value)
    (λ any. true≢false (sym (c.has_bringing.ensures.1 any) ∙ c.if-has_bringing.false)))

pub returns : goal.returns
returns c = (
  λ yes. absurd (true≢false (sym yes)),
  λ found. absurd (no_any (λ (claims : Vec Claim). Any (λ claim. Brings claim c.args.file) claims.items) c.args.chains.now
      (rw (take_all c.loop-i.i c.args.chains.now c.loop-i-test.false) at c.loop-i.invariant) found),
)
