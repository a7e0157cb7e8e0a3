use Rattle.fx_chain.proofs.Words.{◌≡◌, None, sym, ◌∙◌, fault_after, asked_of}
use Rattle.fx_chain.proofs.ChainGoesOn.{asked_more, asked_rest}
use Rattle.fx_chain.proofs.Counted.{counted_step, fault_of_next-counted}
use Rattle.fx_chain.proofs.fault.check.Goals as goal

pub loop-i-preserved : goal.loop-i-preserved
loop-i-preserved c =
    let count = c.loop-i.count in
    let before = c.loop-i.invariant in
    let x = c.index-requests-i.result in
    let more = asked_more c.args.requests.now c.loop-i.i x c.loop-i-test.true c.index-requests-i.is in
    let rest = asked_rest c.args.requests.now c.loop-i.i x c.loop-i-test.true c.index-requests-i.is in
    let none : fault_after count.chains count.members count.installs (asked_of x) ≡ None = sym c.fault.ensures ∙ c.in_default.is in
    record {
      faults = rw more (rw (rest, fault_of_next-counted (asked_of x) before.counted ∙ none) at before.faults);
      counted = rw (more, c.add.ensures.chains, c.add.ensures.members, c.add.ensures.installs) (counted_step (asked_of x) before.counted none);
    }
