use Rattle.check_flight.proofs.{arith, one_more_at, subst, WaitingLook, IsWaitDeniedIn}
use Rattle.check_flight.proofs.explore.are_waits_denied.Goals as goal

abbrev no_look : WaitingLook
no_look = record { id = 0; slot = 0 }

pub loop-look-preserved : goal.loop-look-preserved
loop-look-preserved c =
    let items = c.deref-look-items.ensures.value in
    one_more_at (IsWaitDeniedIn c.args.log.now c.args.calls.now c.args.state.now) c.args.state.now.waiting.items no_look c.loop-look.invariant
    (rw items at c.loop-look-test.true) (rw items at (c.is_wait_denied.ensures c.if-not-is_wait_denied.false))

pub returns : goal.returns
returns c = λ _ look found (k, low, is). subst (IsWaitDeniedIn c.args.log.now c.args.calls.now c.args.state.now) is
    (c.loop-look.invariant k look (omega (arith, low, c.loop-look-test.false))) found
