use Rattle.check_flight.proofs.{◌+◌, length, length-map, refl, requests_of, arith, below_more, IsCallFollowed, runs_of_calls, call_more, front_on}
use Rattle.check_flight.proofs.{state_followed}
use Rattle.check_flight.proofs.explore.follow.Goals as goal

pub loop-j-preserved : goal.loop-j-preserved
loop-j-preserved c =
    let state = c.args.state.now in
    let next = c.in_ok-follow_call.ensures in
    record {
      kept = front_on _ _ _ c.loop-j.invariant.kept next.kept;
      followed = below_more (λ k. IsCallFollowed c.args.log.now (runs_of_calls c.args.calls.now) c.follow_call.new.front.states.items state
          (state.base + k + 1)) c.loop-j.j (λ k low. call_more c.args.log.now (runs_of_calls c.args.calls.now) c.loop-j.front.states.items c.follow_call.new.front.states.items state _ next.kept (c.loop-j.invariant.followed k low)) (next.followed c.if-not-branch.false);
    }

pub returns : goal.returns
returns c = record {
  kept = c.loop-j.invariant.kept;
  followed = λ it. (
    state_followed c.args.log.now (runs_of_calls c.args.calls.now) c.loop-j.front.states.items c.args.state.now (length (runs_of_calls c.args.calls.now)) refl
        (λ k low. c.loop-j.invariant.followed k (omega (arith, low, c.loop-j-test.false, length-map c.args.calls.now requests_of))),
    c.are_waits_denied.ensures it,
  );
}
