use Rattle.check_flight.proofs.{◌+◌, Access, None, arith, one_more_at, IsAccessFollowed, runs_of_calls, Looks, access_more, call_followed}
use Rattle.check_flight.proofs.{followed_by, front_on}
use Rattle.check_flight.proofs.explore.follow_call.Goals as goal

pub loop-access-preserved : goal.loop-access-preserved
loop-access-preserved c =
    let state = c.args.state.now in
    let next = c.in_ok-take_in.ensures in
    record {
      kept = front_on _ _ _ c.loop-access.invariant.kept next.kept;
      followed = one_more_at
          (λ (a : Access). IsAccessFollowed c.args.log.now (runs_of_calls c.args.calls.now) c.take_in.new.self.states.items state
          (state.base + c.args.j + 1) a) c.deref-access-items.result.now (Looks 0 None)
          (λ k d low. access_more c.args.log.now (runs_of_calls c.args.calls.now) c.loop-access.front.states.items c.take_in.new.self.states.items state
          _ _ next.kept (c.loop-access.invariant.followed k d low))
          c.loop-access-test.true (followed_by c.args.log.now (runs_of_calls c.args.calls.now) c.take_in.new.self.states.items state
          _ _ c.in_ok-passage.passage c.in_ok-passage.ensures (next.taken c.if-not-branch.false));
    }

pub returns : goal.returns
returns c = record {
  kept = c.loop-access.invariant.kept;
  followed = λ _. call_followed c.args.log.now (runs_of_calls c.args.calls.now) c.loop-access.front.states.items c.args.state.now _
      c.deref-access-items.result.now (rw c.deref-access-items.ensures.value (rw c.in-Some.is at c.in_ok-accesses.ensures.each)) (rw c.in-Some.is at c.in_ok-accesses.ensures.size)
      (λ k d low. c.loop-access.invariant.followed k d (omega (arith, low, c.loop-access-test.false)));
}
