use Rattle.check_flight.proofs.{arith, flight_view, leb-true, runs_of_calls, subst, IsWhollyFollowed, copied, each_view, front_on, more_followed}
use Rattle.check_flight.proofs.explore.follow_all.Goals as goal

pub loop-number-preserved : goal.loop-number-preserved
loop-number-preserved c =
    let log = c.args.log.now in
    let calls = c.args.calls.now in
    let next = c.in_ok-follow.ensures in
    let found = c.in-Some.ensures.lookup in
    let items = c.deref.ensures.value in
    let state = c.in-Some.state.now in
    let own = c.in_ok-state.state in
    let same = copied (runs_of_calls calls) state own c.in_ok-state.ensures in
    record {
      kept = front_on _ _ _ c.loop-number.invariant.kept next.kept;
      followed = more_followed log calls c.loop-number.front.states.items c.follow.new.front.states.items (rw items at found.3.0) (rw items at found.1) next.kept
          c.loop-number.invariant.followed (subst (IsWhollyFollowed log calls c.follow.new.front.states.items) same (next.followed c.if-not-branch.false));
    }

pub returns-in_default-clause-followed : goal.returns-in_default-clause-followed
returns-in_default-clause-followed c = λ _.
    let past = rw c.deref.ensures.value at c.in_default.ensures.lookup in
    let calls = c.args.calls.now in
    let states = c.loop-number.front.states.items in
    each_view (IsWhollyFollowed c.args.log.now calls states) (flight_view (runs_of_calls calls)) states
    (λ k d low. c.loop-number.invariant.followed k d (omega (arith, low, past)))

pub returns-clause-followed : goal.returns-clause-followed
returns-clause-followed c = λ few.
    let high = leb-true _ c.args.most few in
    let calls = c.args.calls.now in
    let states = c.loop-number.front.states.items in
    each_view (IsWhollyFollowed c.args.log.now calls states) (flight_view (runs_of_calls calls)) states
    (λ k d low. c.loop-number.invariant.followed k d (omega (arith, low, high, c.loop-number.front.states.ok.0, c.loop-number-test.false)))
