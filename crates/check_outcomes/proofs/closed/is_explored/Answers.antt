use Rattle.check_outcomes.proofs.{runs_in, ok_two, explored}
use Rattle.check_outcomes.proofs.closed.is_explored.Goals as goal

pub returns : goal.returns
returns c =
    let submission = c.args.claimed.now.submission.now in
    ok_two c.has.result _ _ _
    (λ yes inside among it permits. explored c.next_state.new.recorded.items (rw c.in-Some.is at c.in_ok-next.ensures.step)
    (rw c.deref.ensures.value at (c.are_listed.ensures c.if-not-are_listed.false)) (inside it submission.number (runs_in submission))
    (rw c.in-Some.is at c.in_ok-next.ensures.recorded) (among it submission.number (runs_in submission)))
    c.has.ensures.view c.has.ensures.recorded
