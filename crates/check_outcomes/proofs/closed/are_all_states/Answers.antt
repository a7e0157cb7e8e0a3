use Rattle.check_outcomes.proofs.{◌≡◌, length, arith, all_asked, runs_in, IfOk-weaker}
use Rattle.check_outcomes.proofs.AllReports.{all_by, as_many}
use Rattle.check_outcomes.proofs.closed.are_all_states.Goals as goal

pub returns : goal.returns
returns c =
    let sub = c.args.claimed.now.submission.now in
    let size : sub.size ≡ length c.args.slots.now.at.items = omega (arith, c.args.slots.now.at.ok.0) in
    IfOk-weaker c.are_states_explored.result _ _ (λ yes all it. all_by c.start.new.recorded.items
    (as_many (all_asked sub.requests.now) sub.chains.now sub.runs) c.in_ok-first.ensures
    (rw c.deref.ensures.value at (c.are_all_listed.ensures c.if-not-are_all_listed.false))
    (c.in_ok-has.ensures.view c.if-not-branch.false sub.number (runs_in sub))
    (c.in_ok-has.ensures.recorded c.if-not-branch.false sub.number (runs_in sub)) size
    (c.are_parts.ensures c.if-not-are_parts.false) (all it)) c.are_states_explored.ensures
