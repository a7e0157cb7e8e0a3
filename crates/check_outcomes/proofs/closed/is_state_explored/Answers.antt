use Rattle.check_outcomes.proofs.{IsExploredInTurn, below_more}
use Rattle.check_outcomes.proofs.closed.is_state_explored.Goals as goal

pub loop-i-preserved : goal.loop-i-preserved
loop-i-preserved c =
    below_more (IsExploredInTurn c.args.claimed.now c.args.state.now) c.loop-i.i c.loop-i.invariant
    (c.in_ok-is_explored_in_turn.ensures c.if-not-branch.false)
