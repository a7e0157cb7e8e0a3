use Rattle.check_outcomes.proofs.{Permits, None, table_of_slots, IsExploredBy, Looks, one_more_at}
use Rattle.check_outcomes.proofs.closed.are_explored.Goals as goal

pub loop-access-preserved : goal.loop-access-preserved
loop-access-preserved c =
    one_more_at (λ a. Permits (table_of_slots c.args.state.now.slots) a → IsExploredBy c.args.claimed.now c.args.state.now c.args.i a)
    c.args.accesses.now (Looks 0 None) c.loop-access.invariant c.loop-access-test.true (c.in_ok-is_explored.ensures c.if-not-branch.false)
