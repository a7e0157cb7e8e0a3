use Rattle.fx_baton.proofs.Words.{◌-◌, vec_capacity, seats, view_of, IsPassOf, IsDealing}
use Rattle.fx_baton.proofs.table.BatonTable.deal.Given as goal

abbrev pub invariant-loop-number : goal.invariant-loop-number
invariant-loop-number l = let t = l.self.table.shared in
    IsDealing seats (IsPassOf t.table_id t.key) view_of t.table_id t.key l.seat l.number l.self.passes l.list.items (vec_capacity l.list)

abbrev pub decreases-loop-number : goal.decreases-loop-number
decreases-loop-number l = l.self.passes - l.number
