use Rattle.fx_baton.proofs.{sym, subst, arith, BatonPass, IsIdleSeatOf, last_of, may_join}
use Rattle.fx_baton.proofs.table.BatonTable.gather.Goals as goal

pub join_seat-requires : goal.join_seat-requires
join_seat-requires c =
    let counts = c.args.self.now.counts in let i = c.loop-pass.invariant in let t = c.args.self.now in
    let p = subst (IsIdleSeatOf t) (sym c.seat_of-other.ensures) (last_of (λ (z : BatonPass). IsIdleSeatOf t z.seat) _ _ _ c.in-Some.ensures.items i.passes) in
    let seat = c.loop-pass.seat in let other = c.seat_of-other.result in (
      i.seat.table,
      p.table,
      p.slots,
      omega arith,
      may_join t.table.shared.key seat.id seat.me.0 i.seat.idle i.seat.free i.seat.start other.id other.me.0 p.idle p.free,
    )
