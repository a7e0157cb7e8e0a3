use Rattle.fx_lasting.proofs.{sym, subst, arith, IsIdleSeatOf, LastingPass, last_of}
use Rattle.fx_lasting.proofs.life_lemmas.Seats.{joins_keep}
use Rattle.fx_lasting.proofs.table.LastingTable.gather.Goals as goal

pub join_seat-requires : goal.join_seat-requires
join_seat-requires c =
    let i = c.loop-pass.invariant in
    let p = subst (IsIdleSeatOf c.args.self.now) (sym c.into_seat-other.ensures)
    (last_of (λ (z : LastingPass). IsIdleSeatOf c.args.self.now z.seat) _ _ _ c.in-Some.ensures.items i.passes) in (
      i.seat.table,
      p.table,
      p.places,
      omega (arith, c.args.self.now.words),
      joins_keep _ _ c.loop-pass.seat.me.0 i.seat.start i.seat.work i.seat.glance i.seat.change _ c.into_seat-other.result.me.0 p.work p.glance p.change,
    )
