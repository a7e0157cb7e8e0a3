use Rattle.fx_baton.proofs.{ap, arith, may_store}
use Rattle.fx_baton.proofs.table.BatonTable.give.Goals as goal

pub store-requires : goal.store-requires
store-requires g c =
    let counts = c.args.self.now.counts in let t = c.requires.turn in (
      t.has.table,
      omega arith,
      may_store _ _ counts.1 (ap (λ l. (c.args.pass.now.seat.me.0, l)) t.has.slots) t.has.seated.one t.has.loan t.sound t.turn,
    )
