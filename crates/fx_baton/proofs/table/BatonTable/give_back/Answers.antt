use Rattle.fx_baton.proofs.{sym, ap, subst, Contents, IsTurn, HasGivenBack, table_of_loan, events_of, doing_of, gives_back}
use Rattle.fx_baton.proofs.table.BatonTable.give_back.Goals as goal

pub give-requires-clause-turn : goal.give-requires-clause-turn
give-requires-clause-turn c =
    let t = c.requires in let p = c.args.pass.now in let turns : Contents → Type 0 = λ z.
    IsTurn p.seat.me.0 t.has.seated.log t.taken t.given (events_of z p.number p.chain p.seat.me.0.doing c.args.call) (doing_of z c.args.call) in
    let turn = subst turns (sym (ap table_of_loan t.has.loan)) t.turn in
    record { before = t.before; taken = t.taken; given = t.given; has = t.has; sound = t.sound; turn = turn }

pub returns : goal.returns
returns c =
    let t = c.args.self.now.table.shared in let e = c.give.ensures in
    subst (HasGivenBack t.table_id t.key c.args.call c.args.pass.now) (sym e.pass) (gives_back c.requires c.give.new.pass.seat e.table e.me)
