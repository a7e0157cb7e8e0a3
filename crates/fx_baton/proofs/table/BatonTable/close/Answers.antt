use Rattle.fx_baton.proofs.Words.{map, ap, subst, arith, ClosesTable, opening_of, view_of, BatonPass, IsPassOfTable, fits, gathered}
use Rattle.fx_baton.proofs.Closing.{at_home, closes}
use Rattle.fx_baton.proofs.table.BatonTable.close.Goals as goal

pub finish-requires-clause-home : goal.finish-requires-clause-home
finish-requires-clause-home c s r at =
    let t = c.args.self.table.shared in let seat = c.gather-seat in
    at_home t.table_id t.key c.args.passes.items (fits (IsPassOfTable c.args.self) view_of c.args.passes.items c.requires.ready) c.requires.all s r seat.result.id seat.result.me.0 at
    (gathered (λ (p : BatonPass). p.seat.me.0.logs) _ _ _ _ _ c.in-Some.ensures.items (ap (λ z. z.me.0.logs) c.seat_of-seat.ensures) seat.ensures.logs) seat.ensures.seat.idle seat.ensures.seat.free

pub returns : goal.returns
returns c =
    let t = c.args.self.table.shared in let seat = c.gather-seat in let f = c.finish.ensures in
    let all = c.args.self.key.1 in let some_passes = c.args.self.bounds.1 in
    subst (ClosesTable (opening_of t.key) (map view_of c.args.passes.items)) f.3
    (closes t.table_id t.key c.args.passes.items (fits (IsPassOfTable c.args.self) view_of c.args.passes.items c.requires.ready) c.requires.all f.0 f.1 seat.result.id seat.result.me.0 f.2
    (gathered (λ (p : BatonPass). p.seat.me.0.logs) _ _ _ _ _ c.in-Some.ensures.items (ap (λ z. z.me.0.logs) c.seat_of-seat.ensures) seat.ensures.logs) seat.ensures.seat.idle seat.ensures.seat.free (omega (arith, all, some_passes)))
