use Rattle.fx_counted.proofs.{Contains, List, [], ◌∷◌, ap, arith, All-contains, Contains-append_left, IsIdleSeatOf, view_of, CountedPass, each_all}
use Rattle.fx_counted.proofs.{IsPassOfTable, IsReady, fits, gathered, its_idle}
use Rattle.fx_counted.proofs.Seats.{all_idle, closes}
use Rattle.fx_counted.proofs.table.CountedTable.close.Goals as goal

pub gather-seat-requires-clause-passes : goal.gather-seat-requires-clause-passes
gather-seat-requires-clause-passes c =
    let ps : List CountedPass = c.args.passes.items in let others : List CountedPass = c.pop.new.self.items in
    each_all (λ (p : CountedPass). IsIdleSeatOf c.args.self p.seat) others (λ p h.
    let all : Contains ps p = rw c.in-Some.ensures.items (Contains-append_left others (c.in-Some.first ∷ []) p h) in
    let ready = All-contains (IsReady (IsPassOfTable c.args.self) view_of) ps p c.requires.ready all in
    let its = ready.0 in let idle = its_idle its ready.1 in assumption (its, idle))

pub finish-requires-clause-idle : goal.finish-requires-clause-idle
finish-requires-clause-idle c s r at =
    let t = c.args.self.table.shared in let seat = c.gather-seat in
    all_idle t.table_id t.key c.args.passes.items (fits (IsPassOfTable c.args.self) view_of c.args.passes.items c.requires.ready) c.requires.all r
    seat.result.id at (gathered (λ (p : CountedPass). p.seat.me.0.logs) _ _ _ _ _ c.in-Some.ensures.items (ap (λ z. z.me.0.logs) c.into_seat.ensures)
    seat.ensures.logs) seat.ensures.seat.work

pub returns : goal.returns
returns c =
    let t = c.args.self.table.shared in let seat = c.gather-seat in let f = c.finish.ensures in
    closes t.table_id t.key c.args.passes.items (fits (IsPassOfTable c.args.self) view_of c.args.passes.items c.requires.ready) c.requires.all f.rule
    seat.result.id f.view (gathered (λ (p : CountedPass). p.seat.me.0.logs) _ _ _ _ _ c.in-Some.ensures.items
    (ap (λ z. z.me.0.logs) c.into_seat.ensures) seat.ensures.logs) seat.ensures.seat.work
    (omega (arith, c.args.self.key.1, c.args.self.bounds.1)) c.finish.result f.files f.settled
