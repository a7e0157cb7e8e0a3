use Rattle.fx_lasting.proofs.{◌≡◌, ◌∙◌, Contains, List, [], ◌∷◌, ap, sym, subst, false, length, length-map, IsIdleSeatOf, opening_of, view_of}
use Rattle.fx_lasting.proofs.{LastingPass, IsPassOfTable, All-contains, Contains-append_left, each_all, IsReady, fits, gathered, last_of, ClosesTable}
use Rattle.fx_lasting.proofs.{PassView, IsIdle, idle_seat}
use Rattle.fx_lasting.proofs.life_lemmas.Gathered.{all_idle, closes}
use Rattle.fx_lasting.proofs.table.LastingTable.close.Goals.{After-settle_all}
use Rattle.fx_lasting.proofs.table.LastingTable.close.Goals as goal

pub gather-seat-requires-clause-seat : goal.gather-seat-requires-clause-seat
gather-seat-requires-clause-seat c =
    let ready = last_of (λ (p : LastingPass). IsPassOfTable c.args.self p × IsIdle (view_of p)) _ _ _ c.in-Some.ensures.items c.settle_all.ensures.ready in
    let unkept = last_of (λ (p : LastingPass). p.keeps ≡ false) _ _ _ c.in-Some.ensures.items c.settle_all.ensures.unkept in
    subst (IsIdleSeatOf c.args.self) (sym c.into_seat.ensures) (idle_seat c.args.self ready.0 ready.1 unkept)

pub gather-seat-requires-clause-passes : goal.gather-seat-requires-clause-passes
gather-seat-requires-clause-passes c =
    let ps : List LastingPass = c.settle_all.new.passes.items in
    let others : List LastingPass = c.pop.new.self.items in
    each_all (λ (p : LastingPass). IsIdleSeatOf c.args.self p.seat) others (λ p h.
    let all : Contains ps p = rw c.in-Some.ensures.items (Contains-append_left others (c.in-Some.first ∷ []) p h) in
    let ready = All-contains (IsReady (IsPassOfTable c.args.self) view_of) ps p c.settle_all.ensures.ready all in
    idle_seat c.args.self ready.0 ready.1 (All-contains (λ (p : LastingPass). p.keeps ≡ false) ps p c.settle_all.ensures.unkept all))

-- as many passes as before
many : (c : After-settle_all) → length c.settle_all.new.passes.items ≡ c.args.self.table.shared.key.passes
many c = let ps : List LastingPass = c.settle_all.new.passes.items in
    sym (length-map ps view_of) ∙ (ap (length {A = PassView}) c.settle_all.ensures.same ∙ (length-map c.args.passes.items view_of ∙ c.requires.all))

pub finish-requires-clause-idle : goal.finish-requires-clause-idle
finish-requires-clause-idle c s r at =
    let t = c.args.self.table.shared in
    let ps : List LastingPass = c.settle_all.new.passes.items in
    let seat = c.gather-seat in
    all_idle t.table_id t.key ps (fits (IsPassOfTable c.args.self) view_of ps c.settle_all.ensures.ready)
    (many (goal.at.finish-requires-clause-idle c).After-settle_all) r
    seat.result.id at (gathered (λ (p : LastingPass). p.seat.me.0.logs) _ _ _ _ _ c.in-Some.ensures.items (ap (λ z. z.me.0.logs) c.into_seat.ensures)
    seat.ensures.logs) seat.ensures.seat.work

pub returns-clause-closed : goal.returns-clause-closed
returns-clause-closed c =
    let t = c.args.self.table.shared in
    let ps : List LastingPass = c.settle_all.new.passes.items in
    let seat = c.gather-seat in
    let f = c.finish.ensures.left in
    let closing = closes t.table_id t.key ps (fits (IsPassOfTable c.args.self) view_of ps c.settle_all.ensures.ready)
    (many (goal.at.returns-clause-closed c).After-settle_all) f.rule seat.result.id f.view (gathered (λ (p : LastingPass). p.seat.me.0.logs) _ _ _ _ _
    c.in-Some.ensures.items (ap (λ z. z.me.0.logs) c.into_seat.ensures) seat.ensures.logs) seat.ensures.seat.work f.left f.same f.settled in
    record {
      left = f.left;
      closing = subst (λ (vs : List PassView). ClosesTable (opening_of t.key) vs f.left) c.settle_all.ensures.same closing;
      files_are = f.files_are;
    }
