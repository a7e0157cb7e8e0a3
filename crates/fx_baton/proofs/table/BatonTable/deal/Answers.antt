use Rattle.fx_baton.proofs.Words.{◌≡◌, ◌≤◌, [], ◌∙◌, ap, arith, Seated, View, seats, without_first, first_alone, one_dealt, all_dealt}
use Rattle.fx_baton.proofs.SeatsKeepRule.{is_new_pass, laws, may_split}
use Rattle.table_seats.proofs.Moving.{last_is_dealt, rest_is_dealt}
use Rattle.fx_baton.proofs.table.BatonTable.deal.Goals as goal

pub split_seat-one-requires : goal.split_seat-one-requires
split_seat-one-requires c =
    let counts = c.args.self.now.counts in let i = c.loop-number.invariant in let seat = c.loop-number.seat in (
      i.table,
      omega arith,
      may_split c.args.self.now.table.shared.key seat.id seat.me.0
          (ap (λ (m : Seated). m.0.doing) i.me) (ap (λ (m : Seated). m.0.loan) i.me),
    )

pub loop-number-preserved : goal.loop-number-preserved
loop-number-preserved c =
    let s = c.split_seat-one.ensures in let i = c.loop-number.invariant in
    let t = c.args.self.now.table.shared in let all = c.args.self.now.key.1 in let p = c.loop-number.number in
    let test = c.loop-number-test.true in let high : p ≤ t.key.passes = omega (arith, all, test) in
    let me = s.4 ∙ ap (λ (m : Seated). (first_alone seats m.0, [])) i.me in
    let new = is_new_pass t.table_id t.key p _ i.before.low high all _ _ c.new.ensures (s.3 ∙ i.table) me in record {
      before = one_dealt i.before c.push_reserved.ensures.items new test;
      table = s.0 ∙ i.table;
      me = s.2 ∙ (ap (λ (m : Seated). (without_first seats m.0, m.1)) i.me ∙ ap (λ (v : View). (v, [])) (rest_is_dealt seats laws t.key high));
      room = let a = i.room in let b = c.push_reserved.ensures.capacity in omega arith;
    }

pub returns : goal.returns
returns c =
    let i = c.loop-number.invariant in let t = c.args.self.now.table.shared in
    let all = c.args.self.now.key.1 in let p = c.loop-number.number in let most = i.before.high in
    let last : p ≡ c.args.self.now.passes = omega (arith, c.loop-number-test.false, most) in
    let me = i.me ∙ ap (λ (v : View). (v, [])) (last_is_dealt seats laws t.key (last ∙ all)) in let high : p ≤ t.key.passes = omega (arith, last, all) in
    let new = is_new_pass t.table_id t.key p _ i.before.low high all _ _ c.new-2.ensures i.table me in
    let done = all_dealt i.before c.push_reserved-2.ensures.items new last in record { ready = done.0; count = done.1; new = done.2 }
