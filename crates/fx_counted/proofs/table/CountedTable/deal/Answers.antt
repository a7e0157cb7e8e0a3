use Rattle.fx_counted.proofs.Words.{◌≡◌, ◌≤◌, [], ◌∙◌, ap, arith, seats, without_first, first_alone, Sat, View, one_dealt, all_dealt}
use Rattle.fx_counted.proofs.Openings.{laws}
use Rattle.fx_counted.proofs.Seats.{is_new_pass, splits_keep}
use Rattle.table_seats.proofs.Moving.{last_is_dealt, rest_is_dealt}
use Rattle.fx_counted.proofs.table.CountedTable.deal.Goals as goal

pub split_seat-one-requires : goal.split_seat-one-requires
split_seat-one-requires c = grind (arith, splits_keep)

pub loop-number-preserved : goal.loop-number-preserved
loop-number-preserved c =
    let s = c.split_seat-one.ensures in let i = c.loop-number.invariant in let k = c.args.self.now.table.shared.key in
    let test = c.loop-number-test.true in let high : c.loop-number.number ≤ k.passes = omega (arith, c.args.self.now.key.1, test) in
    let new = is_new_pass k i.before.low high c.new.ensures (s.3 ∙ i.table) (s.4 ∙ ap (λ (m : Sat). (first_alone seats m.0, [])) i.me) in record {
      before = one_dealt i.before c.push_reserved.ensures.items new test;
      table = s.0 ∙ i.table;
      me = s.2 ∙ (ap (λ (m : Sat). (without_first seats m.0, m.1)) i.me ∙ ap (λ (v : View). (v, [])) (rest_is_dealt seats laws k high));
      room = let a = i.room in let b = c.push_reserved.ensures.capacity in omega arith;
    }

pub returns : goal.returns
returns c =
    let i = c.loop-number.invariant in let k = c.args.self.now.table.shared.key in let all = c.args.self.now.key.1 in
    let last : c.loop-number.number ≡ c.args.self.now.passes = omega (arith, c.loop-number-test.false, i.before.high) in
    let high : c.loop-number.number ≤ k.passes = omega (arith, last, all) in
    let new = is_new_pass k i.before.low high c.new-2.ensures i.table (i.me ∙ ap (λ (v : View). (v, [])) (last_is_dealt seats laws k (last ∙ all))) in
    let done = all_dealt i.before c.push_reserved-2.ensures.items new last in record { ready = done.0; count = done.1; new = done.2 }
