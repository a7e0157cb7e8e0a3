use Rattle.fx_lasting.proofs.{◌≡◌, ◌≤◌, ◌+◌, ◌-◌, suc, [], ◌∙◌, ℕ, List, length, length-map, ap, arith, Sat, View, stocks_back, without_first}
use Rattle.fx_lasting.proofs.{first_alone, one_dealt, all_dealt, seats, last_is_dealt, rest_is_dealt}
use Rattle.fx_lasting.proofs.node_lemmas.FirstStocks.{stock_taken, its_first, length_back}
use Rattle.fx_lasting.proofs.life_lemmas.Gathered.{is_new_pass, shown_so}
use Rattle.fx_lasting.proofs.life_lemmas.Openings.{laws}
use Rattle.fx_lasting.proofs.life_lemmas.Seats.{splits_keep}
use Rattle.fx_lasting.proofs.table.LastingTable.deal.Goals as goal

pub split_seat-one-requires : goal.split_seat-one-requires
split_seat-one-requires c = let i = c.loop-number.invariant in (
  i.table,
  omega (arith, c.args.self.now.words),
  splits_keep _ _ c.loop-number.seat.me.0 (ap (λ (m : Sat). m.0.work) i.me) (ap (λ (m : Sat). m.0.glance) i.me) (ap (λ (m : Sat). m.0.change) i.me),
)

pub loop-number-preserved : goal.loop-number-preserved
loop-number-preserved c =
    let t = c.args.self.now in
    let s = c.split_seat-one.ensures in
    let i = c.loop-number.invariant in
    let high : c.loop-number.number ≤ t.table.shared.key.passes = omega (arith, t.key.0, c.loop-number-test.true) in
    let more : (t.passes + 1) - c.loop-number.number ≡ suc (t.passes - c.loop-number.number) = omega (arith, c.loop-number-test.true) in
    let taken = stock_taken (λ s. s.items) t.size t.passes t.installing c.loop-number.number (t.passes - c.loop-number.number) _ _ c.in-Some.stock c.in-Some.ensures.items
    (i.stocks ∙ ap (stocks_back t.size t.passes t.installing c.loop-number.number) more) in
    let new = is_new_pass t.table.shared.key i.before.low high (taken.1 ∙ its_first t c.loop-number.number) c.new.ensures (s.3 ∙ i.table)
    (s.4 ∙ ap (λ (m : Sat). (first_alone seats m.0, [])) i.me) in
    record {
      before = one_dealt i.before c.push_reserved.ensures.items new c.loop-number-test.true;
      table = s.0 ∙ i.table;
      me = s.2 ∙ (ap (λ (m : Sat). (without_first seats m.0, m.1)) i.me ∙ ap (λ (v : View). (v, [])) (rest_is_dealt seats laws c.args.self.now.table.shared.key high));
      room = let a = i.room in let b = c.push_reserved.ensures.capacity in omega arith;
      stocks = let e : t.passes - c.loop-number.number ≡ (t.passes + 1) - (c.loop-number.number + 1) = omega arith in
          taken.0 ∙ ap (stocks_back t.size t.passes t.installing (c.loop-number.number + 1)) e;
    }

pub returns : goal.returns
returns c =
    let t = c.args.self.now in
    let i = c.loop-number.invariant in
    let last : c.loop-number.number ≡ t.passes = omega (arith, c.loop-number-test.false, i.before.high) in
    let high : c.loop-number.number ≤ t.table.shared.key.passes = omega (arith, last, t.key.0) in
    let more : (t.passes + 1) - c.loop-number.number ≡ suc 0 = omega (arith, last) in
    let taken = stock_taken (λ s. s.items) t.size t.passes t.installing c.loop-number.number 0 _ _ c.in-Some-pop.stock c.in-Some-pop.ensures.items
    (i.stocks ∙ ap (stocks_back t.size t.passes t.installing c.loop-number.number) more) in
    let new = is_new_pass t.table.shared.key i.before.low high (taken.1 ∙ its_first t c.loop-number.number) c.new-2.ensures i.table
    (i.me ∙ ap (λ (v : View). (v, [])) (last_is_dealt seats laws c.args.self.now.table.shared.key (last ∙ t.key.0))) in
    let done = all_dealt i.before c.push_reserved-2.ensures.items new last in
    record { ready = done.0; count = done.1; new = shown_so t.table.shared.table_id t.table.shared.key _ done.0 _ done.2 }

pub unreachable-requires : goal.unreachable-requires
unreachable-requires c =
    let t = c.args.self.now in
    omega (
      arith,
      c.in_default.ensures.cases.0,
      ap (length {A = List ℕ}) c.loop-number.invariant.stocks,
      length-map c.loop-number.stocks.items (λ s. s.items),
      length_back t.size t.passes t.installing c.loop-number.number ((t.passes + 1) - c.loop-number.number),
      c.loop-number-test.true,
    )
