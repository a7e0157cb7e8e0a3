use Rattle.fx_lasting.proofs.{◌≡◌, suc, ◌≤◌, ◌+◌, ◌-◌, ◌++◌, ◌∷◌, [], ℕ, List, length, ap, ◌∙◌, sym, arith, range_with_len, length-range_with_len}
use Rattle.fx_lasting.proofs.node_lemmas.FirstStocks.{row_more}
use Rattle.fx_lasting.proofs.life.open.numbers_from.Goals as goal

pub push_reserved-requires : goal.push_reserved-requires
push_reserved-requires c = let i = c.loop-number.invariant in
    omega (arith, ap (length {A = ℕ}) i.items, length-range_with_len c.args.first (c.loop-number.number - c.args.first), i.room, c.loop-number-test.true)

pub loop-number-preserved : goal.loop-number-preserved
loop-number-preserved c = let low : c.args.first ≤ c.loop-number.number = c.loop-number.auto.number in
    let at : c.args.first + (c.loop-number.number - c.args.first) ≡ c.loop-number.number = omega (arith, low) in
    let more : suc (c.loop-number.number - c.args.first) ≡ c.loop-number.number + 1 - c.args.first = omega (arith, low) in record {
      items = c.push_reserved.ensures.items ∙ (ap (λ (l : List ℕ). l ++ c.loop-number.number ∷ []) c.loop-number.invariant.items
          ∙ (ap (λ (m : ℕ). range_with_len c.args.first (c.loop-number.number - c.args.first) ++ m ∷ []) (sym at)
          ∙ (sym (row_more c.args.first (c.loop-number.number - c.args.first)) ∙ ap (range_with_len c.args.first) more)));
      room = let a = c.loop-number.invariant.room in let b = c.push_reserved.ensures.capacity in omega arith;
    }

pub returns-clause-apart : goal.returns-clause-apart
returns-clause-apart c = let i = c.loop-number.invariant in
    omega (arith, ap (length {A = ℕ}) i.items, length-range_with_len c.args.first (c.loop-number.number - c.args.first), i.room, c.loop-number.auto.number-end)
