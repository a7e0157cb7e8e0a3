use Rattle.fx_lasting.proofs.{◌+◌, ◌-◌, ℕ, List, length, length-map, ap, arith}
use Rattle.fx_lasting.proofs.node_lemmas.FirstStocks.{length_back}
use Rattle.fx_lasting.proofs.life.open.first_stocks.Goals as goal

pub push_reserved-requires : goal.push_reserved-requires
push_reserved-requires c = omega (
  arith,
  ap (length {A = List ℕ}) c.loop-pass.invariant.items,
  length-map c.loop-pass.stocks.items (λ s. s.items),
  length_back c.args.size c.args.passes c.args.installing (c.loop-pass.pass + 1) (c.args.passes - c.loop-pass.pass),
  c.loop-pass.invariant.most,
  c.loop-pass.invariant.room,
  c.loop-pass-test.true,
)
