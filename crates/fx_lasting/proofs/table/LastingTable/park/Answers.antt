use Rattle.fx_lasting.proofs.{◌≡◌, ◌<◌, ◌∙◌, ℕ, List, ap, sym, arith, length, get_elem?, get_or, some, node_inside, node_word, its_inside, stock_is}
use Rattle.fx_lasting.proofs.node_lemmas.FreeNodes.{entry_is}
use Rattle.fx_lasting.proofs.node_lemmas.KeptNodes.{parks_keep}
use Rattle.fx_lasting.proofs.node_lemmas.Settled.{parked_so}
use Rattle.fx_lasting.proofs.table.LastingTable.park.Goals as goal

-- the node is at the entry
there : (stock : List ℕ) (entry node : ℕ) → entry < length stock → get_or stock entry 0 ≡ node → get_elem? stock entry ≡ some node
there stock entry node inside same = entry_is stock entry inside ∙ ap some same

pub load-requires : goal.load-requires
load-requires c =
    let there = there c.args.stock.now c.args.entry c.args.node (omega (arith, c.if-stock-at.false)) (omega (arith, c.if-stock-at-2.false)) in (
      c.requires.table,
      node_inside c.args.self.now (its_inside c.requires.at.1 c.requires.emptying) c.requires.word,
      parks_keep _ _ _ _ c.args.node c.args.seat.now.me _ c.requires.at.1.pass c.requires.emptying
          (c.args.entry, ap (λ (l : List ℕ). get_elem? l c.args.entry) (sym (c.requires.stock ∙ stock_is c.requires.at.1)) ∙ there) c.requires.place
          (node_word c.args.self.now c.args.node c.requires.word),
    )

pub returns-clause-parked : goal.returns-clause-parked
returns-clause-parked c =
    let there = there c.args.stock.now c.args.entry c.args.node (omega (arith, c.if-stock-at.false)) (omega (arith, c.if-stock-at-2.false)) in
    parked_so c.args.stock.now c.args.entry c.requires.emptying c.requires.place there c.load.ensures.2 _ c.may_carry.ensures
