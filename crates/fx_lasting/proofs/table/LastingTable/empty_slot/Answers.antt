use Rattle.fx_lasting.proofs.{◌≡◌, ◌<◌, ◌≤◌, ℕ, List, ap, sym, ◌∙◌, arith, length, get_elem?, some, nodes_of, last_node, get_or_default, slot_inside}
use Rattle.fx_lasting.proofs.{slot_low, few_nodes, stock_inside, stock_is}
use Rattle.fx_lasting.proofs.slot_lemmas.Removals.{by_removal, by_swap}
use Rattle.fx_lasting.proofs.slot_lemmas.SlotLaws.{takes_out_keep}
use Rattle.fx_lasting.proofs.slot_lemmas.SwapsOut.{swap_takes_keep}
use Rattle.fx_lasting.proofs.node_lemmas.FreeNodes.{entry_is}
use Rattle.fx_lasting.proofs.table.LastingTable.empty_slot.Goals.{After-index}
use Rattle.fx_lasting.proofs.table.LastingTable.empty_slot.Goals as goal

pub fetch_and-requires : goal.fetch_and-requires
fetch_and-requires c =
    let t = c.args.self.now in (
      c.requires.table,
      slot_inside t c.requires.slot c.slot_place-place.ensures,
      takes_out_keep _ _ _ _ c.args.slot c.args.seat.now.me _ c.requires.at.1.pass c.requires.idle (slot_low t c.requires.slot) c.requires.off
          c.slot_place-place.ensures,
    )

-- the node at the entry
there : (c : After-index) → get_elem? c.args.stock.now.items c.args.entry ≡ some c.index.result.now
there c =
    let inside : c.args.entry < length c.args.stock.now.items = omega arith in
    entry_is c.args.stock.now.items c.args.entry inside
    ∙ ap some (sym (c.index.ensures ∙ get_or_default c.args.stock.now.items c.args.entry c.index.result.now 0 inside))

few : (c : After-index) → c.index.result.now ≤ last_node
few c =
    let t = c.args.self.now in
    let inside : c.index.result.now < nodes_of t.table.shared.key = stock_inside t.table.shared.key c.requires.at.0 c.args.entry c.index.result.now
    c.args.seat.now.me c.requires.at.1 (ap (λ (l : List ℕ). get_elem? l c.args.entry) (sym c.requires.stock) ∙ there c) in
    omega (arith, inside, few_nodes t)

pub empty_word-requires : goal.empty_word-requires
empty_word-requires c = few (goal.at.empty_word-requires c).After-index

pub swap-found-requires : goal.swap-found-requires
swap-found-requires c =
    let a = (goal.at.swap-found-requires c).After-index in
    let t = c.args.self.now in
    let at = c.requires.at.1 in (
      c.requires.table,
      slot_inside t c.requires.slot c.slot_place-place.ensures,
      swap_takes_keep _ _ _ _ c.args.slot c.index.result.now _ c.args.seat.now.me _ at.pass c.requires.idle (slot_low t c.requires.slot) c.requires.off
          (c.args.entry, ap (λ (l : List ℕ). get_elem? l c.args.entry) (sym (c.requires.stock ∙ stock_is at)) ∙ there a) c.slot_place-place.ensures c.empty_word.ensures,
    )

pub returns-clause-emptied : goal.returns-clause-emptied
returns-clause-emptied c =
    let a = (goal.at.returns-clause-emptied c).After-index in
    by_swap c.requires.at.1 c.args.stock.now.items c.requires.stock c.args.slot c.swap-found.result c.swap-found.ensures.2
    c.slot_place-place.ensures c.index.result.now c.args.entry c.node_named.result (there a) c.empty_word.ensures c.node_named.ensures

pub returns-then-len-at-clause-emptied : goal.returns-then-len-at-clause-emptied
returns-then-len-at-clause-emptied c =
    by_removal c.requires.at.1 c.args.stock.now.items c.requires.stock c.args.slot c.fetch_and.result c.fetch_and.ensures.2 c.slot_place-place.ensures
