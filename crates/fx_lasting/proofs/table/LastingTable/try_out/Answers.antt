use Rattle.fx_lasting.proofs.{◌≡◌, ◌<◌, ◌∙◌, ℕ, List, ap, sym, arith, length, get_elem?, some, get_or_default, pass_in, few_nodes, slot_low}
use Rattle.fx_lasting.proofs.{stock_inside}
use Rattle.fx_lasting.proofs.node_lemmas.FreeNodes.{entry_is}
use Rattle.fx_lasting.proofs.slot_lemmas.HeldTries.{left_held, may_leave_held, may_move_held, moved_held}
use Rattle.fx_lasting.proofs.table.LastingTable.try_out.Goals.{After-index}
use Rattle.fx_lasting.proofs.table.LastingTable.try_out.Goals as goal

-- the node at the entry
there : (c : After-index) → get_elem? c.args.stock.now.items c.args.entry ≡ some c.index.result.now
there c =
    let inside : c.args.entry < length c.args.stock.now.items = omega arith in
    entry_is c.args.stock.now.items c.args.entry inside
    ∙ ap some (sym (c.index.ensures ∙ get_or_default c.args.stock.now.items c.args.entry c.index.result.now 0 inside))

-- which the pass has in stock
has_it : (c : After-index) → get_elem? (pass_in c.args.seat.now.me).stock c.args.entry ≡ some c.index.result.now
has_it c = ap (λ (l : List ℕ). get_elem? l c.args.entry) (sym c.requires.stock) ∙ there c

pub try_exchange-requires-clause-may : goal.try_exchange-requires-clause-may
try_exchange-requires-clause-may c =
    let r = c.requires in
    may_leave_held r.at.1 c.args.stock.now.items r.stock c.args.slot c.args.node r.holds.0 r.holds.1 (slot_low c.args.self.now r.slot) r.off

pub returns-then-len-at : goal.returns-then-len-at
returns-then-len-at c =
    let r = c.requires in
    let did = left_held r.at.1 c.args.stock.now.items r.stock c.args.slot c.args.node r.holds.0 r.holds.1 c.try_exchange.result c.try_exchange.new.seat.me
    c.try_exchange.ensures.tried in
    record { table = c.try_exchange.ensures.table; places = did.1; tried = did.0 }

pub empty_word-requires : goal.empty_word-requires
empty_word-requires c =
    let a = (goal.at.empty_word-requires c).After-index in
    let t = c.args.self.now in
    omega (arith, stock_inside t.table.shared.key c.requires.at.0 c.args.entry c.index.result.now c.args.seat.now.me c.requires.at.1 (has_it a), few_nodes t)

pub try_exchange-requires-2-clause-may : goal.try_exchange-requires-2-clause-may
try_exchange-requires-2-clause-may c =
    let r = c.requires in
    rw c.empty_word.ensures (may_move_held r.at.1 c.args.stock.now.items r.stock c.args.slot c.args.node r.holds.0 r.holds.1 (slot_low c.args.self.now r.slot) r.off
    c.index.result.now (c.args.entry, has_it (goal.at.try_exchange-requires-2-clause-may c).After-index))

pub returns : goal.returns
returns c =
    let r = c.requires in
    let did = moved_held r.at.1 c.args.stock.now.items r.stock c.args.slot c.args.node r.holds.0 r.holds.1 c.index.result.now c.empty_word.result c.args.entry
    c.in_ok-found.found c.try_exchange-2.new.seat.me (there (goal.at.returns c).After-index) c.empty_word.ensures c.in_ok-found.ensures.tried in
    record { table = c.in_ok-found.ensures.table; places = did.1; tried = did.0 }
