use Rattle.fx_lasting.proofs.{◌≡◌, ◌≢◌, ◌≤◌, ◌<◌, ◌∙◌, ℕ, List, ap, sym, arith, get_elem?, get_or, some, pass_in, Sat, nodes_of, LastingTable}
use Rattle.fx_lasting.proofs.{IsAtWork, node_inside, node_word, as_long, stock_inside, few_nodes, runs_within, stock_is}
use Rattle.fx_lasting.proofs.node_lemmas.Births.{seeks_keep}
use Rattle.fx_lasting.proofs.node_lemmas.FreeNodes.{entry_is}
use Rattle.fx_lasting.proofs.node_lemmas.Sought.{sought_at, sought_work, sought_stock, sought_here, sought_more}
use Rattle.fx_lasting.proofs.table.LastingTable.seek.Goals as goal

-- the node of an entry
module _ (t : LastingTable) (p : ℕ) (m : Sat) (stock : List ℕ) (at : IsAtWork t.table.shared.key p m) (installs : p ≤ t.installing)
    (its : stock ≡ (pass_in m).stock) (entry : ℕ) (few : entry < t.passes) where
  there : get_elem? stock entry ≡ some (get_or stock entry 0)
  there = entry_is stock entry (omega (arith, few, as_long t at installs its))

  inside : get_or stock entry 0 < nodes_of t.table.shared.key
  inside = stock_inside t.table.shared.key p entry (get_or stock entry 0) m at (ap (λ (l : List ℕ). get_elem? l entry) (sym its) ∙ there)

pub node_place-place-requires : goal.node_place-place-requires
node_place-place-requires c = let r = c.requires in
    omega (
      arith,
      inside c.args.self.now c.args.number c.args.seat.now.me c.args.stock.now r.at r.installs r.stock c.loop.entry c.loop.invariant.sought.inside,
      few_nodes c.args.self.now,
    )

pub load-word-requires : goal.load-word-requires
load-word-requires c =
    let t = c.args.self.now in
    let r = c.requires in
    let i = c.loop.invariant in
    let stock = c.args.stock.now in
    let at = sought_at r.at r.idle r.stock i.sought in
    let l = inside t c.args.number c.args.seat.now.me stock r.at r.installs r.stock c.loop.entry i.sought.inside in
    let here = there t c.args.number c.args.seat.now.me stock r.at r.installs r.stock c.loop.entry i.sought.inside in
    let same : stock ≡ at.log.stock = sym (sought_stock r.at r.idle r.stock i.sought) ∙ stock_is at in (
      i.table ∙ r.table,
      node_inside t l c.node_place-place.ensures,
      seeks_keep _ _ _ _ (get_or stock c.loop.entry 0) c.loop.seat.me at.log at.pass (sought_work r.at r.idle r.stock i.sought)
          (omega (arith, at.its_number, r.installs, t.key.1))
          (c.loop.entry, ap (λ (l : List ℕ). get_elem? l c.loop.entry) (sym same) ∙ here)
          (node_word t (get_or stock c.loop.entry 0) c.node_place-place.ensures),
    )

pub returns-then-word-eq0-clause-found : goal.returns-then-word-eq0-clause-found
returns-then-word-eq0-clause-found c =
    let t = c.args.self.now in
    let r = c.requires in
    let s = c.loop.invariant.sought in
    let more = c.loop-test.true in
    let here = there t c.args.number c.args.seat.now.me c.args.stock.now r.at r.installs r.stock c.loop.entry s.inside in
    runs_within (omega (arith, more)) (sought_here r.at r.idle r.stock s here (node_word t (get_or c.args.stock.now c.loop.entry 0) c.node_place-place.ensures)
    c.load-word.ensures.2 c.if-word-eq0.true)

pub returns-then-word-eq0-clause-stocked : goal.returns-then-word-eq0-clause-stocked
returns-then-word-eq0-clause-stocked c = let r = c.requires in
    there c.args.self.now c.args.number c.args.seat.now.me c.args.stock.now r.at r.installs r.stock c.loop.entry c.loop.invariant.sought.inside

pub loop-preserved : goal.loop-preserved
loop-preserved c =
    let r = c.requires in
    let i = c.loop.invariant in
    let not_so : c.load-word.result ≢ 0 = c.if-word-eq0.false in
    let here = there c.args.self.now c.args.number c.args.seat.now.me c.args.stock.now r.at r.installs r.stock c.loop.entry i.sought.inside in
    record {
      table = c.load-word.ensures.0 ∙ i.table;
      places = c.load-word.ensures.2.goes.carried ∙ i.places;
      sought = rw c.entry_after-entry.ensures (sought_more r.at r.idle r.stock i.sought here
          (node_word c.args.self.now (get_or c.args.stock.now c.loop.entry 0) c.node_place-place.ensures)
          c.load-word.ensures.2 not_so (sym (as_long c.args.self.now r.at r.installs r.stock)) r.start c.loop-test.true);
    }
