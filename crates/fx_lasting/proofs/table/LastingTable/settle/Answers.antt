use Rattle.fx_lasting.proofs.{◌≡◌, ◌<◌, ◌∙◌, ℕ, sym, ap, refl, arith, nodes_of, stands_at, read_at, node_inside, node_word, few_nodes, at_rest}
use Rattle.fx_lasting.proofs.{still_pass, its_kept, its_inside, runs_goes}
use Rattle.fx_lasting.proofs.Words.{Keeping}
use Rattle.fx_lasting.proofs.node_lemmas.KeptNodes.{settles_keep}
use Rattle.fx_lasting.proofs.node_lemmas.Settled.{settled_view}
use Rattle.fx_lasting.proofs.table.LastingTable.settle.Goals.{After-index-node}
use Rattle.fx_lasting.proofs.table.LastingTable.settle.Goals as goal

-- the node that the pass keeps
works : (c : After-index-node) → let p = c.args.pass.now in p.seat.me.0.work ≡ Keeping c.index-node.result.now (its_kept c.requires.fits c.if-pass.true).1
works c =
    let p = c.args.pass.now in
    let kept = its_kept c.requires.fits c.if-pass.true in
    kept.2 ∙ ap (λ (n : ℕ). Keeping n kept.1) (sym (c.index-node.ensures ∙ read_at p.stock.items p.next_entry c.index-node.result.now kept.4))

inside : (c : After-index-node) → c.index-node.result.now < nodes_of c.args.self.now.table.shared.key
inside c = its_inside c.requires.fits.seated.at (works c)

pub index-node-requires : goal.index-node-requires
index-node-requires c = let p = c.args.pass.now in let kept = its_kept c.requires.fits c.if-pass.true in
    omega (arith, (stands_at p.stock.items p.next_entry kept.0 kept.4).0)

pub node_place-place-requires : goal.node_place-place-requires
node_place-place-requires c = omega (arith, inside ((goal.at.node_place-place-requires c).After-index-node), few_nodes c.args.self.now)

pub store-requires : goal.store-requires
store-requires c =
    let a = (goal.at.store-requires c).After-index-node in
    let s = c.requires.fits.seated in (
      s.table,
      node_inside c.args.self.now (inside a) c.node_place-place.ensures,
      settles_keep _ _ _ _ c.index-node.result.now (its_kept c.requires.fits c.if-pass.true).1 c.args.pass.now.seat.me _ s.at.pass (works a)
          (node_word c.args.self.now c.index-node.result.now c.node_place-place.ensures),
    )

pub returns-then-pass : goal.returns-then-pass
returns-then-pass c =
    let fits = c.requires.fits in
    let s = fits.seated in
    let did = c.store.ensures.2 in
    let run = at_rest fits (runs_goes did.goes) in
    record {
      fits = still_pass s _ run (refl, refl) c.store.ensures.0 (did.goes.carried ∙ s.places) (refl, s.next) ((its_kept fits c.if-pass.true).3, refl);
      same = settled_view (works ((goal.at.returns-then-pass c).After-index-node)) did;
      unkept = refl;
      steps = let few = run.steps in omega arith;
      begun = let any = run.begun in omega arith;
      met = (run.met, run.changes);
    }

pub returns-else-pass : goal.returns-else-pass
returns-else-pass c = record {
  fits = c.requires.fits;
  same = refl;
  unkept = c.if-pass.false;
  steps = omega arith;
  begun = omega arith;
  met = (omega arith, λ s. omega arith);
}
