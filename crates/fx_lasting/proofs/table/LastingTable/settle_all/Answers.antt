use Rattle.fx_lasting.proofs.{◌≡◌, ◌<◌, ◌∙◌, ap, sym, subst, refl, arith, false, length, length-set, view_of, IsPassOfTable, LastingPass, All-set}
use Rattle.fx_lasting.proofs.{AllWithin-more_set, IsIdle}
use Rattle.std.proofs.Math.Seq.{map-set_same}
use Rattle.fx_lasting.proofs.node_lemmas.Settled.{still_idle}
use Rattle.fx_lasting.proofs.table.LastingTable.settle_all.Goals.{After-index_mut}
use Rattle.fx_lasting.proofs.table.LastingTable.settle_all.Goals as goal

pub loop-index-init : goal.loop-index-init
loop-index-init c = record { count = refl; ready = c.requires.ready; unkept = λ k d low high. absurd (omega arith); same = refl }

-- the next pass
module _ (c : After-index_mut) where
  inside : c.loop-index.index < length c.loop-index.passes.items
  inside = omega (arith, c.loop-index-test.true, c.loop-index.invariant.count, c.len-index-end.ensures)

  ready : IsPassOfTable c.args.self.now c.index_mut.result.now × IsIdle (view_of c.index_mut.result.now)
  ready = subst (λ (p : LastingPass). IsPassOfTable c.args.self.now p × IsIdle (view_of p)) (sym c.index_mut.ensures.value)
      (c.loop-index.invariant.ready c.loop-index.index c.index_mut.result.now inside)

pub settle-requires : goal.settle-requires
settle-requires c = let a = (goal.at.settle-requires c).After-index_mut in record { fits = (ready a).0 }

pub loop-index-preserved : goal.loop-index-preserved
loop-index-preserved c =
    let a = (goal.at.loop-index-preserved c).After-index_mut in
    let i = c.loop-index.invariant in
    let ps = c.loop-index.passes.items in
    let p = c.settle.new.pass in
    record {
      count = length-set ps c.loop-index.index p ∙ i.count;
      ready = All-set (λ (p : LastingPass). IsPassOfTable c.args.self.now p × IsIdle (view_of p)) ps c.loop-index.index p
          (c.settle.ensures.fits, still_idle c.settle.ensures.same (ready a).1) i.ready;
      unkept = AllWithin-more_set ps c.loop-index.index p (inside a) (λ (p : LastingPass). p.keeps ≡ false) i.unkept c.settle.ensures.unkept;
      same = map-set_same view_of ps c.loop-index.index p c.index_mut.result.now (c.settle.ensures.same ∙ ap view_of c.index_mut.ensures.value) ∙ i.same;
    }

pub returns : goal.returns
returns c = let i = c.loop-index.invariant in record {
  ready = i.ready;
  unkept = λ k p l. i.unkept k p (omega arith) (omega (arith, l, i.count, c.loop-index-test.false, c.len-index-end.ensures));
  same = i.same;
}
