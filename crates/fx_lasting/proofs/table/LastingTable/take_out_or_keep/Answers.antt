use Rattle.fx_lasting.proofs.{◌≡◌, ◌∙◌, ◌∷◌, ap, sym, subst, false, inl, Some, None, rest, Sat, Work, Runs, rested, Idle, Parked, IsAtWork, [], true}
use Rattle.fx_lasting.proofs.{arith, node_inside, node_word, its_inside, still_at_work, does_then, runs_one, runs_within}
use Rattle.fx_lasting.proofs.Words.{Keeping}
use Rattle.fx_lasting.proofs.node_lemmas.Births.{rests_keep}
use Rattle.fx_lasting.proofs.table.LastingTable.take_out_or_keep.Goals.{After-park}
use Rattle.fx_lasting.proofs.table.LastingTable.take_out_or_keep.Goals as goal

pub exchange-requires : goal.exchange-requires
exchange-requires c = let h = c.requires.place.1 in
    (c.requires.table, (Some c.requires.place.0, h.place ∙ λ i. (c.args.node, Some c.requires.place.0) ∷ sym (ap rest h.place) i))

-- the pass with the place, which is empty
module _ (c : After-park) (no : c.park.result ≡ false) where
  place : c.exchange.new.seat.me.1 ≡ (c.args.node, None) ∷ []
  place = ap (λ (z : Sat). z.1) c.exchange.ensures.3 ∙ λ i. (c.args.node, None) ∷ ap rest c.requires.place.1.place i

  still : Parked c.args.node c.args.stock.now c.args.entry c.exchange.new.seat.me false c.park.new.seat.me
  still = rw no at c.park.ensures.parked

  at : IsAtWork c.args.self.now.table.shared.key c.requires.at.0 c.exchange.new.seat.me
  at = let a = c.requires.at.1 in let view = ap (λ (z : Sat). z.0) c.exchange.ensures.3 in record {
    log = a.log;
    pass = rw view a.pass;
    its_number = a.its_number;
    low = a.low;
    high = a.high;
    legal = a.legal;
    inside = rw view a.inside;
    stock = a.stock;
  }

pub store-requires : goal.store-requires
store-requires c =
    let a = (goal.at.store-requires c).After-park in
    let still = still a c.if-park.false in
    let there = still_at_work (at a c.if-park.false) still.0 in (
      c.park.ensures.table ∙ (c.exchange.ensures.0 ∙ c.requires.table),
      node_inside c.args.self.now (its_inside there still.0.work) c.requires.word,
      rests_keep _ _ _ _ c.args.node c.park.new.seat.me _ there.pass (inl still.0.work) (still.1 ∙ place a c.if-park.false)
          (node_word c.args.self.now c.args.node c.requires.word),
    )

pub returns-clause-out : goal.returns-clause-out
returns-clause-out c =
    let a = (goal.at.returns-clause-out c).After-park in
    let still = still a c.if-park.false in
    let rests = c.store.ensures.2 in
    let m = c.park.new.seat.me in
    let run = does_then still.0 (subst (λ (w : Work). Runs m [] (rested w) m.0.glance m.0.change 1 c.store.new.seat.me) still.0.work (runs_one rests.stepped)) in
    let same = subst (λ (z : Sat). Runs z [] Idle z.0.glance z.0.change 2 c.store.new.seat.me) c.exchange.ensures.3 run in
    (assumption same, rests.carried ∙ ap rest (still.1 ∙ place a c.if-park.false))

pub returns-then-park-clause-out : goal.returns-then-park-clause-out
returns-then-park-clause-out c =
    let kept : Parked c.args.node c.args.stock.now c.args.entry c.exchange.new.seat.me true c.park.new.seat.me = rw c.if-park.true at c.park.ensures.parked in
    let run = subst (λ (z : Sat). Runs z [] (Keeping c.args.node kept.0) z.0.glance z.0.change 2 c.park.new.seat.me) c.exchange.ensures.3 (runs_within (omega arith) kept.1) in
    (kept.0, assumption run, kept.2, kept.3)
