use Rattle.fx_lasting.proofs.{sym, ap, ◌∙◌, ◌∷◌, Some, None, rest, Sat, subst, [], Runs, rested, runs_one, node_inside, node_word, place_inside}
use Rattle.fx_lasting.proofs.node_lemmas.Births.{rests_keep}
use Rattle.fx_lasting.proofs.table.LastingTable.take_out.Goals as goal

pub exchange-requires : goal.exchange-requires
exchange-requires c = let h = c.requires.place.1 in
    (c.requires.table, (Some c.requires.place.0, h.place ∙ λ i. (c.args.node, Some c.requires.place.0) ∷ sym (ap rest h.place) i))

pub store-requires : goal.store-requires
store-requires c =
    let at = c.requires.at.1 in
    let h = c.requires.place.1 in
    let me = c.exchange.ensures.3 in
    let view = ap (λ (z : Sat). z.0) me in (
      c.exchange.ensures.0 ∙ c.requires.table,
      node_inside c.args.self.now (place_inside at h) c.node_place.ensures,
      rests_keep c.args.self.now.table.shared.key _ _ _ c.args.node c.exchange.new.seat.me at.log (rw view at.pass) (rw view h.work)
          (ap (λ (z : Sat). z.1) me ∙ λ i. (c.args.node, None) ∷ ap rest h.place i) (node_word c.args.self.now c.args.node c.node_place.ensures),
    )

pub returns-clause-rests : goal.returns-clause-rests
returns-clause-rests c =
    let run = subst (λ (z : Sat). Runs z [] (rested z.0.work) z.0.glance z.0.change 1 c.store.new.seat.me) c.exchange.ensures.3 (runs_one c.store.ensures.2.stepped) in
    assumption run
