use Rattle.fx_counted.proofs.{sym, ap, ◌∙◌, ◌∷◌, Some, None, rest, Sat, rests_keep, node_inside}
use Rattle.fx_counted.proofs.table.CountedTable.take_out.Goals as goal

pub exchange-requires : goal.exchange-requires
exchange-requires c =
    let h = c.requires.place.1 in let is = rw c.args.self.now.same_size at c.home_place-place.ensures in
    (c.requires.table, (Some c.requires.place.0, h.place ∙ λ i. (sym is i, Some c.requires.place.0) ∷ sym (ap rest h.place) i))

pub store-requires : goal.store-requires
store-requires c =
    let t = c.args.self.now in let n = c.args.number in let h = c.requires.place.1 in
    let is = rw t.same_size at c.home_place-place.ensures in let me = c.exchange.ensures.3 in let view = ap (λ (z : Sat). z.0) me in (
      c.exchange.ensures.0 ∙ c.requires.table,
      node_inside t h.known c.node_place.ensures,
      rests_keep t.table.shared.key _ _ _ n c.exchange.new.seat.me h.log (rw view h.pass) (rw view h.work)
          (ap (λ (z : Sat). z.1) me ∙ λ i. (is i, None) ∷ ap rest h.place i) (rw t.same_size at c.node_place.ensures),
    )
