use Rattle.fx_counted.proofs.{ap, ◌∙◌, word_of, births_keep, node_inside}
use Rattle.fx_counted.proofs.table.CountedTable.put_in.Goals as goal

pub store-requires : goal.store-requires
store-requires c = let t = c.args.self.now in let may = c.requires.next in let place = c.node_place.ensures in (
  c.requires.table,
  node_inside t may.known place,
  births_keep _ _ _ _ c.args.seat.now.me _ may.pass may.idle may.some_left
      ((rw t.same_size at place) ∙ ap (word_of t.table.shared.key) may.next),
)
