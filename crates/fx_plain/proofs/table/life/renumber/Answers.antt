use Rattle.fx_plain.proofs.OwnNumbers.{still_placed}
use Rattle.fx_plain.proofs.table.life.renumber.Goals as goal

pub renumber_in_place-requires-clause-placed : goal.renumber_in_place-requires-clause-placed
renumber_in_place-requires-clause-placed c =
    still_placed c.args.slots.now.items c.args.nodes.now c.extend.new.self c.requires.placed (c.extend.ensures.same c.if-extend.true)
