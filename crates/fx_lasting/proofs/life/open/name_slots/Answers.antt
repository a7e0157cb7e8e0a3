use Rattle.fx_lasting.proofs.{arith}
use Rattle.fx_lasting.proofs.node_lemmas.FirstStocks.{one_named}
use Rattle.fx_lasting.proofs.life.open.name_slots.Goals as goal

pub loop-slot-preserved : goal.loop-slot-preserved
loop-slot-preserved c = rw (c.slot_place.ensures, c.empty_word.ensures)
    (one_named c.loop-slot.slot c.args.words.now.items c.loop-slot.words.items c.loop-slot.invariant (omega (arith, c.requires.inside c.loop-slot.slot c.loop-slot-test.true)))
