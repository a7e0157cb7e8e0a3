use Rattle.check_texts.proofs.{FileEntry, List, stages_of, AreRings, AreBare}
use Rattle.check_texts.proofs.layers.numbers_of.Given as goal

abbrev pub invariant-loop-exit : goal.invariant-loop-exit
invariant-loop-exit l = (catalogue : List FileEntry) → AreRings (stages_of catalogue l.exits)
    → AreBare (stages_of catalogue l.fn.bare.rings.items) → AreBare (stages_of catalogue l.bare.rings.items)
