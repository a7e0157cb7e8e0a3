use Rattle.fx_lasting.proofs.{AreNamed}
use Rattle.fx_lasting.proofs.life.open.name_slots.Given as goal

abbrev pub invariant-loop-slot : goal.invariant-loop-slot
invariant-loop-slot l = AreNamed l.slot l.initial.words.items l.words.items
