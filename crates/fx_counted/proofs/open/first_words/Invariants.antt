use Rattle.fx_counted.proofs.Words.{state_of}
use Rattle.fx_counted.proofs.Openings.{AreWordsSoFar}
use Rattle.fx_counted.proofs.open.first_words.Given as goal

abbrev pub invariant-loop-slot : goal.invariant-loop-slot
invariant-loop-slot l = AreWordsSoFar (state_of l.plain) l.numbers l.slot l.words.items
