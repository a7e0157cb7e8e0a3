use Rattle.check_flight.proofs.{arith}
use Rattle.check_flight.proofs.verdict.shortest_refuted.Goals.{then-branch, else-branch}
use Rattle.check_flight.proofs.verdict.shortest_refuted.Goals as goal

pub is_refuted_from-requires-clause-saved : goal.is_refuted_from-requires-clause-saved
is_refuted_from-requires-clause-saved c = c.loop.invariant.saved c.next_count-middle.result c.next_count-middle.ensures.from

pub loop-preserved : goal.loop-preserved
loop-preserved c = elim c.if-branch.branch [
  | then-branch w ↦ record {
    within = rw w.high-is (omega (arith, c.loop.invariant.within, c.next_count-middle.ensures.below));
    refuted = rw w.high-is (c.in_ok-is_refuted_from.ensures w.if-branch.true);
    saved = rw w.low-is c.loop.invariant.saved;
  }
  | else-branch w ↦ record {
    within = rw w.high-is c.loop.invariant.within;
    refuted = rw w.high-is c.loop.invariant.refuted;
    saved = λ longer low. c.loop.invariant.saved longer (omega (arith, low, w.low-is, c.next_count-middle.ensures.from));
  }
]
