use Rattle.check_judge.proofs.{◌≤◌, length, IsRingKept, instructions_of, ring_with_slots}
use Rattle.check_judge.proofs.Plays.{GoesWith}
use Rattle.check_judge.proofs.play.judge_rest.Given as goal

abbrev pub invariant-loop-done : goal.invariant-loop-done
invariant-loop-done l = record {
  inside : l.at ≤ length l.text;
  kept : IsRingKept l.catalogue l.ring;
  so_far : GoesWith (ring_with_slots l.catalogue l.fn.start) (instructions_of l.commands) l.text l.done l.at l.orders.items
      (ring_with_slots l.catalogue l.ring);
}
