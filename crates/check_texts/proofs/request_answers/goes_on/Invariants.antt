use Rattle.check_texts.proofs.{instructions_of, ring_with_slots, IsRing, MayEnd, drop}
use Rattle.check_texts.proofs.request_answers.goes_on.Given as goal

-- an end of the ring that is reached is one of the first ring
abbrev pub invariant-loop-command : goal.invariant-loop-command
invariant-loop-command l = record {
  ring : IsRing (ring_with_slots l.setting.catalogue.now l.reached.ring);
  ends : MayEnd (ring_with_slots l.setting.catalogue.now l.reached.ring) (instructions_of (drop l.command-index l.commands))
      → MayEnd (ring_with_slots l.setting.catalogue.now l.fn.from.ring) (instructions_of l.commands);
}
