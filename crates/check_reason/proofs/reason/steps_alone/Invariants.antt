use Rattle.std.proofs.Common.{◌≡◌, map, take}
use Rattle.check_reason.proofs.reason.steps_alone.Given as goal

abbrev pub invariant-loop-it : goal.invariant-loop-it
invariant-loop-it l = l.certificate.items ≡ map (λ it. it.step) (take l.it-index l.steps)
