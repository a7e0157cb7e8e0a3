use Rattle.check_certificate.proofs.Words.{◌≡◌, false, take, closes_file, happening_of, list_any}
use Rattle.check_certificate.proofs.events.was_closed.Given as goal

abbrev pub invariant-loop-event : goal.invariant-loop-event
invariant-loop-event l = list_any (λ event. closes_file l.file (happening_of event)) (take l.event-index l.events) ≡ false
