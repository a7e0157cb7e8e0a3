use Rattle.check_certificate.proofs.Words.{◌≡◌, false, take, frees_look, happening_of, list_any}
use Rattle.check_certificate.proofs.events.was_freed.Given as goal

abbrev pub invariant-loop-event : goal.invariant-loop-event
invariant-loop-event l = list_any (λ event. frees_look l.look (happening_of event)) (take l.event-index l.events) ≡ false
