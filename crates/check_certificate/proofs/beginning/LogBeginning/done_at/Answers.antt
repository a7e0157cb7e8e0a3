use Rattle.check_certificate.proofs.Words.{◌∙◌, ap, sym, Some, happening_of, LogEvent}
use Rattle.check_certificate.proofs.beginning.LogBeginning.done_at.Goals as goal

pub returns-in-Done-clause-sound : goal.returns-in-Done-clause-sound
returns-in-Done-clause-sound c = sym c.in_ok-event.ensures ∙ ap (λ (e : LogEvent). Some (happening_of e)) c.in-Done.is
