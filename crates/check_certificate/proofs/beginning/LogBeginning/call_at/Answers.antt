use Rattle.check_certificate.proofs.Words.{refl, sym, happening_of}
use Rattle.check_certificate.proofs.beginning.LogBeginning.call_at.Goals as goal

pub returns-in-Call-clause-sound : goal.returns-in-Call-clause-sound
returns-in-Call-clause-sound c = (happening_of c.in_ok-event.event.now, sym c.in_ok-event.ensures, rw c.in-Call.is refl)

pub returns-in-Look-clause-sound : goal.returns-in-Look-clause-sound
returns-in-Look-clause-sound c = (happening_of c.in_ok-event.event.now, sym c.in_ok-event.ensures, rw c.in-Look.is refl)
