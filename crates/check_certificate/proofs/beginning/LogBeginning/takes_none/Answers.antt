use Rattle.check_certificate.proofs.Words.{subst, sym, TakesNone}
use Rattle.check_certificate.proofs.beginning.LogBeginning.takes_none.Goals as goal

pub returns-in-Put-clause-sound : goal.returns-in-Put-clause-sound
returns-in-Put-clause-sound c = λ yes operation. subst (TakesNone c.args.self.now c.args.l.now c.args.by.place operation c.args.by.access) (sym c.in-Put.is)
    (c.put_takes_none.ensures.sound yes operation c.in-Put._slot)

pub returns-in_default-intent-clause-sound : goal.returns-in_default-intent-clause-sound
returns-in_default-intent-clause-sound c = λ yes operation. c.is_other_time.ensures.sound yes operation c.args.intent
