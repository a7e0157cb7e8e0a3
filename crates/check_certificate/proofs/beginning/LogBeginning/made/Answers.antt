use Rattle.check_certificate.proofs.Words.{◌∙◌, ap, sym, Some, Called, LookCalled, all_asked, happening_of, LogEvent}
use Rattle.check_certificate.proofs.beginning.LogBeginning.made.Goals as goal

pub returns-in_ok-evidence-in-Call-clause-sound : goal.returns-in_ok-evidence-in-Call-clause-sound
returns-in_ok-evidence-in-Call-clause-sound c = record {
  begins = Called c.in-Call.id (all_asked c.in-Call.chain.items);
  ends = happening_of c.in_ok-ends.ends.now;
  called = sym c.in_ok-begins.ensures ∙ ap (λ (e : LogEvent). Some (happening_of e)) c.in-Call.is;
  answered = sym c.in_ok-ends.ensures;
  shows = λ _. rw c.as_slice.ensures.value at c.in_ok-evidence-in-Call.ensures.sound;
}

pub returns-in_ok-said-in-Look-clause-sound : goal.returns-in_ok-said-in-Look-clause-sound
returns-in_ok-said-in-Look-clause-sound c = record {
  begins = LookCalled c.in-Look.id c.in-Look.slot;
  ends = happening_of c.in_ok-ends.ends.now;
  called = sym c.in_ok-begins.ensures ∙ ap (λ (e : LogEvent). Some (happening_of e)) c.in-Look.is;
  answered = sym c.in_ok-ends.ensures;
  shows = λ _. c.in_ok-said-in-Look.ensures.sound;
}
