use Rattle.fx_server.proofs.Words.{inl, refl}
use Rattle.fx_lasting.specs.declared.answers.FoundSlot.TheVariants as found
use Rattle.fx_server.proofs.worker.TableWorker.find.Goals as goal

pub returns-in-Again : goal.returns-in-Again
returns-in-Again c = record {
  found = rw (← c.self.view_is) (record {
    table = refl;
    found = inl (record { result = found.Again; its_answer = refl; keeps = (refl, refl); searched = rw c.deref.ensures at (rw c.in-Again.is at c.find.ensures.found) });
  });
}
