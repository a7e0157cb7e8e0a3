use Rattle.fx_server.proofs.Words.{inl, refl}
use Rattle.fx_lasting.specs.declared.tried.TriedPut.TheVariants as tried
use Rattle.fx_server.proofs.worker.TableWorker.insert.Goals as goal

pub returns-in-Again : goal.returns-in-Again
returns-in-Again c = record {
  allocated = rw (← c.self.view_is) (record {
    table = refl;
    allocated = inl (record {
      result = tried.Again c.in-Again.file;
      its_answer = refl;
      uses = (refl, refl);
      tries = rw c.file_with-file.ensures.file at (rw c.deref.ensures at (rw c.in-Again.is at c.try_put_any.ensures.tried));
      short = rw c.deref.ensures at (rw c.in-Again.is at c.try_put_any.ensures.short);
    });
  });
}
