use Rattle.fx_server.proofs.Words.{inl, refl, rules}
use Rattle.fx_server.proofs.worker.TableWorker.remove.Goals as goal

pub returns-in-Ok : goal.returns-in-Ok
returns-in-Ok c = let call = c.take_key-taken in record {
  removed = rw (← c.self.view_is) (record {
    good = c.self.invariant;
    table = refl;
    numbers = refl;
    held = refl;
    no_number = refl;
    removed = inl (record {
      retired = c.in-Ok.retired;
      between = call.new.pass;
      takes = record {
        freed = call.result.freed;
        released = call.result.released;
        tags = record { its_freed = c.consume.ensures.tag; its_released = c.consume-2.ensures.tag };
        takes = rw c.deref.ensures at (rw c.in-Ok.is at call.ensures.taken);
      };
      retires = record {
        file = c.retire.result;
        its_answer = search rules;
        its_tag = c.consume-in-Ok.ensures.tag;
        retires = rw (← c.deref.ensures) c.retire.ensures.retired;
      };
    });
  });
}
