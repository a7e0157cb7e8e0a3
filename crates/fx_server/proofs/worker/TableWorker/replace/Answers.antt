use Rattle.fx_server.proofs.Words.{inl, refl, rules}
use Rattle.fx_server.proofs.worker.TableWorker.replace.Goals as goal

pub returns-in-Replaced : goal.returns-in-Replaced
returns-in-Replaced c = let call = c.put_over_key-put in record {
  placed = rw (← c.self.view_is) (record {
    good = c.self.invariant;
    table = refl;
    held = refl;
    placed = inl (record {
      uses = (c.draw-out.ensures.number, c.draw-out.ensures.drawn);
      retired = c.in-Replaced.retired;
      between = call.new.pass;
      puts = record {
        freed = call.result.freed;
        released = call.result.released;
        tags = record { its_freed = c.consume.ensures.tag; its_released = c.consume-2.ensures.tag };
        puts = rw c.file_with-file.ensures.file at (rw c.deref.ensures at (rw c.in-Replaced.is at call.ensures.placed));
      };
      retires = record {
        file = c.retire.result;
        its_answer = search rules;
        its_tag = c.consume-in-Replaced.ensures.tag;
        retires = rw (← c.deref.ensures) c.retire.ensures.retired;
      };
    });
  });
}
