use Rattle.fx_server.proofs.Words.{ℕ, ◌≤◌, inl, inr, refl, subst}
use Rattle.fx_server.proofs.worker.TableWorker.is_current.Goals as goal

pub returns-then-slot-size : goal.returns-then-slot-size
returns-then-slot-size c = record {
  checked = rw (← c.self.view_is) (record {
    table = refl;
    numbers = refl;
    held = refl;
    checked = inl (
      c.in-Some.field-0,
      c.in-Some.is,
      inr (refl, (refl, rw c.deref.ensures at (subst (λ (n : ℕ). n ≤ c.args.slot) c.size.ensures.value c.if-slot-size.true))),
    );
  });
}
