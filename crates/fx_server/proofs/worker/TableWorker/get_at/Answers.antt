use Rattle.fx_server.proofs.Words.{inl, refl, subst, sym, Ok, ◌∙◌, arc_value, LookedUp, IsHoldOf, PassView, opening_of_table, view_of, HasLabel}
use Rattle.fx_server.proofs.Looking.{holds}
use Rattle.fx_server.proofs.worker.TableWorker.get_at.Goals.{After-number_of-out}
use Rattle.fx_server.proofs.worker.TableWorker.get_at.Goals as goal

its_hold : (c : After-number_of-out) → IsHoldOf (view_of c.number_of-out.new.pass) c.in-Ok.hold
its_hold c = let call = c.look_up-found in
    subst (λ (v : PassView). IsHoldOf v c.in-Ok.hold) (sym c.number_of-out.ensures.same)
    (holds (opening_of_table c.deref.result.now.table) (view_of c.self.inside.pass) (view_of call.new.pass) c.args.slot c.in-Ok.hold call.result.freed
    (rw c.in-Ok.is at call.ensures.looked))

pub note-out-requires-clause-holds : goal.note-out-requires-clause-holds
note-out-requires-clause-holds c = its_hold (goal.at.note-out-requires-clause-holds c).After-number_of-out

pub invariant_of-self-2 : goal.invariant_of-self-2
invariant_of-self-2 c = let noted = c.note-out.ensures in record {
  fits = rw (← c.deref.ensures) noted.fits;
  does = rw noted.held (subst (λ (v : PassView). IsHoldOf v c.in-Ok.hold) (sym noted.same) (its_hold (goal.at.invariant_of-self-2 c).After-number_of-out));
}

pub returns : goal.returns
returns c = let noted = c.note-out.ensures in let call = c.look_up-found in record {
  found = rw (← c.self.view_is) (record {
    table = refl;
    numbers = refl;
    looked = inl (
      record { node = c.in-Ok.hold.node; entry = c.in-Ok.hold.entry },
      refl,
      record { holds = noted.held; label = subst (λ (v : PassView). HasLabel v c.in-Ok.hold c.note-out.result c.number_of-out.result) (sym noted.same) noted.label },
      record {
        freed = call.result.freed;
        tags = record { its_freed = c.consume.ensures.tag; its_released = refl };
        looked = subst (λ (v : PassView). LookedUp (opening_of_table (arc_value c.self.inside.shared).table) (view_of c.self.inside.pass) c.args.slot (Ok c.in-Ok.hold) call.result.freed v)
            (sym (noted.same ∙ c.number_of-out.ensures.same)) (rw c.deref.ensures at (rw c.in-Ok.is at call.ensures.looked));
      },
    );
  });
}
