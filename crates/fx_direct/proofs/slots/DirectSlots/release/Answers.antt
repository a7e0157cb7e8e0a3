use Rattle.fx_direct.proofs.Words.{refl, ◌≡◌, ◌-◌, ◌<◌, sym, subst, ap, ◌∙◌, Phase, Releases, IsEnabled, phase_at, Ending, users_in}
use Rattle.fx_direct.proofs.Keeping.{written}
use Rattle.fx_direct.proofs.Asking.{asks, phase_left}
use Rattle.fx_direct.proofs.slots.DirectSlots.release.Goals as goal

pub returns-in-Ending : goal.returns-in-Ending
returns-in-Ending c =
    let e : phase_at c.self.inside.list c.args.key.slot ≡ Ending c.in-Ending.requests c.in-Ending.users = sym c.in_ok-phase.ensures.1 ∙ c.in-Ending.is in
    let can : IsEnabled c.self.inside.list (Releases c.args.key) = (c.in_ok-phase.ensures.0.0, subst (λ (p : Phase). 0 < users_in p) (sym e) c.if-users-gt0-2.true) in
    rw (sym c.self.view_is) (asks c.self.inside.order.range c.self.inside.list (Releases c.args.key) can c.self.inside.stopped (Ending c.in-Ending.requests (c.in-Ending.users - 1)) c.set_ending.result
    c.set_ending.new.list (ap (phase_left c.self.inside.stopped (Releases c.args.key)) e) c.set_ending.ensures)

pub invariant_of-self-then-users-gt0-2 : goal.invariant_of-self-then-users-gt0-2
invariant_of-self-then-users-gt0-2 c =
    written c.self.inside.list c.self.inside.order c.self.invariant c.args.key c.in_ok-phase.ensures.0.0.0 (Ending c.in-Ending.requests (c.in-Ending.users - 1)) c.set_ending.result c.set_ending.new.list c.in_ok-phase.ensures.0 refl c.set_ending.ensures
