use Rattle.fx_direct.proofs.Words.{refl, ◌≡◌, ◌-◌, ◌<◌, sym, subst, ap, ◌∙◌, Phase, Finishes, IsEnabled, phase_at, Ending, requests_in}
use Rattle.fx_direct.proofs.Keeping.{written}
use Rattle.fx_direct.proofs.Asking.{asks, phase_left}
use Rattle.fx_direct.proofs.slots.DirectSlots.finish.Goals as goal

pub returns-in-Ending : goal.returns-in-Ending
returns-in-Ending c =
    let e : phase_at c.self.inside.list c.args.key.slot ≡ Ending c.in-Ending.requests c.in-Ending.users = sym c.in_ok-phase.ensures.1 ∙ c.in-Ending.is in
    let can : IsEnabled c.self.inside.list (Finishes c.args.key) = (c.in_ok-phase.ensures.0.0, subst (λ (p : Phase). 0 < requests_in p) (sym e) c.if-requests-gt0-2.true) in
    rw (sym c.self.view_is) (asks c.self.inside.order.range c.self.inside.list (Finishes c.args.key) can c.self.inside.stopped (Ending (c.in-Ending.requests - 1) c.in-Ending.users) c.set_ending.result
    c.set_ending.new.list (ap (phase_left c.self.inside.stopped (Finishes c.args.key)) e) c.set_ending.ensures)

pub invariant_of-self-then-requests-gt0-2 : goal.invariant_of-self-then-requests-gt0-2
invariant_of-self-then-requests-gt0-2 c =
    written c.self.inside.list c.self.inside.order c.self.invariant c.args.key c.in_ok-phase.ensures.0.0.0 (Ending (c.in-Ending.requests - 1) c.in-Ending.users) c.set_ending.result c.set_ending.new.list c.in_ok-phase.ensures.0 refl c.set_ending.ensures
