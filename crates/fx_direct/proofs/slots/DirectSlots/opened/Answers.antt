use Rattle.fx_direct.proofs.Words.{Free, None, ◌≡◌, Bool, true, refl, sym, subst, ap, ◌∙◌, Some, Opening, Ending, Opens, phase_at, AdvancesAndAsks}
use Rattle.fx_direct.proofs.Words.{DirectMachine, machine_with, may_open}
use Rattle.fx_direct.proofs.Keeping.{vacated}
use Rattle.fx_direct.proofs.Asking.{asks, phase_left}
use Rattle.fx_direct.proofs.slots.DirectSlots.opened.Goals as goal

pub returns-then-self : goal.returns-then-self
returns-then-self c =
    let k = c.args.key in let d = Opens k c.args.installed in let stopped = c.self.inside.stopped in
    let e : phase_at c.self.inside.list k.slot ≡ Opening = sym c.in_ok-phase.ensures.1 ∙ c.in-Opening.is in
    let leaves = ap (phase_left stopped d) e ∙ ap (λ (b : Bool). phase_left stopped (Opens k b) Opening) c.if-installed.true
    ∙ ap (λ (b : Bool). phase_left b (Opens k true) Opening) c.if-self.true in
    subst (λ (m : DirectMachine). AdvancesAndAsks m d (Some c.ask.result) (machine_with c.ask.new.list c.self.inside.order.range stopped)) c.self.view_is
    (asks c.self.inside.order.range c.self.inside.list d (c.in_ok-phase.ensures.0.0, ap (may_open c.args.installed) e) stopped (Ending 0 0) (Some c.ask.result) c.ask.new.list
    leaves (c.ask.ensures.slot, refl, c.ask.ensures.list))

pub invariant_of-self-else-installed : goal.invariant_of-self-else-installed
invariant_of-self-else-installed c =
    vacated c.self.inside.list c.self.inside.order c.self.invariant c.args.key c.in_ok-phase.ensures.0.0.0 c.free.new.order Free None c.free.new.list c.in_ok-phase.ensures.0 c.free.ensures.same c.free.ensures.range c.free.ensures.order
    (c.free.ensures.list, λ due. cc)
