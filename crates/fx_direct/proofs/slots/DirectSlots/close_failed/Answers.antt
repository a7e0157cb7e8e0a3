use Rattle.fx_direct.proofs.Words.{refl, sym, subst, ap, ◌∙◌, Some, FailsToClose, Ending, is_closing, AdvancesAndAsks, DirectMachine, machine_with}
use Rattle.fx_direct.proofs.Asking.{asks, phase_left}
use Rattle.fx_direct.proofs.slots.DirectSlots.close_failed.Goals as goal

pub returns-in-Closing : goal.returns-in-Closing
returns-in-Closing c =
    let d = FailsToClose c.args.key in let stopped = c.self.inside.stopped in let closing = sym c.in_ok-phase.ensures.1 ∙ c.in-Closing.is in
    subst (λ (m : DirectMachine). AdvancesAndAsks m d (Some c.ask.result) (machine_with c.ask.new.list c.self.inside.order.range stopped)) c.self.view_is
    (asks c.self.inside.order.range c.self.inside.list d (c.in_ok-phase.ensures.0.0, ap is_closing closing) stopped (Ending 0 0) (Some c.ask.result) c.ask.new.list
    (ap (phase_left stopped d) closing) (c.ask.ensures.slot, refl, c.ask.ensures.list))
