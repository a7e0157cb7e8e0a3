use Rattle.fx_direct.proofs.Keeping.{vacated}
use Rattle.fx_direct.proofs.Words.{◌≡◌, ◌&&◌, sym, subst, ap, ◌∙◌, Phase, Chained, FitsPhase, phase_at, is_live, AdvancesAndAsks, completion}
use Rattle.fx_direct.proofs.Words.{machine_with, unless_live, SlotRange}
use Rattle.fx_direct.proofs.Asking.{completes, phase_left}
use Rattle.fx_direct.proofs.slots.DirectSlots.chained.Goals as goal

pub returns-in-Some : goal.returns-in-Some
returns-in-Some c =
    let d = completion c.args.key c.args.member c.args.succeeded in let stopped = c.self.inside.stopped in
    let e : phase_at c.self.inside.list c.args.key.slot ≡ Chained c.in-Chained.chain = sym c.in_ok-chain.ensures.1 ∙ c.in-Chained.is in
    let after = c.in-Some.ensures c.args.key in
    let leaves = ap (phase_left stopped d) e ∙ sym (c.unless_stopped-phase.ensures ∙ ap (λ (p : Phase). unless_live (is_live p && stopped) p) after.1) in
    let range = c.self.inside.order.range in
    rw (sym c.self.view_is) (subst (λ (r : SlotRange). AdvancesAndAsks (machine_with c.self.inside.list range stopped) d c.write.result (machine_with c.write.new.list r stopped))
    (sym c.write.ensures.range) (completes range c.self.inside.list stopped c.args.key c.args.member c.args.succeeded c.unless_stopped-phase.result c.write.result c.write.new.list
    c.in_ok-chain.ensures.0.0 (subst (λ (p : Phase). FitsPhase d p) (sym e) after.0) leaves c.write.ensures.list))

pub invariant_of-self : goal.invariant_of-self
invariant_of-self c =
    vacated c.self.inside.list c.self.inside.order c.self.invariant c.args.key c.in_ok-chain.ensures.0.0.0 c.write.new.order c.unless_stopped-phase.result c.write.result c.write.new.list c.in_ok-chain.ensures.0 c.write.ensures.same c.write.ensures.range
    c.write.ensures.order c.write.ensures.list
