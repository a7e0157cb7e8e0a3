use Rattle.fx_direct.proofs.Words.{refl, ◌≡◌, sym, ap, ◌∙◌, inl, Ends, IsEnabled, phase_at, Live, Ending, may_end}
use Rattle.fx_direct.proofs.Keeping.{written}
use Rattle.fx_direct.proofs.Asking.{asks, phase_left}
use Rattle.fx_direct.proofs.slots.DirectSlots.end.Goals as goal

pub returns-in-Live : goal.returns-in-Live
returns-in-Live c =
    let e : phase_at c.self.inside.list c.args.key.slot ≡ Live c.in-Live.requests c.in-Live.users = sym c.in_ok-phase.ensures.1 ∙ c.in-Live.is in
    let can : IsEnabled c.self.inside.list (Ends c.args.key) = (c.in_ok-phase.ensures.0.0, ap may_end e) in
    rw (sym c.self.view_is) (inl (asks c.self.inside.order.range c.self.inside.list (Ends c.args.key) can c.self.inside.stopped (Ending c.in-Live.requests c.in-Live.users) c.set_ending.result
    c.set_ending.new.list (ap (phase_left c.self.inside.stopped (Ends c.args.key)) e) c.set_ending.ensures))

pub invariant_of-self : goal.invariant_of-self
invariant_of-self c =
    written c.self.inside.list c.self.inside.order c.self.invariant c.args.key c.in_ok-phase.ensures.0.0.0 (Ending c.in-Live.requests c.in-Live.users) c.set_ending.result c.set_ending.new.list c.in_ok-phase.ensures.0 refl c.set_ending.ensures
