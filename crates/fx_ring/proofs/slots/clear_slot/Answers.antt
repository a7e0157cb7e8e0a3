use Rattle.fx_ring.proofs.Words.{ℕ, refl, ap, None, State, state_of, leaving}
use Rattle.fx_ring.proofs.Origins.{can_retire, removed_and_closed}
use Rattle.fx_ring.proofs.slots.clear_slot.Goals as goal

pub close_removed-requires-clause-removed : goal.close_removed-requires-clause-removed
close_removed-requires-clause-removed c =
    can_retire (state_of c.clear-removed.new.self) (leaving c.args.table.now) ((state_of c.args.table.now).at c.args.slot) c.requires.settled
    (ap (λ (st : State). st.holds) c.clear-removed.ensures.step.1) c.clear-removed.ensures.leaving c.clear-removed.ensures.answer

pub returns : goal.returns
returns c =
    let left = removed_and_closed None _ c.close_removed.new.closes c.requires.settled refl c.clear-removed.ensures.answer
    c.clear-removed.ensures.step.1 c.close_removed.ensures.steps c.close_removed.ensures.files c.close_removed.ensures.room in
    record { set = left.0; fresh = λ other. ap (λ (g : ℕ → _). g other) left.1 }
