use Rattle.fx_ring.proofs.Words.{ℕ, refl, ap, ◌∙◌, arith, Some, State, state_of, leaving, numbered, changed_else}
use Rattle.fx_ring.proofs.Origins.{can_retire, removed_and_closed}
use Rattle.fx_ring.proofs.slots.fill_slot.Goals as goal

pub close_removed-requires-clause-removed : goal.close_removed-requires-clause-removed
close_removed-requires-clause-removed c =
    let put = c.put-replaced.ensures.replaced in
    can_retire (state_of c.put-replaced.new.self) (leaving c.args.table.now) ((state_of c.args.table.now).at c.args.slot) c.requires.settled
    (ap (λ (st : State). st.holds) put.step.1) put.leaving put.answer

pub returns : goal.returns
returns c =
    let put = c.put-replaced.ensures.replaced in
    let left = removed_and_closed (Some (numbered c.args.number c.args.file)) _ c.close_removed.new.closes c.requires.settled refl
    put.answer put.step.1 c.close_removed.ensures.steps c.close_removed.ensures.files c.close_removed.ensures.room in
    record {
      set = left.0;
      fresh = λ other above. ap (λ (g : ℕ → _). g other) left.1
          ∙ changed_else (state_of c.args.table.now).fresh c.args.number _ other (λ same. omega (arith, above, same));
    }
