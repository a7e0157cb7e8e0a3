use Rattle.check_flight.proofs.{◌≡◌, ℕ, List, [], Contains, arith, length, slice_index_or, subst, Contains-get_or, WaitingLook, IsLookDone}
use Rattle.check_flight.proofs.passage.is_unmade.Goals as goal

abbrev no_look : WaitingLook
no_look = record { id = 0; slot = 0 }

pub returns-then-is_look_unmade : goal.returns-then-is_look_unmade
returns-then-is_look_unmade c = λ _ runs.
    let state = c.args.state.now in
    let waiting = c.deref-look-items.result.now in
    let i = c.loop-look.look-index in
    let look : WaitingLook = slice_index_or waiting i no_look in
    let unmade = c.is_look_unmade.ensures c.if-is_look_unmade.true in
    let size : c.len.result ≡ length state.slots.at.items = omega (arith, state.slots.at.ok.0) in (
      look,
      subst (λ (l : List WaitingLook). Contains l look) c.deref-look-items.ensures.value (Contains-get_or waiting i no_look c.loop-look-test.true),
      unmade.0,
      subst (λ (n : ℕ). IsLookDone n look.slot [] c.args.found → ⊥) size unmade.1,
    )
