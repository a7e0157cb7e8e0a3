use Rattle.fx_baton.proofs.{state_of, placed_so, may_lend, slot_inside, number_fresh, put_called, added}
use Rattle.fx_baton.proofs.calls.BatonTableFileTable.put.Goals as goal

pub slot_mut-plain-requires : goal.slot_mut-plain-requires
slot_mut-plain-requires g c = may_lend c.borrow.ensures

pub entry_at-entry-requires : goal.entry_at-entry-requires
entry_at-entry-requires g c = slot_inside c.borrow.ensures c.slot_mut-plain.ensures.value c.requires.slot

pub put-replaced-requires-clause-slot : goal.put-replaced-requires-clause-slot
put-replaced-requires-clause-slot g c = slot_inside c.borrow.ensures c.slot_mut-plain.ensures.value c.requires.slot

pub put-replaced-requires-clause-fresh : goal.put-replaced-requires-clause-fresh
put-replaced-requires-clause-fresh g c = number_fresh c.borrow.ensures c.slot_mut-plain.ensures.value c.requires.numbers _ c.next_number-number.ensures

pub give_back-requires : goal.give_back-requires
give_back-requires g c =
    put_called c.borrow.ensures c.slot_mut-plain.ensures.value c.requires.idle c.requires.numbers c.next_number-number.ensures
    (rw c.identity-identity.ensures c.put-replaced.ensures.replaced) c.is_none.ensures

pub returns-clause-placed : goal.returns-clause-placed
returns-clause-placed g c =
    placed_so _ _ c.args.slot _ 0 _ _
    (c.retired.ensures ((state_of c.slot_mut-plain.result.now).at c.args.slot) c.put-replaced.ensures.replaced.answer c.entry_at-entry.ensures)
    _ _ c.args.file c.next_number-number.ensures c.identity-identity.ensures
    (added c.borrow.ensures c.slot_mut-plain.ensures.value c.give_back.ensures)
