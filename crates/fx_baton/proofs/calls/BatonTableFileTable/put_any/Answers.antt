use Rattle.fx_baton.proofs.Calling.{may_lend, number_fresh, allocate_called, full_called, allocated_so, added}
use Rattle.fx_baton.proofs.calls.BatonTableFileTable.put_any.Goals as goal

pub slot_mut-plain-requires : goal.slot_mut-plain-requires
slot_mut-plain-requires g c = may_lend c.borrow.ensures

pub put_any-requires : goal.put_any-requires
put_any-requires g c = number_fresh c.borrow.ensures c.slot_mut-plain.ensures.value c.requires.numbers _ c.next_number-number.ensures

pub give_back-requires : goal.give_back-requires
give_back-requires g c =
    allocate_called c.borrow.ensures c.slot_mut-plain.ensures.value c.requires.idle c.requires.numbers c.next_number-number.ensures
    (rw c.identity-identity.ensures c.in-Ok.ensures.ok) c.put_any.ensures.leaving c.put_any.ensures.sound

pub give_back-requires-in-Err : goal.give_back-requires-in-Err
give_back-requires-in-Err g c =
    full_called c.borrow.ensures c.slot_mut-plain.ensures.value c.requires.idle c.in-Err.ensures.full c.in-Err.ensures.err c.put_any.ensures.sound

pub returns-in-Ok-clause-allocated : goal.returns-in-Ok-clause-allocated
returns-in-Ok-clause-allocated g c =
    allocated_so c.borrow.ensures c.slot_mut-plain.ensures.value c.next_number-number.ensures
    c.identity-identity.ensures c.give_back.ensures c.in-Ok.ensures.ok.0.0

pub returns-in-Err-clause-allocated : goal.returns-in-Err-clause-allocated
returns-in-Err-clause-allocated g c = (c.in-Err.ensures.refused, added c.borrow.ensures c.slot_mut-plain.ensures.value c.give_back-in-Err.ensures)
