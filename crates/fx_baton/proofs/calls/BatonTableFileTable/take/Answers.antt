use Rattle.fx_baton.proofs.{state_of, taken_so, may_lend, slot_inside, take_called, added}
use Rattle.fx_baton.proofs.calls.BatonTableFileTable.take.Goals as goal

pub slot_mut-plain-requires : goal.slot_mut-plain-requires
slot_mut-plain-requires g c = may_lend c.borrow.ensures

pub entry_at-entry-requires : goal.entry_at-entry-requires
entry_at-entry-requires g c = slot_inside c.borrow.ensures c.slot_mut-plain.ensures.value c.requires.slot

pub take-removed-requires : goal.take-removed-requires
take-removed-requires g c = slot_inside c.borrow.ensures c.slot_mut-plain.ensures.value c.requires.slot

pub give_back-requires : goal.give_back-requires
give_back-requires g c = take_called c.borrow.ensures c.slot_mut-plain.ensures.value c.requires.idle c.take-removed.ensures c.is_none.ensures

pub returns-clause-taken : goal.returns-clause-taken
returns-clause-taken g c =
    taken_so _ _ c.args.slot _ 0 _ _
    (c.retired.ensures ((state_of c.slot_mut-plain.result.now).at c.args.slot) c.take-removed.ensures.answer c.entry_at-entry.ensures)
    _ _ c.ok_or.ensures.value (added c.borrow.ensures c.slot_mut-plain.ensures.value c.give_back.ensures)
