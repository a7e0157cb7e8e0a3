use Rattle.fx_baton.proofs.{sym, ◌∙◌, arith, may_lend, slot_inside, look_called, empty_looked, file_looked}
use Rattle.fx_baton.proofs.calls.BatonTableFileTable.look.Goals as goal

pub slot_mut-plain-requires : goal.slot_mut-plain-requires
slot_mut-plain-requires g c = may_lend c.borrow.ensures

pub look-found-requires-clause-slot : goal.look-found-requires-clause-slot
look-found-requires-clause-slot g c = slot_inside c.borrow.ensures c.slot_mut-plain.ensures.value c.requires.slot

pub give_back-requires : goal.give_back-requires
give_back-requires g c =
    let l = c.look-found.ensures in let some_left = c.if-pass-eq0.false in
    look_called c.borrow.ensures c.slot_mut-plain.ensures.value c.requires.idle (omega arith) l.step l.leaving l.answer c.is_none.ensures l.sound

pub returns-in-None-clause-looked : goal.returns-in-None-clause-looked
returns-in-None-clause-looked g c =
    empty_looked c.borrow.ensures c.slot_mut-plain.ensures.value c.give_back.ensures (sym c.in-None.is ∙ c.look-found.ensures.answer)

pub returns-in-Some-clause-looked : goal.returns-in-Some-clause-looked
returns-in-Some-clause-looked g c =
    file_looked c.borrow.ensures c.slot_mut-plain.ensures.value c.give_back.ensures (sym c.in-Some.is ∙ c.look-found.ensures.answer)
