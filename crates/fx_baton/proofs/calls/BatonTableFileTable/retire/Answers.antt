use Rattle.fx_baton.proofs.Calling.{may_lend, retire_called, retired_so}
use Rattle.fx_baton.proofs.calls.BatonTableFileTable.retire.Goals as goal

pub slot_mut-plain-requires : goal.slot_mut-plain-requires
slot_mut-plain-requires g c = may_lend c.borrow.ensures

pub give_back-requires : goal.give_back-requires
give_back-requires g c =
    let l = c.retire-closed.ensures in
    retire_called c.borrow.ensures c.slot_mut-plain.ensures.value c.args.retired c.requires.removed l.steps l.leaving l.sound

pub returns-clause-retired : goal.returns-clause-retired
returns-clause-retired g c =
    let l = c.retire-closed.ensures in
    retired_so c.borrow.ensures c.slot_mut-plain.ensures.value c.args.retired c.requires.removed c.retire-closed.new.self c.give_back.ensures _ l.answer l.steps
