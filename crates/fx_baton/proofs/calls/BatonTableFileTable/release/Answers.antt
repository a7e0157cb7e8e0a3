use Rattle.fx_baton.proofs.Calling.{may_lend, release_called, released_so}
use Rattle.fx_baton.proofs.calls.BatonTableFileTable.release.Goals as goal

pub slot_mut-plain-requires : goal.slot_mut-plain-requires
slot_mut-plain-requires g c = may_lend c.borrow.ensures

pub give_back-requires : goal.give_back-requires
give_back-requires g c = release_called c.borrow.ensures c.slot_mut-plain.ensures.value c.args.hold c.requires.held c.release-closed.ensures

pub returns-clause-released : goal.returns-clause-released
returns-clause-released g c =
    released_so c.borrow.ensures c.slot_mut-plain.ensures.value c.args.hold c.requires.held c.release-closed.new.self c.give_back.ensures _
    c.release-closed.ensures.answer
