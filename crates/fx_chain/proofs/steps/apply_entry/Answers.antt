use Rattle.fx_chain.proofs.Words.{length, to_z-of_z, w32}
use Rattle.fx_chain.proofs.ActsInTurn.{so_nothing}
use Rattle.fx_chain.proofs.EntryKinds.{leaves_slot}
use Rattle.fx_chain.proofs.steps.apply_entry.Goals as goal

pub returns-else-entry-gtminus2-clause-applied : goal.returns-else-entry-gtminus2-clause-applied
returns-else-entry-gtminus2-clause-applied g c =
    let read = to_z-of_z w32 c.args.entry c.ranges.entry in
    let seen = (g.met.T.FileTable g.world.𝓛 g.world.𝓜 g.world.𝓡 ((λ s x. x), (λ x. x), (λ x. x), λ x. x)).fronts _ _ c.requires.ready.0 in
    so_nothing _ seen c.requires.ready.1 (leaves_slot c.args.context.now.place c.args.in_list c.args.slot (length c.args.context.now.catalogue.now)
    c.args.entry c.requires.good (rw read at c.if-entry-ge0.false) (rw read at c.if-entry-gtminus2.false))
