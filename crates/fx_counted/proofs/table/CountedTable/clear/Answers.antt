use Rattle.fx_counted.proofs.{Clear, cleared_so, removal_requires, removal_adds, cleared}
use Rattle.fx_counted.proofs.table.CountedTable.clear.Goals as goal

pub swap-found-requires : goal.swap-found-requires
swap-found-requires c = let began = c.begin-began.ensures in
    removal_requires Clear c.args.self.now c.requires.fits c.slot_place.ensures c.begin-began.result cleared c.requires.idle c.requires.slot
    began.table began.range began.goes

pub returns-clause-cleared : goal.returns-clause-cleared
returns-clause-cleared c = let went = c.swap-found.ensures.2 in
    cleared_so _ _ _ went.file _ _ _ (c.removed_in-removed.ensures went.file went.names)
    (removal_adds Clear c.args.self.now c.requires.fits c.slot_place.ensures _ c.begin-began.ensures.goes went.stepped c.end.ensures.goes)
