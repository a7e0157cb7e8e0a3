use Rattle.fx_counted.proofs.{Take, taken_so, removal_requires, removal_adds, taken}
use Rattle.fx_counted.proofs.table.CountedTable.take.Goals as goal

pub swap-found-requires : goal.swap-found-requires
swap-found-requires c = let began = c.begin-began.ensures in
    removal_requires Take c.args.self.now c.requires.fits c.slot_place.ensures c.begin-began.result taken c.requires.idle c.requires.slot
    began.table began.range began.goes

pub returns-clause-taken : goal.returns-clause-taken
returns-clause-taken c = let went = c.swap-found.ensures.2 in
    taken_so _ _ _ went.file _ _ _ (c.removed_in-removed.ensures went.file went.names) _ _ c.ok_or.ensures.value
    (removal_adds Take c.args.self.now c.requires.fits c.slot_place.ensures _ c.begin-began.ensures.goes went.stepped c.end.ensures.goes)
