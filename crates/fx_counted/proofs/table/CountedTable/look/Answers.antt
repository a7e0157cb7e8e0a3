use Rattle.fx_counted.proofs.{arith, slot_inside, its_pass, its_idle}
use Rattle.fx_counted.proofs.LookUps.{looks_keep}
use Rattle.fx_counted.proofs.table.CountedTable.look.Goals as goal

pub fetch_add-word-requires : goal.fetch_add-word-requires
fetch_add-word-requires c = let f = c.requires.fits in let place = c.slot_place.ensures in (
  f.table,
  slot_inside c.args.self.now c.requires.slot place,
  looks_keep _ _ _ _ c.args.slot c.args.pass.now.seat.me f.log (its_pass f) (its_idle f c.requires.idle)
      (omega (arith, c.if-pass-eq0.false, f.knows.looks_left)) c.requires.slot place,
)
