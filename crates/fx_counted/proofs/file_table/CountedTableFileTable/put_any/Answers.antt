use Rattle.fx_counted.proofs.{inr, refl, ◌∙◌, arith, Some, HasPlace, new_here, its_pass, adds_so, goes_one, goes_then}
use Rattle.fx_counted.proofs.file_table.CountedTableFileTable.put_any.Goals as goal

pub returns-in-Some-clause-allocated : goal.returns-in-Some-clause-allocated
returns-in-Some-clause-allocated g c =
    let size = c.args.self.now.same_size in let below = c.in-Some.ensures.slot in
    let found = rw c.identity-identity.ensures at c.in-Some.ensures.found in let placed = goes_then (goes_one c.put_in.ensures.born) found.0.1 in
    (omega arith, (_, new_here _ _ 0 _ _ _ c.next_number-number.ensures.number refl, adds_so c.requires.fits placed))

pub returns-in-None-clause-allocated : goal.returns-in-None-clause-allocated
returns-in-None-clause-allocated g c =
    let fits = c.requires.fits in let born = c.put_in.ensures in let full = c.rounds.ensures.full c.in-None.is in
    let place : HasPlace c.args.self.now.table.shared.key c.next_number-number.result (Some c.args.file) c.rounds.new.seat.me = record {
      log = full.0.1.one.0;
      pass = (full.0.1.start ∙ (born.born.start ∙ (its_pass fits).0), full.0.1.one.1);
      known = born.place.known;
      work = inr full.0.1.work;
      place = full.1 ∙ born.place.place;
    } in
    let goes = goes_then (goes_then (goes_one born.born) full.0.1) (goes_one c.take_out.ensures.rests) in
    (c.take_out.ensures.file c.args.file place, adds_so fits goes)
