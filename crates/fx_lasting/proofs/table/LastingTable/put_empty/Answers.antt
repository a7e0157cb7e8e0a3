use Rattle.fx_lasting.proofs.{alone_in, ◌<◌, nodes_of, inr, refl, sym, ap, ◌∙◌, subst, arith, [], Some, HasPlace, numbered, Start, Work, Runs, rested}
use Rattle.fx_lasting.proofs.{pass_in, true, false, no_use, one_number, SeesFile, label_of, as_written, begins_at, adds_swapped, swapped_pass}
use Rattle.fx_lasting.proofs.{swapped_rest, adds_so, at_rest, still_pass, its_place, its_flag, may_install, still_at_work, does_then}
use Rattle.fx_lasting.proofs.slot_lemmas.ByNode.{adds_none, was_further}
use Rattle.fx_lasting.proofs.range_lemmas.Trying.{in_size, placing_now, stocked_at, swapped_does}
use Rattle.fx_lasting.proofs.slot_lemmas.Overtaking.{was_lost}
use Rattle.fx_lasting.proofs.table.LastingTable.put_empty.Goals as goal

pub sees_file-requires-clause-slot : goal.sees_file-requires-clause-slot
sees_file-requires-clause-slot c = in_size c.args.self.now c.args.slot c.requires.range

pub returns-then-sees_file : goal.returns-then-sees_file
returns-then-sees_file c =
    let k : Start = c.args.self.now.table.shared.key in
    let fits = c.requires.fits in
    let s = fits.seated in
    let saw : SeesFile k c.args.slot c.args.pass.now.seat.me true c.sees_file.new.seat.me =
    rw c.if-sees_file.true at c.sees_file.ensures.saw in
    let run = at_rest fits saw.1 in
    record {
      fits = still_pass s _ run (refl, refl) c.sees_file.ensures.table (c.sees_file.ensures.places ∙ s.places) (refl, s.next) fits.knows;
      placed = (refl, record { was = saw.0; adds = adds_none fits c.requires.idle saw.1 });
      steps = let few = run.steps in omega arith;
    }

pub place-entry-requires : goal.place-entry-requires
place-entry-requires c =
    let f = c.requires.fits in
    record {
      table = c.sees_file.ensures.table ∙ f.seated.table;
      at = still_at_work f.seated.at c.sees_file.ensures.saw.1;
      may = rw (c.sees_file.ensures.saw.1.work, c.as_slice-stock.ensures.value) (its_place f c.requires.idle);
      places = c.sees_file.ensures.places ∙ f.seated.places;
      installs = omega (arith, may_install f.seated c.requires.numbers, c.args.self.now.key.1);
      stock = c.as_slice-stock.ensures.value ∙ (f.seated.stock ∙ sym c.sees_file.ensures.saw.1.stock);
      start = begins_at c.args.self.now f (omega (arith, may_install f.seated c.requires.numbers, c.args.self.now.key.1));
    }

pub try_slot-requires : goal.try_slot-requires
try_slot-requires c =
    let f = c.requires.fits in
    let saw = c.sees_file.ensures.saw in
    let placed = does_then saw.1 c.place-entry.ensures.placed in
    record {
      table = c.place-entry.ensures.table ∙ (c.sees_file.ensures.table ∙ f.seated.table);
      at = (c.args.pass.now.number, still_at_work f.seated.at placed);
      placing = placing_now c.place-entry.result.0 c.args.file (c.as_slice-stock.ensures.value ∙ (f.seated.stock ∙ sym saw.1.stock)) c.place-entry.ensures.placed
          c.place-entry.ensures.few_lost c.place-entry.ensures.place c.place-entry.ensures.stocked c.identity-identity.ensures;
      change = placed.change ∙ f.seated.change;
      range = c.requires.range;
    }

pub returns-in-Some : goal.returns-in-Some
returns-in-Some c =
    let k : Start = c.args.self.now.table.shared.key in
    let fits = c.requires.fits in
    let s = fits.seated in
    let sought = c.place-entry.ensures in
    let e = c.place-entry.result.0 in
    let named = c.in-Some.named in
    let placed = does_then c.sees_file.ensures.saw.1 sought.placed in
    let found = c.in-Some.ensures.tries in
    let inside : named < nodes_of k = subst (λ (z : Start). named < nodes_of z) (placed.start ∙ s.at.pass.0) found.0 in
    let z = found.2 e (stocked_at c.as_slice-stock.result.now c.args.pass.now.seat.me c.place-entry.new.seat.me e c.place-entry.result.1
    (c.as_slice-stock.ensures.value ∙ s.stock) placed.stock sought.stocked) in
    let run = swapped_rest fits e named (swapped_does e named placed z.2) in
    let adds = adds_swapped s e named inside run one_number in
    record {
      fits = swapped_pass s e named inside _ run (refl, refl)
          (c.try_slot.ensures.table ∙ (sought.table ∙ c.sees_file.ensures.table)) found.1
          (refl, λ _. omega (arith, sought.entry, c.args.self.now.key.0))
          (its_flag fits c.requires.idle, refl);
      placed = (
        numbered z.0 c.identity-identity.result,
        record { identity = c.identity-identity.ensures; same = λ e. absurd (cc e) },
        adds,
      );
      steps = let few = run.steps in omega arith;
    }

pub take_out-requires : goal.take_out-requires
take_out-requires c =
    let still = c.in_default.ensures.tries in
    let run = does_then (does_then c.sees_file.ensures.saw.1 c.place-entry.ensures.placed) still.0 in
    record {
      table = c.try_slot.ensures.table ∙ (c.place-entry.ensures.table ∙ (c.sees_file.ensures.table ∙ c.requires.fits.seated.table));
      at = (c.args.pass.now.number, still_at_work c.requires.fits.seated.at run);
      place = (c.args.file, record { work = inr (as_written c.place-entry.result.2 (label_of c.identity-identity.result), ap alone_in still.0.work); place = still.1 ∙ c.place-entry.ensures.place });
    }

pub returns : goal.returns
returns c =
    let k : Start = c.args.self.now.table.shared.key in
    let fits = c.requires.fits in
    let s = fits.seated in
    let saw : SeesFile k c.args.slot c.args.pass.now.seat.me false c.sees_file.new.seat.me =
    rw c.if-sees_file.false at c.sees_file.ensures.saw in
    let sought = c.place-entry.ensures in
    let still = c.in_default.ensures.tries in
    let end = c.take_out.ensures in
    let m₃ = c.try_slot.new.seat.me in
    let since = does_then sought.placed still.0 in
    let rests = subst (λ (z : Work). Runs m₃ [] (rested z) m₃.0.glance m₃.0.change 1 c.take_out.new.seat.me) still.0.work end.rests in
    let run = at_rest fits (does_then (does_then saw.1 since) rests) in
    let place : HasPlace c.place-entry.result.1 (Some c.args.file) m₃ = record { work = inr (as_written c.place-entry.result.2 (label_of c.identity-identity.result), ap alone_in still.0.work); place = still.1 ∙ c.place-entry.ensures.place } in
    record {
      fits = still_pass s _ run (refl, refl)
          (end.table ∙ (c.try_slot.ensures.table ∙ (sought.table ∙ c.sees_file.ensures.table))) end.empty
          (refl, λ _. omega (arith, sought.entry, c.args.self.now.key.0)) (its_flag fits c.requires.idle, refl);
      placed = (
        end.file c.args.file place,
        record { was = was_further (pass_in c.take_out.new.seat.me).front saw.0 (does_then since rests).seen; adds = adds_so s run no_use },
        was_lost k c.args.slot c.args.pass.now (record c.args.pass.now { seat = c.take_out.new.seat; next_entry = c.place-entry.result.0; keeps = false }) c.sees_file.new.seat.me c.place-entry.new.seat.me m₃ s.at.pass.0 (does_then saw.1 sought.placed) run.own (run.changes c.args.slot) sought.placed.seen rests.seen rests.met (rests.changes c.args.slot) saw.0
            (c.in_default.ensures.fails refl),
      );
      steps = let few = run.steps in omega arith;
    }
