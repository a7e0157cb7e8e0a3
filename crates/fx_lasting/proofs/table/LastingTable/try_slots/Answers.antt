use Rattle.fx_lasting.proofs.{alone_in, inr, refl, ap, ◌∙◌, subst, arith, HasPlace, Some, Work, numbered, Runs, [], rested, no_use, one_number}
use Rattle.fx_lasting.proofs.{label_of, as_written, ◌<◌, Start, nodes_of, still_at_work, does_then, adds_swapped, swapped_pass, swapped_rest, adds_so}
use Rattle.fx_lasting.proofs.{at_rest, still_pass, its_place, its_flag, may_install, begins_at}
use Rattle.fx_lasting.proofs.range_lemmas.Trying.{placing_now, stocked_at, swapped_does}
use Rattle.fx_lasting.proofs.range_lemmas.Scanning.{fails_last, follows}
use Rattle.fx_lasting.proofs.table.LastingTable.try_slots.Goals as goal

pub place-entry-requires : goal.place-entry-requires
place-entry-requires c =
    let f = c.requires.fits in
    record {
      table = f.seated.table;
      at = f.seated.at;
      may = rw c.as_slice-stock.ensures.value (its_place f c.requires.idle);
      places = f.seated.places;
      installs = omega (arith, may_install f.seated c.requires.numbers, c.args.self.now.key.1);
      stock = c.as_slice-stock.ensures.value ∙ f.seated.stock;
      start = begins_at c.args.self.now f (omega (arith, may_install f.seated c.requires.numbers, c.args.self.now.key.1));
    }

pub scan-requires : goal.scan-requires
scan-requires c =
    let s = c.requires.fits.seated in
    let placed = c.place-entry.ensures in
    record {
      table = placed.table ∙ s.table;
      at = still_at_work s.at placed.placed;
      placing = placing_now c.place-entry.result.0 c.args.file (c.as_slice-stock.ensures.value ∙ s.stock) placed.placed placed.few_lost placed.place placed.stocked
          c.identity-identity.ensures;
      change = placed.placed.change ∙ s.change;
    }

pub returns-in-Some : goal.returns-in-Some
returns-in-Some c =
    let k : Start = c.args.self.now.table.shared.key in
    let fits = c.requires.fits in
    let s = fits.seated in
    let sought = c.place-entry.ensures in
    let e = c.place-entry.result.0 in
    let named = c.in-Some.named in
    let found = c.in-Some.ensures.found in
    let inside : named < nodes_of k = subst (λ (z : Start). named < nodes_of z) (sought.placed.start ∙ s.at.pass.0) found.0 in
    let z = found.2 e (stocked_at c.as_slice-stock.result.now c.args.pass.now.seat.me c.place-entry.new.seat.me e c.place-entry.result.1
    (c.as_slice-stock.ensures.value ∙ s.stock) sought.placed.stock sought.stocked) in
    let run = swapped_rest fits e named (swapped_does e named sought.placed z.2) in
    let adds = adds_swapped s e named inside run one_number in
    record {
      fits = swapped_pass s e named inside _ run (refl, refl) (c.scan.ensures.table ∙ sought.table) found.1
          (refl, λ _. omega (arith, sought.entry, c.args.self.now.key.0)) (its_flag fits c.requires.idle, refl);
      tried = (
        omega (arith, c.in-Some.ensures.slot, c.args.self.now.same_size),
        (
          numbered z.0 c.identity-identity.result,
          record { identity = c.identity-identity.ensures; same = λ e. absurd (cc e) },
          adds,
        ),
      );
      steps = let few = run.steps in omega arith;
      met = (run.met, run.changes);
      fails = tt;
    }

pub take_out-requires-clause-at : goal.take_out-requires-clause-at
take_out-requires-clause-at c =
    (c.args.pass.now.number, still_at_work c.requires.fits.seated.at (does_then c.place-entry.ensures.placed (c.scan.ensures.none c.in-None.is).0))

pub take_out-requires-clause-place : goal.take_out-requires-clause-place
take_out-requires-clause-place c = let still = c.scan.ensures.none c.in-None.is in
    (c.args.file, record { work = inr (as_written c.place-entry.result.2 (label_of c.identity-identity.result), ap alone_in still.0.work); place = still.1 ∙ c.place-entry.ensures.place })

pub returns-in-None : goal.returns-in-None
returns-in-None c =
    let t = c.args.self.now in
    let k : Start = t.table.shared.key in
    let fits = c.requires.fits in
    let still = c.scan.ensures.none c.in-None.is in
    let before = does_then c.place-entry.ensures.placed still.0 in
    let m = c.scan.new.seat.me in
    let run = at_rest fits (does_then before (subst (λ (w : Work). Runs m [] (rested w) m.0.glance m.0.change 1 c.take_out.new.seat.me)
    still.0.work c.take_out.ensures.rests)) in
    let place : HasPlace c.place-entry.result.1 (Some c.args.file) c.scan.new.seat.me =
    record { work = inr (as_written c.place-entry.result.2 (label_of c.identity-identity.result), ap alone_in still.0.work); place = still.1 ∙ c.place-entry.ensures.place } in
    record {
      fits = still_pass fits.seated _ run (refl, refl)
          (c.take_out.ensures.table ∙ (c.scan.ensures.table ∙ c.place-entry.ensures.table))
          c.take_out.ensures.empty (refl, λ _. omega (arith, c.place-entry.ensures.entry, t.key.0)) (its_flag fits c.requires.idle, refl);
      tried = (c.take_out.ensures.file c.args.file place, adds_so fits.seated run no_use);
      steps = let few = run.steps in omega arith;
      met = (run.met, run.changes);
      fails = λ slot its. (fails_last k).later c.args.pass.now.seat.me m c.take_out.new.seat.me slot
          ((fails_last k).earlier c.args.pass.now.seat.me c.place-entry.new.seat.me m slot (follows c.place-entry.ensures.placed) (c.scan.ensures.fails c.in-None.is slot its))
          (follows c.take_out.ensures.rests);
    }
