use Rattle.fx_lasting.proofs.{refl, arith, [], ◌▷◌, Allocate, Full, opening_of, view_of, true, false, HasAsked, adds_then, no_use, one_number}
use Rattle.fx_lasting.proofs.{DoesNothing, sym, ◌∙◌, meets_then, new_file_so}
use Rattle.fx_lasting.proofs.range_lemmas.Questions.{asked_so}
use Rattle.fx_lasting.proofs.range_lemmas.Scanning.{Follows, gave_up}
use Rattle.fx_lasting.proofs.table.LastingTable.try_put_any.Goals as goal

pub returns-then-is_still_full : goal.returns-then-is_still_full
returns-then-is_still_full c =
    let h : HasAsked c.args.self.now 1 c.args.pass.now true c.is_still_full.new.pass = rw c.if-is_still_full.true at c.is_still_full.ensures in record {
      fits = h.fits;
      tried = (refl, asked_so h c.requires.idle);
      steps = let few = h.steps in omega arith;
      short = tt;
      met = h.met;
    }

pub try_slots-requires-clause-idle : goal.try_slots-requires-clause-idle
try_slots-requires-clause-idle c =
    let h : HasAsked c.args.self.now 1 c.args.pass.now false c.is_still_full.new.pass = rw c.if-is_still_full.false at c.is_still_full.ensures in
    (asked_so h c.requires.idle).now

pub try_slots-requires-clause-numbers : goal.try_slots-requires-clause-numbers
try_slots-requires-clause-numbers c =
    let h : HasAsked c.args.self.now 1 c.args.pass.now false c.is_still_full.new.pass = rw c.if-is_still_full.false at c.is_still_full.ensures in
    rw h.adds.numbers_left c.requires.numbers

pub returns-in-Ok : goal.returns-in-Ok
returns-in-Ok c =
    let k = c.args.self.now.table.shared.key in
    let h : HasAsked c.args.self.now 1 c.args.pass.now false c.is_still_full.new.pass = rw c.if-is_still_full.false at c.is_still_full.ensures in
    let t = c.in-Ok.ensures.tried in
    record {
      fits = c.in-Ok.ensures.fits;
      tried = (
        t.0,
        (
          t.1.0,
          new_file_so k t.1.1 refl,
          adds_then (opening_of k) (view_of c.args.pass.now) (view_of c.is_still_full.new.pass) (view_of c.try_slots.new.pass) []
              ([] ▷ Allocate c.in-Ok.slot t.1.0) DoesNothing DoesNothing no_use one_number (asked_so h c.requires.idle) t.1.2,
        ),
      );
      steps = omega (arith, h.steps, c.in-Ok.ensures.steps);
      short = tt;
      met = meets_then c.args.pass.now c.is_still_full.new.pass c.try_slots.new.pass h.met c.in-Ok.ensures.met;
    }

pub is_all_full-requires-clause-numbers : goal.is_all_full-requires-clause-numbers
is_all_full-requires-clause-numbers c =
    let h : HasAsked c.args.self.now 1 c.args.pass.now false c.is_still_full.new.pass = rw c.if-is_still_full.false at c.is_still_full.ensures in
    rw c.in-Err.ensures.tried.1.numbers_left (rw h.adds.numbers_left c.requires.numbers)

pub returns-then-is_all_full : goal.returns-then-is_all_full
returns-then-is_all_full c =
    let k = c.args.self.now.table.shared.key in
    let h : HasAsked c.args.self.now 1 c.args.pass.now false c.is_still_full.new.pass = rw c.if-is_still_full.false at c.is_still_full.ensures in
    let t = c.in-Err.ensures.tried in
    let before = adds_then (opening_of k) (view_of c.args.pass.now) (view_of c.is_still_full.new.pass) (view_of c.try_slots.new.pass) [] []
    DoesNothing DoesNothing no_use no_use (asked_so h c.requires.idle) t.1 in
    let sure = rw c.if-is_all_full.true at c.is_all_full.ensures.asked in
    record {
      fits = sure.fits;
      tried = (
        t.0,
        adds_then (opening_of k) (view_of c.args.pass.now) (view_of c.try_slots.new.pass) (view_of c.is_all_full.new.pass) [] ([] ▷ Full)
            DoesNothing DoesNothing no_use no_use before (asked_so sure t.1.now),
      );
      steps = omega (arith, h.steps, c.in-Err.ensures.steps, sure.steps);
      short = tt;
      met = meets_then c.args.pass.now c.try_slots.new.pass c.is_all_full.new.pass
          (meets_then c.args.pass.now c.is_still_full.new.pass c.try_slots.new.pass h.met c.in-Err.ensures.met) sure.met;
    }

pub returns-else-is_all_full : goal.returns-else-is_all_full
returns-else-is_all_full c =
    let k = c.args.self.now.table.shared.key in
    let h : HasAsked c.args.self.now 1 c.args.pass.now false c.is_still_full.new.pass = rw c.if-is_still_full.false at c.is_still_full.ensures in
    let t = c.in-Err.ensures.tried in
    let before = adds_then (opening_of k) (view_of c.args.pass.now) (view_of c.is_still_full.new.pass) (view_of c.try_slots.new.pass) [] []
    DoesNothing DoesNothing no_use no_use (asked_so h c.requires.idle) t.1 in
    let sure = rw c.if-is_all_full.false at c.is_all_full.ensures.asked in
    let since : Follows c.is_still_full.new.pass.seat.me c.try_slots.new.pass.seat.me =
    record { number = t.1.number; start = c.in-Err.ensures.fits.seated.at.pass.0 ∙ sym h.fits.seated.at.pass.0; seen = t.1.seen; met = c.in-Err.ensures.met.0; changes = c.in-Err.ensures.met.1 } in
    record {
      fits = sure.fits;
      tried = (
        t.0,
        adds_then (opening_of k) (view_of c.args.pass.now) (view_of c.try_slots.new.pass) (view_of c.is_all_full.new.pass) [] []
            DoesNothing DoesNothing no_use no_use before (asked_so sure t.1.now),
      );
      steps = omega (arith, h.steps, c.in-Err.ensures.steps, sure.steps);
      short = gave_up k c.args.pass.now c.is_still_full.new.pass c.try_slots.new.pass c.is_all_full.new.pass (asked_so h c.requires.idle).seen h.met since
          h.fits.seated.at.pass.0 (asked_so h c.requires.idle).number (asked_so sure t.1.now).seen sure.met c.in-Err.ensures.fails (c.is_all_full.ensures.short c.if-is_all_full.false);
      met = meets_then c.args.pass.now c.try_slots.new.pass c.is_all_full.new.pass
          (meets_then c.args.pass.now c.is_still_full.new.pass c.try_slots.new.pass h.met c.in-Err.ensures.met) sure.met;
    }
