use Rattle.fx_lasting.proofs.{◌∙◌, arith, refl, true, false, SeesFile, Some, runs_none, runs_within}
use Rattle.fx_lasting.proofs.slot_lemmas.ByNode.{stands_then}
use Rattle.fx_lasting.proofs.range_lemmas.GapSearches.{looks_then, looks_within, looks_at}
use Rattle.fx_lasting.proofs.range_lemmas.Scanning.{follows, full_lasts, one_more}
use Rattle.fx_lasting.proofs.table.LastingTable.look_between.Goals as goal

pub loop-slot-init : goal.loop-slot-init
loop-slot-init c = record {
  table = refl;
  places = refl;
  still = runs_within (omega arith) (runs_none c.requires.at.1 0);
  full = λ slot low high. absurd (omega (arith, low, high));
}

pub loop-slot-preserved : goal.loop-slot-preserved
loop-slot-preserved c =
    let i = c.loop-slot.invariant in
    let k = c.args.self.now.table.shared.key in
    let saw : SeesFile k c.loop-slot.slot c.loop-slot.seat.me true c.sees_file.new.seat.me =
    rw c.if-not-sees_file.false at c.sees_file.ensures.saw in record {
      table = c.sees_file.ensures.table ∙ i.table;
      places = c.sees_file.ensures.places ∙ i.places;
      still = runs_within (omega (arith, c.loop-slot.auto.slot)) (stands_then i.still saw.1);
      full = one_more (full_lasts k) c.args.from c.loop-slot.slot c.args.seat.now.me c.loop-slot.seat.me c.sees_file.new.seat.me i.full (follows i.still)
          (follows saw.1) saw.0;
    }

pub returns-then-not-sees_file-clause-looks : goal.returns-then-not-sees_file-clause-looks
returns-then-not-sees_file-clause-looks c =
    let k = c.args.self.now.table.shared.key in
    let i = c.loop-slot.invariant in
    let saw : SeesFile k c.loop-slot.slot c.loop-slot.seat.me false c.sees_file.new.seat.me = rw c.if-not-sees_file.true at c.sees_file.ensures.saw in
    looks_within k c.args.seat.now.me c.sees_file.new.seat.me (Some c.loop-slot.slot) (omega (arith, c.loop-slot-test.true, c.loop-slot.auto.slot))
    (looks_then k c.args.seat.now.me c.loop-slot.seat.me c.sees_file.new.seat.me 1 (Some c.loop-slot.slot) i.still
    (looks_at c.sees_file.new.seat.me (c.requires.range c.loop-slot.slot c.loop-slot.auto.slot c.loop-slot-test.true) saw))

pub returns-clause-looks : goal.returns-clause-looks
returns-clause-looks c = runs_within (omega (arith, c.loop-slot.auto.slot, c.loop-slot-test.false)) c.loop-slot.invariant.still

pub returns-clause-full : goal.returns-clause-full
returns-clause-full c none = λ slot low high. c.loop-slot.invariant.full slot low (omega (arith, high, c.loop-slot-test.false))
