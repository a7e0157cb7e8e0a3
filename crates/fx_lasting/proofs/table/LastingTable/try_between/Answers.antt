use Rattle.fx_lasting.proofs.{◌∙◌, arith, refl, placed_none}
use Rattle.fx_lasting.proofs.range_lemmas.Trying.{still_then, allocated_then, still_within, allocated_within}
use Rattle.fx_lasting.proofs.range_lemmas.Scanning.{follows, fails_last, one_more}
use Rattle.fx_lasting.proofs.table.LastingTable.try_between.Goals as goal

pub loop-slot-init : goal.loop-slot-init
loop-slot-init c = record {
  table = refl;
  still = still_within c.args.file (omega arith) (placed_none c.requires.at.1 c.requires.placing.work, refl);
  fails = λ slot low high. absurd (omega (arith, low, high));
}

pub loop-slot-preserved : goal.loop-slot-preserved
loop-slot-preserved c = let i = c.loop-slot.invariant in record {
  table = c.try_slot.ensures.table ∙ i.table;
  still = still_within c.args.file (omega (arith, c.loop-slot.auto.slot)) (still_then c.args.file i.still c.in_default.ensures.tries);
  fails = one_more (fails_last c.args.self.now.table.shared.key) c.args.from c.loop-slot.slot c.args.seat.now.me c.loop-slot.seat.me c.try_slot.new.seat.me i.fails
      (follows i.still.0) (follows c.in_default.ensures.tries.0) (c.in_default.ensures.fails refl);
}

pub returns-in-Some-clause-found : goal.returns-in-Some-clause-found
returns-in-Some-clause-found c = allocated_within c.args.seat.now.me c.try_slot.new.seat.me c.args.node c.loop-slot.slot c.in-Some.named c.args.file
    (omega (arith, c.loop-slot-test.true, c.loop-slot.auto.slot))
    (allocated_then c.in-Some.named c.loop-slot.invariant.still c.in-Some.ensures.tries)

pub returns-clause-none : goal.returns-clause-none
returns-clause-none c none = still_within c.args.file (omega (arith, c.loop-slot.auto.slot, c.loop-slot-test.false)) c.loop-slot.invariant.still

pub returns-clause-fails : goal.returns-clause-fails
returns-clause-fails c none = λ slot low high. c.loop-slot.invariant.fails slot low (omega (arith, high, c.loop-slot-test.false))
