use Rattle.fx_ring.proofs.Words.{◌+◌, ◌≡◌, ◌∙◌, ap, arith, length, State, state_of}
use Rattle.fx_ring.proofs.ListSteps.{all_applied, none_applied, room_next, applied_next}
use Rattle.fx_ring.proofs.Rings.{opening_files}
use Rattle.fx_ring.proofs.list.apply_list.Goals as goal

pub apply_number-requires-clause-fresh : goal.apply_number-requires-clause-fresh
apply_number-requires-clause-fresh c = c.loop-i.invariant.fresh (c.size-first.result + c.loop-i.i) (omega arith) (omega (arith, c.loop-i-test.true))

pub apply_number-requires-clause-room : goal.apply_number-requires-clause-room
apply_number-requires-clause-room c = room_next c.loop-i-test.true c.loop-i.invariant.applied c.requires.room

pub loop-i-preserved : goal.loop-i-preserved
loop-i-preserved c = record {
  applied = applied_next c.loop-i-test.true c.loop-i.invariant.applied c.apply_number.ensures.files;
  fresh = λ number low high. c.apply_number.ensures.fresh number (omega (arith, low))
      ∙ c.loop-i.invariant.fresh number (omega (arith, low)) high;
}

pub loop-i-init : goal.loop-i-init
loop-i-init c =
    let st = state_of c.args.table.now in
    let opened = c.in-Ok.ensures.ok in
    record {
      applied = none_applied (ap (λ (s : State). s.size) opened) (ap (λ (s : State). s.range) opened)
          (opening_files st (c.size-first.result + length c.args.numbers.now.list.now) opened) c.in-Ok.ensures.settled;
      fresh = λ number low high. c.in-Ok.ensures.fresh number (omega (arith, c.size-first.ensures.value, low)) (omega (arith, high));
    }

pub returns-clause-ok : goal.returns-clause-ok
returns-clause-ok c =
    let all : c.loop-i.i ≡ length c.args.numbers.now.list.now = omega (arith, c.loop-i-test.false, c.loop-i.auto.i-end) in
    all_applied (rw all at c.loop-i.invariant.applied)
