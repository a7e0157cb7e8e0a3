use Rattle.check_outcomes.proofs.{refl, arith, sym, ◌∙◌, false≢true, length-append, ◌∷◌, [], start_more}
use Rattle.check_outcomes.proofs.state.start.Goals.{then-submission+in_ok-push_lists, else-submission}
use Rattle.check_outcomes.proofs.state.start.Goals as goal

pub loop-i-init : goal.loop-i-init
loop-i-init c = record {
  recorded = rw c.requires refl;
  chains = rw c.new-chains.ensures.items refl;
  each = λ k low. absurd (omega (arith, low));
}

pub loop-i-preserved : goal.loop-i-preserved
loop-i-preserved c =
    let before = c.loop-i.invariant in
    let settles = rw (c.first.ensures, c.members-own.ensures.run, c.new-answers.ensures.items) at c.in_ok-done.ensures in
    record {
      recorded = rw c.in_ok-push-2.ensures.items (omega (arith, before.recorded, length-append c.loop-i.recorded.items (c.settle.new.recorded ∷ [])));
      chains = rw c.in_ok-push.ensures.items (omega (arith, before.chains, length-append c.loop-i.chains.items (record { done = c.in_ok-done.done; made = 0 } ∷ [])));
      each = rw (c.in_ok-push-2.ensures.items, c.in_ok-push.ensures.items) (start_more before.recorded before.chains before.each c.settle.new.recorded settles);
    }

pub returns : goal.returns
returns c = record {
  table = c.in_ok-slots.ensures;
  chains = λ i few. c.loop-i.invariant.each i (omega (arith, few, c.loop-i-test.false));
  kept = λ with_reports. elim c.if-submission.branch [
    | then-submission+in_ok-push_lists w ↦ rw w.way_report-is (rw (c.none-way_report.ensures.answers, w.deref.ensures.value) at w.in_ok-push_lists.ensures)
    | else-submission w ↦ absurd (false≢true (sym w.if-submission.false ∙ with_reports))
  ];
  removed = elim c.if-submission.branch [
    | then-submission+in_ok-push_lists w ↦ rw w.way_report-is c.none-way_report.ensures.removed
    | else-submission w ↦ rw w.way_report-is c.none-way_report.ensures.removed
  ];
}
