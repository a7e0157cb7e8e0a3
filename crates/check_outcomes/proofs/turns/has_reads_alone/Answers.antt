use Rattle.check_outcomes.proofs.{◌≡◌, ◌∙◌, ◌+◌, ◌-◌, true, sym, arith, slice_index_or, all_asked, has_reads_at, below_more}
use Rattle.check_outcomes.proofs.AllReports.{as_many}
use Rattle.check_outcomes.proofs.turns.has_reads_alone.Goals.{else-part_of-part-via-then-part_of-part+else-not-has_reads_left}
use Rattle.check_outcomes.proofs.turns.has_reads_alone.Goals.{else-part_of-part-via-else-part_of-part}
use Rattle.check_outcomes.proofs.turns.has_reads_alone.Goals as goal

pub loop-i-preserved : goal.loop-i-preserved
loop-i-preserved c = below_more
    (λ k. slice_index_or c.args.numbers.now.of_chain.items k 0 ≡ c.args.part → has_reads_at c.args.submission.now c.args.state.now k ≡ true)
    c.loop-i.i c.loop-i.invariant (λ own. elim c.else-part_of-part.branch [
      | else-part_of-part-via-then-part_of-part+else-not-has_reads_left w ↦ sym w.has_reads_left.ensures ∙ w.if-not-has_reads_left.false
      | else-part_of-part-via-else-part_of-part w ↦ absurd (w.if-part_of-part.false (c.part_of.ensures ∙ own))
    ])

pub returns : goal.returns
returns c = λ _ chain low high own.
    let sub = c.args.submission.now in
    let many = as_many (all_asked sub.requests.now) sub.chains.now sub.runs in
    let number : chain ≡ chain - 1 + 1 = omega arith in
    rw number (c.loop-i.invariant (chain - 1) (omega (arith, c.loop-i-test.false)) own)
