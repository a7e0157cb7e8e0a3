use Rattle.check_outcomes.proofs.{◌∙◌, false≢true, refl, sym, eq-eqb, idle_some_here}
use Rattle.check_outcomes.proofs.state.PlayState.is_idle.Goals as goal

pub returns-then-are_reads : goal.returns-then-are_reads
returns-then-are_reads c =
    sym (idle_some_here c.args.submission.now c.args.self.now c.args.i c.members.result.now c.left-left.result.now
    c.members.ensures.run (sym c.progress-progress.ensures) c.left-left.ensures.left
    (λ none. false≢true (sym c.if-is_empty.false ∙ (c.is_empty.ensures ∙ eq-eqb _ 0 none))) c.if-submission.false
    (sym c.if-are_reads.true ∙ c.are_reads.ensures) c.asks_after.ensures)

pub returns-else-are_reads : goal.returns-else-are_reads
returns-else-are_reads c =
    c.if-are_reads.false ∙ sym (idle_some_here c.args.submission.now c.args.self.now c.args.i c.members.result.now c.left-left.result.now
    c.members.ensures.run (sym c.progress-progress.ensures) c.left-left.ensures.left
    (λ none. false≢true (sym c.if-is_empty.false ∙ (c.is_empty.ensures ∙ eq-eqb _ 0 none))) c.if-submission.false
    (sym c.if-are_reads.false ∙ c.are_reads.ensures) refl)
