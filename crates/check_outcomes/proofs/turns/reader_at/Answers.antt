use Rattle.check_outcomes.proofs.{sym, ◌∙◌}
use Rattle.check_outcomes.proofs.AllReports.{is_reader}
use Rattle.check_outcomes.proofs.turns.reader_at.Goals as goal

pub returns-then-not-is_idle : goal.returns-then-not-is_idle
returns-then-not-is_idle c = is_reader c.args.submission.now c.args.numbers.now c.args.state.now
    (c.has_reads_alone.ensures c.if-not-has_reads_alone.false) (sym c.part_of.ensures ∙ c.if-part_of-part.true) (sym c.is_idle.ensures ∙ c.if-not-is_idle.true)
