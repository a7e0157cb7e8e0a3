use Rattle.check_outcomes.proofs.{sym, reads_here}
use Rattle.check_outcomes.proofs.state.PlayState.has_reads_left.Goals as goal

pub returns : goal.returns
returns c = reads_here c.args.submission.now c.args.self.now c.args.i c.members.result.now c.left.result.now c.members.ensures.run
    (sym c.progress.ensures) c.left.ensures.left c.are_reads.ensures
