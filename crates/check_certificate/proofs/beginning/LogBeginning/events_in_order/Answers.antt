use Rattle.check_certificate.proofs.Words.{arith}
use Rattle.check_certificate.proofs.Forcing.{positions_forced}
use Rattle.check_certificate.proofs.beginning.LogBeginning.events_in_order.Goals as goal

pub returns-clause-sound : goal.returns-clause-sound
returns-clause-sound c = positions_forced c.args.self.now c.args.earlier c.args.later _ c.ordered.ensures (omega arith) (omega arith)
