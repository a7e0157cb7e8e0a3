use Rattle.check_certificate.proofs.Words.{happening_of}
use Rattle.check_certificate.proofs.Forcing.{got_mapped}
use Rattle.check_certificate.proofs.beginning.LogBeginning.event_at.Goals as goal

pub returns : goal.returns
returns c = got_mapped happening_of c.args.self.now.events.now c.args.at c.get.result c.get.ensures.lookup
