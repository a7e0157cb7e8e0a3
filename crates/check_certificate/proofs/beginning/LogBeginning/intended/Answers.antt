use Rattle.check_certificate.proofs.Words.{slot_count, operation_of}
use Rattle.check_certificate.proofs.Intended.{intended_is}
use Rattle.check_certificate.proofs.beginning.LogBeginning.intended.Goals as goal

pub returns-clause-sound : goal.returns-clause-sound
returns-clause-sound c = rw c.args.self.now.is_size at c.intent_of.ensures

pub returns-clause-exact : goal.returns-clause-exact
returns-clause-exact c = intended_is c.args.self.now.catalogue.now (slot_count c.args.self.now) c.args.place (operation_of c.args.request.now.op) c.args.made _
    c.args.self.now.is_catalogue (rw c.args.self.now.is_size at c.intent_of.ensures)
