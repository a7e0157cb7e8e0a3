use Rattle.check_flight.proofs.{sym, happening_of, take-map}
use Rattle.check_flight.proofs.refute.beginning_of.Goals as goal

pub returns-clause-events : goal.returns-clause-events
returns-clause-events c = sym (take-map happening_of c.args.count c.args.log.now.events.now)
