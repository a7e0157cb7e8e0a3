use Rattle.fx_judge.proofs.{◌≡◌, drop, length, all_happenings, happening_passed, log_passed, passed_log, all_after}
use Rattle.fx_judge.proofs.arrays.LogReader.events.Given as goal

-- the events so far, and those that are left, are all
abbrev pub invariant-loop-event : goal.invariant-loop-event
invariant-loop-event l =
    all_after (λ said. happening_passed (passed_log l.self.log) l.self.catalogue.now (length said)) (all_happenings l.said.items)
    (drop l.event-index l.self.log.events.now) ≡ log_passed (passed_log l.self.log) l.self.catalogue.now
