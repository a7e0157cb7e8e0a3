use Rattle.fx_judge.proofs.{◌≡◌, [], drop, all_asked, asked_passed, passed_log, all_after}
use Rattle.fx_judge.proofs.arrays.LogReader.chain.Given as goal

-- the requests so far, and those that are left, are all
abbrev pub invariant-loop-request : goal.invariant-loop-request
invariant-loop-request l =
    all_after (λ _. asked_passed (passed_log l.self.log) l.self.catalogue.now l.at) (all_asked l.chain.items) (drop l.request-index l.requests)
    ≡ all_after (λ _. asked_passed (passed_log l.self.log) l.self.catalogue.now l.at) [] l.requests
