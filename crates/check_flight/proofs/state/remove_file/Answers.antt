use Rattle.check_flight.proofs.{rules, filter_same, without_file}
use Rattle.check_flight.proofs.state.remove_file.Goals as goal

pub returns : goal.returns
returns c = let both = without_file c.args.files.now.items c.retain.new.self.items c.args.file
    (filter_same _ _ _ (λ x b f' k. search rules) _ _ c.retain.ensures.filtered) in
    record { others = both.0; gone = both.1 }
