use Rattle.check_flight.proofs.{refl, rules, ap, arith, length, ◌-◌, ◌∙◌, drop, take_all, length-drop}
use Rattle.check_flight.proofs.state.FlightState.copy.Goals as goal

pub returns : goal.returns
returns c =
    let count = c.args.count in
    record {
      table = search rules;
      base = refl;
      chains = c.in_ok-chains.ensures.items
          ∙ take_all (length c.deref.result.now - count) (drop count c.deref.result.now) (omega (arith, length-drop count c.deref.result.now))
          ∙ ap (drop count) c.deref.ensures.value;
      removed = search rules;
      waiting = search rules;
    }
