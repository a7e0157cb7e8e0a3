use Rattle.check_flight.proofs.{◌≡◌, ◌+◌, ◌∙◌, arith, false≢true, sym, accesses_in, accesses_at}
use Rattle.check_flight.proofs.player.FlightPlayer.has_found.Goals as goal

pub returns : goal.returns
returns c = λ made.
    let self = c.args.self.now in
    let plans = c.args.plans.now in
    let i = c.saturating_sub-i.result in
    let number : c.args.id ≡ i + 1 = omega (arith, c.if-id-eq0.false) in
    let own : accesses_in plans c.args.id ≡ c.deref.result.now =
    rw number (accesses_at plans i c.index-plans-i.result c.if-i-plans.false ∙ sym c.deref.ensures.value) in
    record {
      at = i;
      is = number;
      inside = omega (arith, c.if-i-len.false, self.calls.ok.0);
      slot = c.in-Look.slot;
      call = c.index-call.result.now;
      here = sym c.index-call.ensures;
      kind = c.in-Look.is;
      done = rw own (c.is_look_made.ensures made);
      unclosed = λ file is marked. false≢true (sym c.if-is_marked.false ∙ c.is_marked.ensures file is marked);
    }
