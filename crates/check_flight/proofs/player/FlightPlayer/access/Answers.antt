use Rattle.check_flight.proofs.{◌≡◌, ◌+◌, ◌<◌, ◌∙◌, ap, arith, false≢true, length, refl, sym, accesses_in, answers_of_plan, FlightCall}
use Rattle.check_flight.proofs.{get_or_default, accesses_at, answers_at, moves_access}
use Rattle.std.specs.Vec.{with_item}
use Rattle.check_flight.proofs.player.FlightPlayer.access.Goals as goal

pub returns : goal.returns
returns c = λ _ read old ring so_far.
    let self = c.args.self.now in
    let log = c.args.log.now in
    let plans = c.args.plans.now in
    let i = c.saturating_sub-i.result in
    let number : c.args.id ≡ i + 1 = omega (arith, c.if-id-eq0.false) in
    let a = c.in-Some.access.now in
    let call = c.index-call.result.now in
    let plan = c.index-plans-i-2.result in
    let after : FlightCall = record { kind = c.index_mut.result.now.kind; made = call.made + 1 } in
    let next = record self {
      slots = c.make.new.self;
      calls = with_item self.calls i after;
      removed = c.add_removed.new.removed;
      amid = c.in_ok-amid.amid;
    } in
    let few : i < length self.calls.items = omega (arith, c.if-i-len.false, self.calls.ok.0) in
    let found = c.in-Some.ensures.lookup in
    let mine : accesses_in plans (i + 1) ≡ c.deref.result.now =
    accesses_at plans i c.index-plans-i.result c.if-i-plans.false ∙ sym c.deref.ensures.value in
    moves_access old log plans ring self next i call after a few (sym c.index-call.ensures) (rw mine found.3.0) (rw mine found.1)
    (c.permits.ensures.0 c.if-not-permits.false) (ap (λ it. it.kind)
    (c.index_mut.ensures.value ∙ (get_or_default self.calls.items i c.index_mut.result.now call few ∙ sym c.index-call.ensures))) refl refl
    c.make.ensures c.in_ok-add_removed.ensures
    (λ file is marked. false≢true (sym c.if-is_marked.false ∙ c.is_marked.ensures file (c.removed.ensures ∙ is) marked))
    plan (accesses_at plans i plan c.if-i-plans.false ∙ ap (λ it. it.accesses.items) (sym c.index-plans-i-2.is))
    (answers_at plans i plan c.if-i-plans.false ∙ ap answers_of_plan (sym c.index-plans-i-2.is))
    (λ other is apart. false≢true (sym c.if-is_out_of_turn.false ∙ c.is_out_of_turn.ensures other is (λ same. apart (same ∙ number))))
    (rw number at c.in_ok-amid.ensures) so_far
