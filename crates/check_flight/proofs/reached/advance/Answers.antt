use Rattle.check_flight.proofs.{arith, refl, slice_index_or, sym, take, get_or-map, AllSettled, happening_of, next_front_is}
use Rattle.check_flight.proofs.reached.advance.Goals as goal

pub returns : goal.returns
returns c = λ _.
    let log = c.args.log.now in
    let event = slice_index_or log.events.now c.args.at c.index-log-at.result in
    let all = c.as_slice-calls.result.now in
    next_front_is log c.args.at c.len-known.result c.args.calls.now.items c.push_call.new.calls.items (take c.len-known.result all) all
    c.args.front.now.states.items c.pass_all.new.nexts.states.items c.follow_all.new.front.states.items (happening_of event)
    (sym (get_or-map happening_of log.events.now c.args.at c.index-log-at.result AllSettled c.requires))
    c.as_slice-calls.ensures.value refl (omega (arith, c.args.calls.now.ok.0)) (c.in_ok-push_call.ensures.front c.if-not-branch.false)
    (c.in_ok-push_call.ensures.runs c.if-not-branch.false) (c.is_numbered.ensures c.if-not-is_numbered.false)
    (c.in_ok-pass_all.ensures c.if-not-branch-2.false) c.in_ok-follow_all.ensures.kept (c.in_ok-follow_all.ensures.followed c.if-not-branch-3.false)
