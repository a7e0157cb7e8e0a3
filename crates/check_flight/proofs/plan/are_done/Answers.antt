use Rattle.check_flight.proofs.{◌≡◌, ◌∙◌, [], ◌∷◌, arith, length, sym, IfOk-weaker, length-map, map, members_of, all_completed, all_asked, asked_of}
use Rattle.check_flight.proofs.{Chain, one_done, one_chain}
use Rattle.check_flight.proofs.plan.are_done.Goals as goal

abbrev no_chain : Chain
no_chain = record { first = 0; len = 0 }

pub returns : goal.returns
returns c =
    let log = c.args.log.now in
    let requests = all_asked c.args.requests.now in
    let chains = c.as_slice.result.now in
    let one : length chains ≡ 1 = omega (arith, c.in-len1.len_at_least, c.in-len1.len_below) in
    let whole : map (members_of requests) chains ≡ requests ∷ [] =
    one_chain requests chains no_chain one c.if-chain-ne0.false (c.if-chain-requests.false ∙ sym (length-map c.args.requests.now asked_of)) in
    let same : c.deref-2.result.now ≡ chains = c.deref-2.ensures.value ∙ sym c.as_slice.ensures.value in
    IfOk-weaker c.are_chains_done.result _ _
    (λ yes iff it. rw (c.deref.ensures.value, c.in_ok-order.ensures) at
    (one_done log.setting.catalogue.now log.setting.size c.args.id requests c.deref.result.now (all_completed c.args.answers.now)
    (rw (same, whole) at (iff.0 it))))
    c.are_chains_done.ensures
