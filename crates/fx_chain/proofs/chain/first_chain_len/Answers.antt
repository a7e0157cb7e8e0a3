use Rattle.fx_chain.proofs.Words.{◌≡◌, ◌+◌, ◌++◌, take, drop, sym, ap, ◌∙◌, arith, map-append, take-append-drop, All-push, asked_of, all_asked}
use Rattle.fx_chain.proofs.Words.{runs_of}
use Rattle.fx_chain.proofs.ChainGoesOn.{asked_more, asked_all, asked_none}
use Rattle.fx_chain.proofs.Runs.{Links, first_run, one_run, but_last-links, but_last-push, is_over-push}
use Rattle.fx_chain.proofs.chain.first_chain_len.Goals as goal

pub loop-i-preserved : goal.loop-i-preserved
loop-i-preserved c =
    let requests = c.args.requests.now in
    let x = c.index-requests-i.result in
    rw (asked_more requests c.loop-i.i x c.loop-i-test.true c.index-requests-i.is)
    (All-push Links (all_asked (take c.loop-i.i requests)) (asked_of x) c.loop-i.invariant (sym c.links.ensures ∙ c.if-not-links.false))

pub returns-then-not-links-clause-run : goal.returns-then-not-links-clause-run
returns-then-not-links-clause-run c =
    let requests = c.args.requests.now in
    let i = c.loop-i.i in
    let x = c.index-requests-i.result in
    let run = all_asked (take (i + 1) requests) in
    let rest = all_asked (drop (i + 1) requests) in
    let front = all_asked (take i requests) in
    let more = asked_more requests i x c.loop-i-test.true c.index-requests-i.is in
    let whole : all_asked requests ≡ run ++ rest = ap all_asked (sym (take-append-drop (i + 1) requests))
    ∙ map-append asked_of (take (i + 1) requests) (drop (i + 1) requests) in
    ap runs_of whole ∙ first_run run rest (rw (more, but_last-push front (asked_of x)) c.loop-i.invariant)
    (rw more (is_over-push front (asked_of x) (sym c.links.ensures ∙ c.if-not-links.true)))

pub returns-clause-run : goal.returns-clause-run
returns-clause-run c = grind (arith, asked_all, one_run, but_last-links, asked_none)
