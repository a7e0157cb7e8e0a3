use Rattle.fx_ring.proofs.Words.{◌≡◌, ◌+◌, ◌-◌, ◌≤◌, [], length, arith, sym, ap, subst, Some, PassView, all_asked, runs_of, Reported, IsOneHistory}
use Rattle.fx_ring.proofs.Words.{IsSettledSoFar, ring_led_by}
use Rattle.fx_ring.proofs.Crews.{few_of_chains}
use Rattle.fx_ring.proofs.CompletionPlaces.{as_many, runs_within}
use Rattle.fx_ring.proofs.ChainPlayed.{enough}
use Rattle.fx_ring.proofs.LonePlays.{begins, goes_on, authors_of, all_drawn, part_is_one_history}
use Rattle.fx_ring.proofs.open_ring.play_alone.Goals as goal

pub loop-i-init : goal.loop-i-init
loop-i-init g c =
    let alone = c.requires.alone in
    let s = c.args.submission.now in
    begins alone.fits alone.idle alone.more c.requires.room
    (omega (arith, c.requires.looks, few_of_chains s.cut))

pub play_chain-requires-clause-enough : goal.play_chain-requires-clause-enough
play_chain-requires-clause-enough g c κs within =
    let s = c.args.submission.now in
    let is = c.loop-i.invariant in
    let left = ap (λ (v : PassView). v.looks_left) c.in-Some.ensures.drawn.3 in
    let its = enough {chain = c.loop-i.i + 1} is.room (omega (arith, is.chain)) (omega (arith, as_many s.cut, c.loop-i-test.true)) in
    (omega (arith, its.0, left), its.1, its.2)

pub loop-i-preserved : goal.loop-i-preserved
loop-i-preserved g c =
    let s = c.args.submission.now in
    let is = c.loop-i.invariant in
    let count = as_many s.cut in
    let inside : c.loop-i.i + 1 ≤ length (runs_of (all_asked s.requests.now)) = omega (arith, count, c.loop-i-test.true) in
    let next : Some c.in-Some._drawn ≡ Some ((g.T.FileTable.view c.loop-i.pass).chain + 1) =
    c.in-Some.ensures.next c.requires.alone.alone is.more (omega (arith, is.chain, c.requires.chains, inside, count)) in
    let short = runs_within s.cut (c.loop-i.i + 1 - 1) [] (omega (arith, inside)) in
    goes_on is inside (cc next) c.in-Some.ensures.drawn c.play_chain.ensures.played short.members c.play_chain.ensures.fits c.play_chain.ensures.capacity

pub returns-clause-played : goal.returns-clause-played
returns-clause-played g c registrations =
    let V : g.row.T-Pass.Denot → PassView = λ p. g.T.FileTable.view p in
    let s = c.args.submission.now in
    let o = g.T.FileTable.opening c.args.table.now in
    let asked = all_asked s.requests.now in
    let before = V c.args.pass.now in
    let p = c.loop-i.invariant in
    let alone = c.requires.alone in
    let one = part_is_one_history p.since s.earlier asked alone.few_slots (runs_within s.cut) alone.settled
    (subst (λ (v : PassView). IsSettledSoFar o v) c.settle.ensures.same c.settle.ensures.settled)
    (authors_of alone.settled ((g.met.T.FileTable g.world.𝓛 g.world.𝓜 g.world.𝓡 ((λ s x. x), (λ x. x), (λ x. x), λ x. x)).fronts _ _ alone.fits))
    p.own p.worked
    (λ chain low high. all_drawn c.loop-i.i chain low (omega (arith, high, as_many s.cut, c.loop-i-test.false))) registrations
    c.sort.ensures.completions c.sort.ensures.in_order
    (record { same_files = c.sort.ensures.closes; in_order = c.sort.ensures.in_order_of_mark }) in
    subst (λ (z : Reported × PassView). IsOneHistory (ring_led_by s.catalogue.now o before s.earlier registrations) asked z.0
    (ring_led_by s.catalogue.now o z.1 (s.earlier + 1) registrations))
    (λ i. (sym c.report.ensures i, sym c.settle.ensures.same i)) one

pub returns-clause-looks : goal.returns-clause-looks
returns-clause-looks g c =
    let same = ap (λ (v : PassView). v.looks_left) c.settle.ensures.same in
    omega (arith, c.loop-i.invariant.looks, c.loop-i.auto.i-end, same)
