use Rattle.fx_ring.proofs.Words.{◌∙◌, ◌≤◌, List, slice_index_or, take, ap, subst, arith, take_all, All, All-more, All-weaker, members_of, Asked, []}
use Rattle.fx_ring.proofs.Words.{all_asked, all_installs, Chain, common_steps}
use Rattle.fx_ring.proofs.CompletionPlaces.{as_many, run_at, runs_install}
use Rattle.fx_ring.proofs.play.Submission.most_installs.Goals as goal

abbrev none : Chain
none = record { first = 0; len = 0 }

pub installs_of_chain-requires : goal.installs_of_chain-requires
installs_of_chain-requires g c =
    let same = ap all_installs c.members.ensures.members in
    omega (arith, same, (c.args.self.now.cut.within c.loop-chain.chain-index none c.loop-chain-test.true).run.installs)

pub loop-chain-preserved : goal.loop-chain-preserved
loop-chain-preserved g c =
    let asked : List Asked = all_asked c.args.self.now.requests.now in
    let chains = c.args.self.now.chains.now in
    let i = c.loop-chain.chain-index in
    let inside = c.loop-chain-test.true in
    let chain : Chain = slice_index_or chains i none in
    let its = c.installs_of_chain.ensures ∙ ap all_installs c.members.ensures.members in
    let few = (c.args.self.now.cut.within i none inside).run.installs in
    let so_far = c.loop-chain.invariant in
    let before = so_far.few in
    let low : c.loop-chain.most ≤ c.max-most.result = grind (arith, common_steps) in
    let high : c.installs_of_chain.result ≤ c.max-most.result = grind (arith, common_steps) in
    record {
      few = let is : c.installs_of_chain.result ≤ 64 = omega (arith, few, its) in grind (arith, common_steps);
      each = All-more (λ x. all_installs (members_of asked x) ≤ c.max-most.result) chains i none inside
          (All-weaker (λ x. all_installs (members_of asked x) ≤ c.loop-chain.most) (λ x. all_installs (members_of asked x) ≤ c.max-most.result)
          (λ x l. omega (arith, l, low)) (take i chains) so_far.each) (omega (arith, its, high));
      least = λ most all.
          let run = all i [] (omega (arith, inside, as_many c.args.self.now.cut)) in
          let here : all_installs (members_of asked chain) ≤ most = omega (arith, run, ap all_installs (run_at c.args.self.now.cut i none inside)) in
          let earlier = so_far.least most all in
          let new : c.installs_of_chain.result ≤ most = omega (arith, its, here) in grind (arith, common_steps);
    }

pub returns-clause-each : goal.returns-clause-each
returns-clause-each g c =
    let chains = c.args.self.now.chains.now in
    runs_install c.args.self.now.cut
    (subst (All (λ chain. all_installs (members_of (all_asked c.args.self.now.requests.now) chain) ≤ c.loop-chain.most))
    (take_all c.loop-chain.chain-index chains c.loop-chain-test.false) c.loop-chain.invariant.each)
