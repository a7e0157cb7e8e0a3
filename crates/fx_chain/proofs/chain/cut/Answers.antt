use Rattle.fx_chain.proofs.Words.{◌+◌, ◌≤◌, length, map, All, ap, ◌∙◌, arith, length-map, All-weaker, IsChain, members_of, asked_of, all_asked, Chain}
use Rattle.fx_chain.proofs.Accepted.{accepted-length, accepted-runs, accepted-chains, members-are-runs}
use Rattle.fx_chain.proofs.Runs.{cut_all}
use Rattle.fx_chain.proofs.chain.cut.Goals as goal

pub loop-first-init : goal.loop-first-init
loop-first-init c = grind (arith, length-map, accepted-length)

pub returns : goal.returns
returns c =
    let requests = c.args.requests.now in
    let asked = all_asked requests in
    let chains = c.loop-first.chains.items in
    let made = cut_all requests chains c.loop-first.first c.loop-first-test.false c.loop-first.invariant.cut in
    let members = ap (map (members_of asked)) made ∙ members-are-runs asked in
    let within : All (IsChain asked) chains = rw made (accepted-chains asked c.requires) in
    let same = length-map requests asked_of in
    record {
      chains = made;
      members = members;
      inside = All-weaker (IsChain asked) (λ (chain : Chain). chain.first + chain.len ≤ length requests) (λ chain is. omega arith) chains within;
      few = omega (arith, accepted-runs asked c.requires, length-map chains (members_of asked), ap length members, c.loop-first.chains.ok.0);
      within = within;
    }
