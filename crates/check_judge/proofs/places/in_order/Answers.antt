use Rattle.check_judge.proofs.{◌-◌, ◌+◌, ◌≤◌, length, ap, ◌∙◌, arith, None, map, slice_index_or, Vec, ChainAccess, places_of_chain, AccessPlace}
use Rattle.check_judge.proofs.{length-set, Looks, IsNext, all_taken, chains_listed, counts_more, is_next, lists_more, one_left}
use Rattle.check_judge.proofs.places.in_order.Goals.{After-index-lists-chain}
use Rattle.check_judge.proofs.places.in_order.Goals as goal

abbrev first : ChainAccess
first = record { chain = 0; access = Looks 0 None }

next : (c : After-index-lists-chain) → IsNext c.args.lists.now c.args.order.now c.loop-x.x-index (slice_index_or c.args.order.now c.loop-x.x-index first)
    c.loop-x.next.items c.index-at.result.now c.index-lists-chain.result
next c = is_next first
    c.loop-x-test.true c.requires.chains c.requires.lists c.loop-x.invariant.size c.loop-x.invariant.counts c.index-at.ensures c.index-lists-chain.is

pub index-requires : goal.index-requires
index-requires c =
    let list : Vec AccessPlace = c.index-lists-chain.result in
    let few = one_left (next (goal.at.index-requires c).After-index-lists-chain) in
    omega (arith, list.ok.0)

pub overflow_add-at : goal.overflow_add-at
overflow_add-at c =
    let list : Vec AccessPlace = c.index-lists-chain.result in
    let few = one_left (next (goal.at.overflow_add-at c).After-index-lists-chain) in
    omega (arith, list.ok.0, list.ok.1, list.small)

pub loop-x-preserved : goal.loop-x-preserved
loop-x-preserved c =
    let r = next (goal.at.loop-x-preserved c).After-index-lists-chain in
    let places = c.loop-x.places.items in
    let p : AccessPlace = c.index.result.now in
    record {
      size = length-set c.loop-x.next.items ((slice_index_or c.args.order.now c.loop-x.x-index first).chain - 1) (c.index-at.result.now + 1)
          ∙ c.loop-x.invariant.size;
      counts = counts_more r;
      chains = ap (map (λ (q : AccessPlace). q.chain)) c.in_ok-push.ensures.items ∙ chains_listed r places p c.index.ensures c.loop-x.invariant.chains;
      listed = λ k own got. ap (places_of_chain (k + 1)) c.in_ok-push.ensures.items
          ∙ lists_more r places p c.index.ensures k got (c.loop-x.invariant.listed k own got);
    }

pub returns-clause-lists : goal.returns-clause-lists
returns-clause-lists c = λ k list got.
    let past = c.loop-x-test.false in
    let long : length c.args.order.now ≤ c.loop-x.x-index = omega arith in
    c.loop-x.invariant.listed k list got ∙ all_taken c.args.order.now long (k + 1) (c.requires.lists k list got).as_many
