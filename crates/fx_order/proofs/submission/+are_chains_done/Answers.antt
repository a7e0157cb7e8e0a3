use Rattle.fx_order.proofs.{IfOk-weaker, ◌∙◌, rules, IsChain, all_asked, Chain, not_from_Decides, few_completions, first_run, goes_on, not_first}
use Rattle.fx_order.proofs.{others_completed, own_completed, all_of_rest, arith}
use Rattle.fx_order.proofs.Ordered.{never}
use Rattle.fx_order.proofs.submission.+are_chains_done.Goals as goal

abbrev none : Chain
none = record { first = 0; len = 0 }

pub returns-then-completions-members : goal.returns-then-completions-members
returns-then-completions-members t c = grind (arith, few_completions)

pub returns-then-not-branch : goal.returns-then-not-branch
returns-then-not-branch t c =
    rw (first_run (all_asked c.args.ordered.now.requests.now) c.args.chains.now none c.members-members.result.now c.in-len1-up.len_at_least
    c.members-members.ensures.members)
    (never (not_first c.args.ordered.now.catalogue.now c.args.ordered.now.size c.args.ordered.now.submission c.args.chain
    _ _ c.args.ordered.now.order.now _ c.deref.result.now _ _ (c.deref.ensures.value ∙ c.in_ok-accesses.ensures)
    (own_completed c.members-members.result.now c.args.completions.now _ c.split_at.ensures.front)
    (others_completed c.members-members.result.now c.args.completions.now _ c.split_at.ensures.back)
    (not_from_Decides _ c.in_ok-is_chain_done.ensures c.if-not-branch.true)))

pub are_chains_done-requires : goal.are_chains_done-requires
are_chains_done-requires t c =
    let rest = all_of_rest (IsChain (all_asked c.args.ordered.now.requests.now)) c.args.chains.now none c.in-len1-up.len_at_least c.requires.within in
    (search rules, (rest, search rules))

pub returns : goal.returns
returns t c =
    rw (first_run (all_asked c.args.ordered.now.requests.now) c.args.chains.now none c.members-members.result.now c.in-len1-up.len_at_least
    c.members-members.ensures.members)
    (IfOk-weaker c.are_chains_done.result _ _
    (goes_on c.args.ordered.now.catalogue.now c.args.ordered.now.size c.args.ordered.now.submission c.args.chain
    _ _ c.args.ordered.now.order.now _ c.deref.result.now _ _ (c.deref.ensures.value ∙ c.in_ok-accesses.ensures)
    (own_completed c.members-members.result.now c.args.completions.now _ c.split_at.ensures.front)
    (others_completed c.members-members.result.now c.args.completions.now _ c.split_at.ensures.back)
    (c.in_ok-is_chain_done.ensures.0 c.if-not-branch.false))
    c.are_chains_done.ensures)
