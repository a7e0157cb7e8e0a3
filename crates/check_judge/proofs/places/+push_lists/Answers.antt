use Rattle.check_judge.proofs.{rules, IsChain, all_asked, Chain, first_run, others_completed, own_completed, few_completions, all_of_rest}
use Rattle.check_judge.proofs.{on_ok_weaker, lists_put}
use Rattle.check_judge.proofs.places.+push_lists.Goals as goal

abbrev none : Chain
none = record { first = 0; len = 0 }

pub returns-then-completions-members : goal.returns-then-completions-members
returns-then-completions-members t c = λ order x.
    absurd (few_completions c.args.answered.now.setting.catalogue.now c.args.answered.now.setting.size c.args.answered.now.submission c.args.chain (all_asked c.args.answered.now.requests.now)
    c.args.chains.now none c.in-len1-up.len_at_least c.members-members.result.now c.members-members.ensures.members order c.args.completions.now
    c.if-completions-members.true x)

pub push_lists-requires : goal.push_lists-requires
push_lists-requires t c = (
  search rules,
  (
    all_of_rest (IsChain (all_asked c.args.answered.now.requests.now)) c.args.chains.now none c.in-len1-up.len_at_least c.requires.within,
    search rules,
  ),
)

pub returns : goal.returns
returns t c = on_ok_weaker c.push_lists.result
    (λ recorded order. lists_put c.args.answered.now.setting.catalogue.now c.args.answered.now.setting.size c.args.answered.now.submission order c.args.chain _
    c.args.lists.now.items c.push_chain.new.places (first_run (all_asked c.args.answered.now.requests.now) c.args.chains.now none
    c.members-members.result.now c.in-len1-up.len_at_least c.members-members.ensures.members)
    (own_completed c.members-members.result.now c.args.completions.now _ c.split_at.ensures.front)
    (others_completed c.members-members.result.now c.args.completions.now _ c.split_at.ensures.back)
    c.new-places.ensures.items c.in_ok-push.ensures.items c.in_ok-push_chain.ensures (recorded order))
    c.push_lists.ensures
