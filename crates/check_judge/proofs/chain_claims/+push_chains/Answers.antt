use Rattle.check_judge.proofs.{rules, IsChain, all_asked, Chain, first_run, others_completed, own_completed, few_completions, all_of_rest, []}
use Rattle.check_judge.proofs.{accesses_of_chain, ◌+◌, ◌≡◌, arith, length, length_push, err_from_is_err_and, decides_by}
use Rattle.check_judge.proofs.StrandClaims.{chain_parts, claims_more}
use Rattle.check_judge.proofs.chain_claims.+push_chains.Goals as goal

abbrev none : Chain
none = record { first = 0; len = 0 }

pub returns-then-completions-members-clause-claims : goal.returns-then-completions-members-clause-claims
returns-then-completions-members-clause-claims t c = λ _ order done.
    few_completions c.args.setting.now.catalogue.now c.args.setting.now.size c.args.submission _ (all_asked c.args.requests.now)
    c.args.chains.now none c.in-len1-up.len_at_least c.members-members.result.now c.members-members.ensures.members order c.args.completions.now
    c.if-completions-members.true done.done

pub push_chains-requires : goal.push_chains-requires
push_chains-requires t c = (
  search rules,
  (
    all_of_rest (IsChain (all_asked c.args.requests.now)) c.args.chains.now none c.in-len1-up.len_at_least c.requires.within,
    search rules,
  ),
)

pub returns-in_err-push_members-clause-claims : goal.returns-in_err-push_members-clause-claims
returns-in_err-push_members-clause-claims t c =
    let number : c.len.result ≡ length c.args.lists.now.items = omega (arith, c.args.lists.now.ok.0) in
    let e = err_from_is_err_and c.from_residual.result c.from_residual.ensures.1 in
    rw (e.1, e.2) (λ refutes order done.
    let p = chain_parts c.args.setting.now c.args.submission (length c.args.lists.now.items + 1) (all_asked c.members-members.result.now) _ _ _ _
    (own_completed c.members-members.result.now c.args.completions.now _ c.split_at.ensures.front)
    (others_completed c.members-members.result.now c.args.completions.now _ c.split_at.ensures.back) order
    (rw (first_run (all_asked c.args.requests.now) c.args.chains.now none c.members-members.result.now c.in-len1-up.len_at_least
    c.members-members.ensures.members) at done) in
    c.in_err-push_members.ensures refutes (accesses_of_chain (length c.args.lists.now.items + 1) order) (rw number p.0))

pub returns-clause-claims : goal.returns-clause-claims
returns-clause-claims t c =
    let number : c.len.result ≡ length c.args.lists.now.items = omega (arith, c.args.lists.now.ok.0) in
    decides_by _ _ _ _ _ _ _ c.push_chains.result (λ order done.
    let p = chain_parts c.args.setting.now c.args.submission (length c.args.lists.now.items + 1) (all_asked c.members-members.result.now) _ _ _ _
    (own_completed c.members-members.result.now c.args.completions.now _ c.split_at.ensures.front)
    (others_completed c.members-members.result.now c.args.completions.now _ c.split_at.ensures.back) order
    (rw (first_run (all_asked c.args.requests.now) c.args.chains.now none c.members-members.result.now c.in-len1-up.len_at_least
    c.members-members.ensures.members) at done) in (
      order,
      rw (c.in_ok-push.ensures.items, length_push) p.1,
      λ _ more before. more (rw c.in_ok-push.ensures.items
          (claims_more c.args.setting.now.closes.now c.args.lists.now.items _ order before
          (c.in_ok-push_members.ensures (accesses_of_chain (length c.args.lists.now.items + 1) order) (rw number p.0) [] (rw c.new-claims.ensures.items tt)))),
    ))
    c.push_chains.ensures.claims
