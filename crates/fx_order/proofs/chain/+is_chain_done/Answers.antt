use Rattle.fx_order.proofs.{IfOk-weaker, sym, ◌∙◌, member_goes_on, first_is}
use Rattle.fx_order.proofs.chain.+is_chain_done.Goals as goal

pub returns : goal.returns
returns t c =
    rw (
      first_is c.args.requests.now c.request-item.result c.in-len1-up.len_at_least c.request-item.is,
      first_is c.args.completions.now c.c-item.result c.in-len1-up-completions.len_at_least c.c-item.is,
    )
    (IfOk-weaker c.is_chain_done.result _ _
    (member_goes_on c.args.setting.now.catalogue.now c.args.setting.now.size c.args.place _ _ c.args.accesses.now _ _ c.accesses_made.result _ _
    c.min-made.result c.min-made.ensures c.split_at.ensures.front c.split_at.ensures.back
    (c.accesses_made.ensures c.args.place)
    (sym c.severs.ensures ∙ c.if-severs.false) (c.in_ok-is_request_done.ensures.0 c.if-not-branch.false)) c.is_chain_done.ensures)
