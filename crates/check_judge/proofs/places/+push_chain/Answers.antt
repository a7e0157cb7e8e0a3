use Rattle.check_judge.proofs.{sym, ◌∙◌, completed_of, asked_of, first_is, on_ok_weaker, going_put, severed_put}
use Rattle.check_judge.proofs.places.+push_chain.Goals as goal

pub returns-then-severs : goal.returns-then-severs
returns-then-severs t c = λ accesses.
    rw (
      first_is c.args.requests.now c.request-item.result c.in-len1-up.len_at_least c.request-item.is,
      first_is c.args.completions.now c.c-item.result c.in-len1-up-completions.len_at_least c.c-item.is,
    )
    (severed_put c.args.setting.now.catalogue.now c.args.setting.now.size c.args.place (asked_of c.request-item.result) _ (completed_of c.c-item.result) _
    c.args.places.now.items c.push_own.new.places.items c.in_ok-push_own.ensures (sym c.severs.ensures ∙ c.if-severs.true))

pub returns : goal.returns
returns t c = on_ok_weaker c.push_chain.result
    (λ put accesses.
    rw (
      first_is c.args.requests.now c.request-item.result c.in-len1-up.len_at_least c.request-item.is,
      first_is c.args.completions.now c.c-item.result c.in-len1-up-completions.len_at_least c.c-item.is,
    )
    (going_put c.args.setting.now.catalogue.now c.args.setting.now.size c.args.place (asked_of c.request-item.result) _ (completed_of c.c-item.result) _
    c.args.places.now.items c.push_own.new.places.items c.in_ok-push_own.ensures (sym c.severs.ensures ∙ c.if-severs.false) put))
    c.push_chain.ensures
