use Rattle.check_outcomes.proofs.{◌∙◌, sym, refl, asked_of, eq-eqb, IfOk-weaker, first_is, rules_of, gone_past, pushed, settled_on}
use Rattle.check_outcomes.proofs.submission.+settling.Goals as goal

pub settle-returns : goal.settle-returns
settle-returns t c =
    rw (first_is c.args.requests.now c.request-item.result c.in-len1-up.len_at_least c.request-item.is)
    (settled_on (rules_of c.args.setting.now.catalogue.now c.args.setting.now.size)
    (eq-eqb _ _ (sym c.count_of.ensures ∙ c.if-count_of-ne0.false)) c.in_ok-go_on.ensures)

pub go_on-returns : goal.go_on-returns
go_on-returns t c = IfOk-weaker c.settle.result _ _
    (λ passed settles. gone_past (rules_of c.args.setting.now.catalogue.now c.args.setting.now.size) c.args.place (asked_of c.args.request.now)
    c.args.last (rw c.finding_in-found.ensures at c.in_ok-c.ensures) (pushed c.args.recorded.now.items c.in_ok-c.c c.in_ok-push.ensures.items refl)
    (sym c.severs-severs.ensures ∙ c.if-severs.false) (rw c.moved-next.ensures at settles))
    c.settle.ensures
