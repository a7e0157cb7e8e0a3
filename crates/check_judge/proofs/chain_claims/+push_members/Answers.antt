use Rattle.check_judge.proofs.{sym, ◌++◌, append_assoc, completed_of, asked_of, first_is, err_from_is_err_and, decides_by}
use Rattle.check_judge.proofs.StrandClaims.{member_parts}
use Rattle.check_judge.proofs.chain_claims.+push_members.Goals as goal

pub returns-then-cut : goal.returns-then-cut
returns-then-cut t c =
    rw (
      first_is c.args.requests.now c.request-item.result c.in-len1-up.len_at_least c.request-item.is,
      first_is c.args.completions.now c.c-item.result c.in-len1-up-completions.len_at_least c.c-item.is,
      c.if-cut.true,
    )
    (decides_by _ _ _ _ _ _ _ c.push_members.result (λ accesses done. (accesses, (done.0, (done.1.0, cc (done.1.1))), λ _ right. right))
    c.push_members.ensures)

pub returns-in_err-push_request : goal.returns-in_err-push_request
returns-in_err-push_request t c =
    let e = err_from_is_err_and c.from_residual.result c.from_residual.ensures.1 in
    rw (
      e.1,
      e.2,
      first_is c.args.requests.now c.request-item.result c.in-len1-up.len_at_least c.request-item.is,
      first_is c.args.completions.now c.c-item.result c.in-len1-up-completions.len_at_least c.c-item.is,
      c.if-cut.false,
    )
    (λ refutes accesses done.
    let p = member_parts c.args.setting.now c.args.place (asked_of c.request-item.result) _ (completed_of c.c-item.result) _ accesses done in
    c.in_err-push_request.ensures refutes p.0 p.3)

pub returns : goal.returns
returns t c =
    rw (
      first_is c.args.requests.now c.request-item.result c.in-len1-up.len_at_least c.request-item.is,
      first_is c.args.completions.now c.c-item.result c.in-len1-up-completions.len_at_least c.c-item.is,
      c.if-cut.false,
    )
    (decides_by _ _ _ _ _ _ _ c.push_members-2.result (λ accesses done.
    let p = member_parts c.args.setting.now c.args.place (asked_of c.request-item.result) _ (completed_of c.c-item.result) _ accesses done in (
      p.1,
      rw c.severs.ensures p.4,
      λ _ more before fits.
          rw (p.2, sym (append_assoc before p.0 p.1)) (more (before ++ p.0) (c.in_ok-push_request.ensures p.0 p.3 before fits)),
    ))
    c.push_members-2.ensures)
