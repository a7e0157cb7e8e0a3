use Rattle.check_lines.proofs.{◌∙◌, codes, sym, take, arith, length-map, completed_of, true≢false, Decides-eqb, slice_eq-Decides, no_report}
use Rattle.check_lines.proofs.{one_report}
use Rattle.check_lines.proofs.report_lines.read_report.Goals.{then-len-count-via-then-len-count, then-len-count-via-else-len-count+then-starts_with}
use Rattle.check_lines.proofs.report_lines.read_report.Goals.{then-len-count-via-else-len-count+else-starts_with+then-starts_with-2}
use Rattle.check_lines.proofs.report_lines.read_report.Goals as goal

pub returns-then-len-count : goal.returns-then-len-count
returns-then-len-count c =
    let known = length-map c.in_ok-completions.completions.items completed_of in
    let rest = c.in_ok-tags.rest.now in let first = c.in_ok-completions.ensures in let next = c.in_ok-closed.ensures in let last = c.in_ok-tags.ensures in
    elim c.then-len-count.branch [
      | then-len-count-via-then-len-count w ↦ no_report first next last (λ is. let each = is.each in let other = w.if-len-count.true in let l = c.len.ensures in omega arith)
      | then-len-count-via-else-len-count+then-starts_with w ↦ no_report first next last (λ is. is.behind.no_closed
          (sym ((slice_eq-Decides Decides-eqb (codes "closed ") (take 7 rest) w.starts_with.result w.starts_with.ensures.value).0 w.if-starts_with.true)))
      | then-len-count-via-else-len-count+else-starts_with+then-starts_with-2 w ↦ no_report first next last (λ is. is.behind.no_tag
          (sym ((slice_eq-Decides Decides-eqb (codes "tag ") (take 4 rest) w.starts_with-else-starts_with.result w.starts_with-else-starts_with.ensures.value).0
          w.if-starts_with-2.true)))
    ]

pub returns : goal.returns
returns c =
    let known = length-map c.in_ok-completions.completions.items completed_of in
    let rest = c.in_ok-tags.rest.now in let same = c.if-len-count.false in let l = c.len.ensures in
    one_report c.in_ok-completions.ensures c.in_ok-closed.ensures c.in_ok-tags.ensures (omega arith) (record {
      no_closed = λ is. true≢false (sym ((slice_eq-Decides Decides-eqb (codes "closed ") (take 7 rest) c.starts_with.result c.starts_with.ensures.value).1
          (sym is)) ∙ c.if-starts_with.false);
      no_tag = λ is. true≢false (sym ((slice_eq-Decides Decides-eqb (codes "tag ") (take 4 rest) c.starts_with-else-starts_with.result
          c.starts_with-else-starts_with.ensures.value).1 (sym is)) ∙ c.if-starts_with-2.false);
    })
