use Rattle.check_judge.proofs.{◌≡◌, ◌==◌, List, filter, map, not, sym, ap, ◌∙◌, Closed, named_close_of, ClosedLine, Lines, named_closes}
use Rattle.check_judge.proofs.{all_completed}
use Rattle.check_judge.proofs.Submissions.{tags_again, recorded_lines}
use Rattle.check_judge.proofs.submission.recorded_by.Goals as goal

pub returns-clause-lines : goal.returns-clause-lines
returns-clause-lines c =
    let recorded : named_closes c.args.catalogue.now c.in-Ok.files.items ≡ map named_close_of c.deref.result.now = rw c.in-Ok.is at c.in_ok-files.ensures.recorded in
    recorded_lines c.args.catalogue.now c.args.lines c.in-Ok.files.items
    (recorded ∙ ap (λ (l : List ClosedLine). map named_close_of l) c.deref.ensures.value)
    (ap (λ (l : List Closed). map (λ file. file.tag) (filter (λ file. not (file.tag == 0)) l)) (sym c.deref-3.ensures.value)
    ∙ sym c.in_ok-own_tags.ensures ∙ sym c.deref-4.ensures.value ∙ c.in_default-wrong_tag.ensures.same ∙ c.deref-5.ensures.value)

pub returns-in-Some-wrong_tag-clause-only : goal.returns-in-Some-wrong_tag-clause-only
returns-in-Some-wrong_tag-clause-only c = λ apart report may from same.
    let only = rw c.in-Ok.is at c.in_ok-files.ensures.only in
    let closed : named_closes c.args.catalogue.now report.closes.files ≡ map named_close_of c.deref.result.now =
    ap (λ (l : Lines). l.closed) same ∙ ap (λ (l : List ClosedLine). map named_close_of l) (sym c.deref.ensures.value) in
    let files : c.deref-3.result.now ≡ report.closes.files = c.deref-3.ensures.value ∙ only apart report.closes.files may.each closed in
    c.in-Some-wrong_tag.ensures.apart (c.deref-4.ensures.value ∙ c.in_ok-own_tags.ensures ∙ tags_again files
    ∙ ap (λ (l : Lines). l.tags) same ∙ sym c.deref-5.ensures.value)

pub returns-in-Some-unknown_file-clause-only : goal.returns-in-Some-unknown_file-clause-only
returns-in-Some-unknown_file-clause-only c = λ apart report may from same.
    let only = rw c.in-Ok.is at c.in_ok-files.ensures.only in
    let closed : named_closes c.args.catalogue.now report.closes.files ≡ map named_close_of c.deref.result.now =
    ap (λ (l : Lines). l.closed) same ∙ ap (λ (l : List ClosedLine). map named_close_of l) (sym c.deref.ensures.value) in
    let files : c.in-Ok.files.items ≡ report.closes.files = only apart report.closes.files may.each closed in
    let completions : all_completed c.args.lines.completions.items ≡ report.completions = sym (ap (λ (l : Lines). l.completions) same) in
    c.in-Some-unknown_file.ensures (rw (c.deref-6.ensures.value, c.deref-7.ensures.value, completions, files) from)
