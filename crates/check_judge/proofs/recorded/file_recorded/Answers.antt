use Rattle.check_judge.proofs.{◌≡◌, ◌∙◌, ℕ, List, Some, ap, name_at, Closed, NamedClose, sym, same_entry, same_file}
use Rattle.check_judge.proofs.recorded.file_recorded.Goals as goal

pub returns-then-file-entry-clause-only : goal.returns-then-file-entry-clause-only
returns-then-file-entry-clause-only c = λ apart file may line.
    ap (λ (f : Closed). Some f) (same_file c.args.catalogue.now c.args.slots.now apart file may c.args.line.now.mark c.args.line.now.name.items
    (ap (λ (n : NamedClose). n.mark) line) (ap (λ (n : NamedClose). n.name) line) c.in-Some.ensures.mark c.in-Some.ensures.there)

pub returns-else-file-entry-clause-only : goal.returns-else-file-entry-clause-only
returns-else-file-entry-clause-only c = λ apart file may line.
    let marks = ap (λ (n : NamedClose). n.mark) line in
    let names = ap (λ (n : NamedClose). n.name) line in
    let named : name_at c.args.catalogue.now c.in_ok-entry.entry ≡ Some c.args.line.now.name.items =
    c.in_ok-entry.ensures.named ∙ ap (λ (n : List ℕ). Some n) c.deref.ensures.value in
    let there = same_file c.args.catalogue.now c.args.slots.now apart file may c.args.line.now.mark c.args.line.now.name.items
    marks names c.in-Some.ensures.mark c.in-Some.ensures.there in
    let entry = same_entry c.args.catalogue.now c.args.slots.now apart file may c.args.line.now.mark c.args.line.now.name.items marks names named in
    absurd (c.if-file-entry.false (ap (λ (f : Closed). f.entry) there ∙ sym entry))
