use Rattle.check_lines.proofs.{◌∙◌, ◌++◌, [], List, ℕ, sym, ap, refl, append-nil, place_text, Decides-eqb, slice_eq-Decides, true≢false}
use Rattle.check_lines.proofs.report_lines.place_of.Goals as goal

pub returns : goal.returns
returns c = λ other fits same.
    let is = (c.place_before.ensures.parsed other [] fits refl (same ∙ sym (append-nil (place_text other)))).0 in
    let printed = c.as_bytes.ensures.value ∙ c.in_ok-push_place.ensures ∙ ap (λ (t : List ℕ). t ++ place_text c.place_before.result.0) c.new-text.ensures.bytes in
    let equal = slice_eq-Decides Decides-eqb c.as_bytes.result.now c.args.word.now c.eq.result c.eq.ensures in
    true≢false (sym (equal.1 (printed ∙ ap place_text (sym is) ∙ sym same)) ∙ c.if-eq.false)
