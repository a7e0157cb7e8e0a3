use Rattle.fx_table.proofs.Words.{◌≡◌, ℕ, ap, ◌∙◌, arith, state_of, full_in, first_at}
use Rattle.fx_table.proofs.FullSlots.{all_counted, full_few}
use Rattle.fx_table.proofs.shell.full_in_range.Goals as goal

pub returns-then-len-size : goal.returns-then-len-size
returns-then-len-size c =
    let st = state_of c.args.plain.now in let start = ap (λ (r : ℕ × ℕ). r.0) c.range-start.ensures.value in
    let len = ap (λ (r : ℕ × ℕ). r.1) c.range-start.ensures.value in let size = c.size-size.ensures.value in
    let zero : 0 ≡ st.range.0 = omega (arith, start, len, c.range-start.ensures.inside, size, c.if-len-size.true) in
    let whole : st.size ≡ st.range.1 = omega (arith, len, size, c.if-len-size.true) in
    let counted = c.full.ensures ∙ all_counted st st.size in record {
      full = counted ∙ λ i. full_in (first_at st) (zero i) (whole i);
      few = omega (arith, whole, counted, full_few (first_at st) 0 st.size);
    }
