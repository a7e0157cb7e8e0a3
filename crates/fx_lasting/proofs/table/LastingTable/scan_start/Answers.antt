use Rattle.fx_lasting.proofs.{arith, ap, ℕ, ◌-◌}
use Rattle.fx_lasting.proofs.range_lemmas.Trying.{in_range}
use Rattle.fx_lasting.proofs.table.LastingTable.scan_start.Goals as goal

pub returns-then-self-first : goal.returns-then-self-first
returns-then-self-first c =
    let t = c.args.self.now in
    let starts = ap (λ (z : ℕ × ℕ). z.0) t.same_range in
    let ends = ap (λ (z : ℕ × ℕ). z.1) t.same_range in
    in_range t (c.args.first - 1) (omega (arith, c.if-self-first.true)) (omega (arith, c.requires.1, c.if-self-first.true, starts, ends))
