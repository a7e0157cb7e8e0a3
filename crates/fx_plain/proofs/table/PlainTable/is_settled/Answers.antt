use Rattle.fx_plain.proofs.Words.{sym, eqb-true, eq-eqb}
use Rattle.fx_plain.proofs.Settled.{settled_by_counts, no_holds, none_removed}
use Rattle.fx_plain.proofs.table.PlainTable.is_settled.Goals as goal

pub returns-then-self-eq0 : goal.returns-then-self-eq0
returns-then-self-eq0 c = (
  λ is. rw (sym c.self.view_is) (settled_by_counts c.self.invariant.0.1 c.if-self-eq0.true (eqb-true _ _ is)),
  λ s. eq-eqb _ _ (none_removed c.self.invariant.0.1 (rw (sym c.self.view_is) at s)),
)

pub returns-else-self-eq0 : goal.returns-else-self-eq0
returns-else-self-eq0 c = (
  λ is. absurd (c.if-self-eq0.false (eqb-true _ _ is)),
  λ s. absurd (c.if-self-eq0.false (no_holds c.self.invariant.0.1 (rw (sym c.self.view_is) at s))),
)
