use Rattle.check_search.proofs.Words.{◌<◌, ℕ, view, all_unpacked, StepLeadsInside}
use Rattle.check_search.proofs.certificate.Check.leads_inside.Given as goal

abbrev pub invariant-loop-chain : goal.invariant-loop-chain
invariant-loop-chain l = (c : ℕ) → c < l.chain → StepLeadsInside l.self.strands.now
    (all_unpacked l.self.steps.now.packing l.self.rows.now.keys) (view l.node) c
