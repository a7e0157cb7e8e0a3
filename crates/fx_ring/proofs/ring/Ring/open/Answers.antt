use Rattle.fx_ring.proofs.Words.{◌∙◌, ap, rules, ring_of, IsIdle, PassView}
use Rattle.fx_ring.proofs.Rings.{given_back_at_rest}
use Rattle.fx_ring.proofs.SubmittedRing.{kept_opened, only_pass, opened_ring}
use Rattle.fx_ring.proofs.ring.Ring.open.Goals as goal

pub invariant_of-result : goal.invariant_of-result
invariant_of-result g c =
    let Fits : g.row.T-Pass.Denot → Type 0 = λ p. g.T.FileTable.fits c.in-Ok.table p in
    let V : g.row.T-Pass.Denot → PassView = λ p. g.T.FileTable.view p in
    let only = only_pass V (λ p. Fits p × IsIdle (V p)) c.pop.new.self.items c.in-Some.ensures.items c.in-Ok.ensures.new c.in-Ok.ensures.ready in
    kept_opened c.in-Ok.ensures.opened V Fits c.self.invariant only.1 c.size-size.ensures.value c.size-size.ensures.few c.requires.chains
    (only.0, search rules) only.2

pub returns-in-Some-clause-opened : goal.returns-in-Some-clause-opened
returns-in-Some-clause-opened g c = opened_ring c.in-Ok.ensures.opened
    (only_pass g.T.FileTable.view (λ p. g.T.FileTable.fits c.in-Ok.table p × IsIdle (g.T.FileTable.view p)) c.pop.new.self.items
    c.in-Some.ensures.items c.in-Ok.ensures.new c.in-Ok.ensures.ready).1
    ∙ ap ring_of c.self.view_is

pub invariant_of-result-in-Err : goal.invariant_of-result-in-Err
invariant_of-result-in-Err g c = given_back_at_rest c.self.invariant c.in-Err.ensures.refused
