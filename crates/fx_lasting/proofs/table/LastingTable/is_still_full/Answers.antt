use Rattle.fx_lasting.proofs.{arith, ap, ◌∙◌, sym, Covered, same_groups, may_install}
use Rattle.fx_lasting.proofs.range_lemmas.Questions.{has_asked, has_not_asked}
use Rattle.fx_lasting.proofs.table.LastingTable.is_still_full.Goals as goal

pub decide-pass-requires-clause-number : goal.decide-pass-requires-clause-number
decide-pass-requires-clause-number c = let t = c.args.self.now in
    omega (arith, may_install c.requires.fits.seated c.requires.numbers, t.key.1, t.bounds.3)

pub decide-pass-requires-clause-asked : goal.decide-pass-requires-clause-asked
decide-pass-requires-clause-asked c = c.requires.fits.seated.sure c.if-not-pass.false ∙ ap Covered (sym (same_groups c.args.self.now))

pub returns-then-not-pass : goal.returns-then-not-pass
returns-then-not-pass c = has_not_asked c.args.self.now c.requires.fits

pub returns : goal.returns
returns c = has_asked c.args.self.now c.requires.fits c.decide-pass.new.seat c.decide-pass.ensures.table c.decide-pass.ensures.places
    c.decide-pass.result c.decide-pass.ensures.sure
