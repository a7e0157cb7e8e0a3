use Rattle.fx_lasting.proofs.{arith, may_install}
use Rattle.fx_lasting.proofs.slot_lemmas.Overtaking.{fell_short}
use Rattle.fx_lasting.proofs.range_lemmas.Questions.{has_asked}
use Rattle.fx_lasting.proofs.table.LastingTable.is_all_full.Goals as goal

pub ask-pass-requires-clause-number : goal.ask-pass-requires-clause-number
ask-pass-requires-clause-number c = let t = c.args.self.now in
    omega (arith, may_install c.requires.fits.seated c.requires.numbers, t.key.1, t.bounds.3)

pub ask-pass-requires-clause-outside : goal.ask-pass-requires-clause-outside
ask-pass-requires-clause-outside c = c.requires.fits.seated.change

pub returns : goal.returns
returns c = record {
  asked = has_asked c.args.self.now c.requires.fits c.ask-pass.new.seat c.ask-pass.ensures.table c.ask-pass.ensures.places
      c.ask-pass.result c.ask-pass.ensures.sure;
  short = λ is. fell_short c.args.self.now.table.shared.key c.args.pass.now (record c.args.pass.now { seat = c.ask-pass.new.seat; sure = c.ask-pass.result })
      c.requires.fits.seated.at.pass.0 (c.ask-pass.ensures.short is);
}
