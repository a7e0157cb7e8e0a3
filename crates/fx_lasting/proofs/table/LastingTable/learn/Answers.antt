use Rattle.fx_lasting.proofs.{sym, subst, Start, IsInside}
use Rattle.fx_lasting.proofs.life_lemmas.Showing.{may_learn, learned_pass}
use Rattle.fx_lasting.proofs.table.LastingTable.learn.Goals as goal

pub learn-requires-clause-table : goal.learn-requires-clause-table
learn-requires-clause-table c = c.requires.fits.seated.table

pub learn-requires-clause-may : goal.learn-requires-clause-may
learn-requires-clause-may c = let s = c.requires.fits.seated in
    may_learn _ _ _ _ _ s.at.pass.1 s.at.pass.0 (subst (λ (z : Start). IsInside z c.args.pass.now.seat.me.0.work) (sym s.at.pass.0) s.at.inside)

pub returns-clause-fits : goal.returns-clause-fits
returns-clause-fits c = let e = c.learn.ensures in (learned_pass c.requires.fits c.args.seen.now.seen.view c.learn.new.seat e.table e.slots e.learned).0

pub returns-clause-learns : goal.returns-clause-learns
returns-clause-learns c = let e = c.learn.ensures in (learned_pass c.requires.fits c.args.seen.now.seen.view c.learn.new.seat e.table e.slots e.learned).1
