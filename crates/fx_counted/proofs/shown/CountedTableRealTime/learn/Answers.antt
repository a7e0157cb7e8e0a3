use Rattle.fx_counted.proofs.Words.{sym, subst, Start, IsInside}
use Rattle.fx_counted.proofs.Showing.{may_learn, learned_pass}
use Rattle.fx_counted.proofs.shown.CountedTableRealTime.learn.Goals as goal

pub learn-requires-clause-table : goal.learn-requires-clause-table
learn-requires-clause-table c = c.requires.fits.table

pub learn-requires-clause-may : goal.learn-requires-clause-may
learn-requires-clause-may c = let s = c.requires.fits.seated in
    may_learn _ _ _ _ _ s.one s.start (subst (λ (z : Start). IsInside z c.args.pass.now.seat.me.0.work) (sym s.start) s.inside)

pub returns : goal.returns
returns c =
    let e = c.learn.ensures in let l = learned_pass c.requires.fits c.args.seen.now.seen.view c.learn.new.seat e.table e.slots e.learned in
    record { fits = l.0; learns = l.1 }
