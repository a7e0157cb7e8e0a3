use Rattle.fx_lasting.proofs.{refl, sym, ◌∙◌, arith, inr, at_rest, still_pass, its_unkept, its_guarded, its_counted, released_so, lets_run}
use Rattle.fx_lasting.proofs.table.LastingTable.release.Goals as goal

pub step_down-requires-clause-guarded : goal.step_down-requires-clause-guarded
step_down-requires-clause-guarded c = let h = c.requires.held in (h.0, its_guarded c.requires.fits h.1 c.if-pass.true)

pub returns-then-pass : goal.returns-then-pass
returns-then-pass c =
    let fits = c.requires.fits in
    let s = fits.seated in
    let h = c.requires.held in
    let down = c.step_down.ensures in
    let lets = down.releases h.0 (its_guarded fits h.1 c.if-pass.true) in
    let run = at_rest fits (lets_run c.args.pass.now.seat.me c.step_down.new.seat.me h.0 3 c.step_down.result lets).1 in
    record {
      fits = still_pass s _ run (refl, refl) down.table down.places (refl, s.next) (refl, its_unkept fits (λ is. cc (sym h.1 ∙ is)));
      released = (h.0, h.1, released_so fits c.step_down.new.seat.me h.0 3 c.step_down.result lets);
      steps = let few = run.steps in omega arith;
      met = (run.met, run.changes);
    }

pub let_go-requires-clause-has : goal.let_go-requires-clause-has
let_go-requires-clause-has c = let h = c.requires.held in inr (inr (h.0, its_counted c.requires.fits h.1 c.if-pass.false))

pub returns : goal.returns
returns c =
    let fits = c.requires.fits in
    let s = fits.seated in
    let h = c.requires.held in
    let gone = c.let_go.ensures in
    let lets = gone.held h.0 (inr (its_counted fits h.1 c.if-pass.false)) in
    let run = at_rest fits (lets_run c.args.pass.now.seat.me c.let_go.new.seat.me h.0 2 c.let_go.result lets).1 in
    record {
      fits = still_pass s _ run (refl, refl) gone.table gone.places (refl, s.next) (refl, its_unkept fits (λ is. cc (sym h.1 ∙ is)));
      released = (h.0, h.1, released_so fits c.let_go.new.seat.me h.0 2 c.let_go.result lets);
      steps = let few = run.steps in omega arith;
      met = (run.met, run.changes);
    }
