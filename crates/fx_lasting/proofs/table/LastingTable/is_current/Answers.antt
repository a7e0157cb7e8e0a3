use Rattle.fx_lasting.proofs.{ap, ◌∙◌, arith, refl, slot_of, ◌<◌, no_use, adds_so, at_rest, still_pass, slot_back, runs_goes}
use Rattle.fx_lasting.proofs.slot_lemmas.Current.{current_so}
use Rattle.fx_lasting.proofs.slot_lemmas.Seeing.{may_see}
use Rattle.fx_lasting.proofs.table.LastingTable.is_current.Goals as goal

pub load-word-requires : goal.load-word-requires
load-word-requires c =
    let inside : c.args.slot < c.args.self.now.size = omega (arith, c.requires.slot, c.args.self.now.same_size) in
    may_see c.args.self.now c.args.pass.now.seat c.requires.fits.seated.table c.requires.fits.seated.at inside c.slot_place.ensures

pub returns : goal.returns
returns c =
    let fits = c.requires.fits in
    let s = fits.seated in
    let saw = c.load-word.ensures.2 in
    let run = at_rest fits (runs_goes saw.goes) in
    record {
      fits = still_pass s _ run (refl, refl) c.load-word.ensures.0 (saw.goes.carried ∙ s.places) (refl, s.next) fits.knows;
      current = record {
        adds = adds_so s run no_use;
        exact = rw c.is_ok.ensures.value (current_so fits c.requires.holds (ap slot_of c.slot_place.ensures ∙ slot_back c.args.slot) saw c.named_by.result c.named_by.ensures);
      };
      steps = let few = run.steps in omega arith;
      met = (run.met, run.changes);
    }
