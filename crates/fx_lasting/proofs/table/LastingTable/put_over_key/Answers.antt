use Rattle.fx_lasting.proofs.{[], ◌▷◌, refl, ◌∙◌, subst, arith, inl, Start, Doing, DoesNothing, Adds, no_use, one_look, opening_of, view_of, pass_of}
use Rattle.fx_lasting.proofs.{Look, None, adds_then, ◌<◌, Closed, Glance, LastingPass, Option, Runs, Sat, TableId, MeetsMore, sym, IsSeatOf, slot_low}
use Rattle.fx_lasting.proofs.{adds_so, at_ease, still_pass, PutsAlone}
use Rattle.fx_lasting.proofs.slot_lemmas.RenewalEnds.{frees_later, puts_before}
use Rattle.fx_lasting.proofs.table.LastingTable.put_over_key.Goals as goal

pub returns-in_default-clause-fits : goal.returns-in_default-clause-fits
returns-in_default-clause-fits c =
    let fits = c.enlist.ensures.fits in
    let s = fits.seated in
    still_pass s _ (at_ease s c.in_default.ensures.aimed) (refl, refl) c.aim.ensures.table (c.aim.ensures.places ∙ s.places) (refl, s.next) fits.knows

pub returns-in_default-clause-placed : goal.returns-in_default-clause-placed
returns-in_default-clause-placed c =
    let k : Start = c.args.self.now.table.shared.key in
    let s = c.enlist.ensures.fits.seated in
    let first = c.enlist.ensures.adds in
    let v = view_of c.args.pass.now in
    let v₁ = view_of c.enlist.new.pass in
    let w = pass_of c.aim.new.seat.me.0 in
    let looked = subst (λ (d : Doing). Adds (opening_of k) v₁ ([] ▷ Look c.args.key.slot None) d one_look w) first.now (adds_so s c.in_default.ensures.aimed one_look) in
    (refl, inl (adds_then (opening_of k) v v₁ w [] ([] ▷ Look c.args.key.slot None) DoesNothing DoesNothing no_use one_look first looked, refl))

-- the pass listed itself, if need be, and aimed at its slot
aims : (u : LastingPass) {id : TableId} {k : Start} {p : LastingPass} → IsSeatOf id k p → Adds (opening_of k) (view_of u) [] DoesNothing no_use (view_of p)
    → (g : Glance) (m : Sat) → Runs p.seat.me [] p.seat.me.0.work g p.seat.me.0.change 1 m → Adds (opening_of k) (view_of u) [] DoesNothing no_use (pass_of m.0)
aims u {k = k} {p = p} s first g m run = adds_then (opening_of k) (view_of u) (view_of p) (pass_of m.0) [] [] DoesNothing DoesNothing no_use no_use first
    (subst (λ (d : Doing). Adds (opening_of k) (view_of p) [] d no_use (pass_of m.0)) first.now (adds_so s run no_use))

pub returns-in-Ends-clause-placed : goal.returns-in-Ends-clause-placed
returns-in-Ends-clause-placed c =
    let t = c.args.self.now in
    let low : c.args.key.slot < t.size = omega (arith, c.if-self-key.false) in
    let p : LastingPass = record c.enlist.new.pass { seat = c.aim.new.seat } in
    let aimed = c.in-Some.ensures.aimed in
    puts_before t.table.shared.key c.args.pass.now p c.renew.new.pass c.args.key None (aims c.args.pass.now c.enlist.ensures.fits.seated c.enlist.ensures.adds _ c.aim.new.seat.me aimed)
    (omega (arith, c.enlist.ensures.met.0, aimed.met), λ s. let a = c.enlist.ensures.met.1 s in let b = aimed.changes s in omega arith) (slot_low t low) c.args.file c.in-Ends.put c.in-Ends.released c.in-Ends.ensures.renews.1

pub returns-in-Moved-clause-placed : goal.returns-in-Moved-clause-placed
returns-in-Moved-clause-placed c =
    let k : Start = c.args.self.now.table.shared.key in
    let low : c.args.key.slot < c.args.self.now.size = omega (arith, c.if-self-key.false) in
    let p₁ = c.renew.new.pass in
    let p' = c.renew_cold.new.pass in
    let moved = c.in-Moved.ensures.renews in
    let before = frees_later k (view_of c.args.pass.now) (pass_of c.aim.new.seat.me.0) (view_of p₁) c.in-Moved.freed
    (aims c.args.pass.now c.enlist.ensures.fits.seated c.enlist.ensures.adds _ c.aim.new.seat.me c.in-Some.ensures.aimed) moved.2.frees in
    let few : MeetsMore c.args.pass.now p₁ = (
      omega (arith, c.enlist.ensures.met.0, c.in-Some.ensures.aimed.met, c.renew.ensures.met.0),
      λ s. let a = c.enlist.ensures.met.1 s in let b = c.in-Some.ensures.aimed.changes s in let d = c.renew.ensures.met.1 s in omega arith,
    ) in
    let done : PutsAlone k p₁ c.args.key c.args.file c.renew_cold.result.put None c.renew_cold.result.released p' =
    subst (λ (z : Closed). PutsAlone k p₁ c.args.key z c.renew_cold.result.put None c.renew_cold.result.released p') moved.0 c.renew_cold.ensures.placed in
    subst (λ (z : Option Closed). PutsAlone k c.args.pass.now c.args.key c.args.file c.renew_cold.result.put z c.renew_cold.result.released p') (sym c.renew_cold.ensures.freed)
    (puts_before k c.args.pass.now p₁ p' c.args.key c.in-Moved.freed before few (slot_low c.args.self.now low) c.args.file c.renew_cold.result.put
    c.renew_cold.result.released done)

pub returns-in-Moved-clause-steps : goal.returns-in-Moved-clause-steps
returns-in-Moved-clause-steps c =
    let few = c.in-Some.ensures.aimed.steps in
    omega (arith, c.enlist.ensures.steps, c.renew_cold.ensures.steps, c.in-Moved.ensures.renews.2.steps, c.args.self.now.key.0)
