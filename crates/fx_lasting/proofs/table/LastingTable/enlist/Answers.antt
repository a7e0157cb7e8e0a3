use Rattle.fx_lasting.proofs.{◌≡◌, ℕ, ◌^◌, ◌∙◌, ap, sym, refl, subst, arith, bit_of, list_place, view_of, pass_of, false, as_listed, Runs, Change, []}
use Rattle.fx_lasting.proofs.{Doing, Adds, no_use, opening_of, list_inside, adds_run, listed_seat, rests_on, runs_goes, at_listed, listed_is}
use Rattle.fx_lasting.proofs.hold_lemmas.Listing.{lists_keep}
use Rattle.fx_lasting.proofs.table.LastingTable.enlist.Goals as goal

pub fetch_add-requires : goal.fetch_add-requires
fetch_add-requires c =
    let s = c.requires.fits.seated in
    let not_yet : s.at.log.listed ≡ false = listed_is s.at ∙ (sym s.listed ∙ c.if-pass.false) in (
      s.table,
      list_inside c.args.self.now (omega (arith, s.at.high, c.args.self.now.key.0, c.args.self.now.bounds.1)) c.list_place-place.ensures,
      rw (c.pass_bit.ensures ∙ ap (λ (n : ℕ). 2 ^ bit_of n) (sym s.at.its_number)) (lists_keep _ _ _ _ c.args.pass.now.seat.me _ s.at.pass not_yet
          (c.list_place-place.ensures ∙ ap list_place (sym s.at.its_number))),
    )

pub returns-clause-fits : goal.returns-clause-fits
returns-clause-fits c =
    let s = c.requires.fits.seated in
    let goes = c.fetch_add.ensures.2.goes in
    let m = c.args.pass.now.seat.me in
    let run = runs_goes goes in
    rests_on (at_listed s.at) _ run (listed_seat s _ (subst (λ (z : Change). Runs (as_listed m) [] m.0.work m.0.glance z 1 c.fetch_add.new.seat.me) s.change run) (refl, refl)
    c.fetch_add.ensures.0 (goes.carried ∙ s.places) (refl, s.next)) c.requires.fits.calm c.requires.fits.knows

pub returns-clause-adds : goal.returns-clause-adds
returns-clause-adds c =
    let k = c.args.self.now.table.shared.key in
    subst (λ (d : Doing). Adds (opening_of k) (view_of c.args.pass.now) [] d no_use (pass_of c.fetch_add.new.seat.me.0)) c.requires.idle
    (adds_run (as_listed c.args.pass.now.seat.me) c.requires.fits.seated.at.pass.0 (runs_goes c.fetch_add.ensures.2.goes) no_use)
