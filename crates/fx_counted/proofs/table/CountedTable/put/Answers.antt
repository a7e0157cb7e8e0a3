use Rattle.fx_counted.proofs.{◌≡◌, ℕ, [], ◌∷◌, ap, ◌∙◌, subst, arith, Some, ◌▷◌, numbered, Put, takes_in, slot_word_of, Adds, one_number, place_of}
use Rattle.fx_counted.proofs.{pass_of, view_of, opening_of_table, activity_of, retiring, Bool, sym, File, List, Log, None, Option, Retired, first_log}
use Rattle.fx_counted.proofs.{is_idle, option_map, refl, rest, is_some, retired_of, Between, not, placed_so, slot_inside, slot_at, its_pass, adds_so}
use Rattle.fx_counted.proofs.{goes_one, goes_then, goes_around, still_pass, installs_keep, may_change}
use Rattle.std.proofs.lemmas.Bool.{not-false, not-true}
use Rattle.fx_counted.proofs.table.CountedTable.put.Goals as goal

pub swap-found-requires : goal.swap-found-requires
swap-found-requires c =
    let t = c.args.self.now in let fits = c.requires.fits in let n = c.next_number-number.result in let born = c.put_in.ensures in
    let began = c.begin-began.ensures in let goes = began.goes in let place = c.slot_place.ensures in (
      began.table ∙ (born.table ∙ fits.table),
      slot_inside t c.requires.slot place,
      installs_keep _ _ _ _ c.args.slot n _ c.args.file c.begin-began.new.seat.me _ (goes.start ∙ (born.born.start ∙ (its_pass fits).0), goes.one.1)
          (goes.work ∙ born.born.work) (began.places ∙ born.place.place) (omega (arith, c.entry.type_inv, c.entry.ensures)) c.requires.slot
          (may_change t.table.shared.key c.begin-began.result began.range goes.change) place
          (c.slot_word-word.ensures ∙ ap (slot_word_of n) c.entry.ensures),
    )

-- a pass is idle that found none
idle_if_none : (found : Option File) (takes : ℕ) {removed : Option Retired} (b : Bool) → is_some removed ≡ not b
    → removed ≡ option_map (λ f. retired_of f takes) found → b ≡ is_idle (Between (retiring found takes))
idle_if_none None takes b told is = not-false b (sym told ∙ ap is_some is)
idle_if_none (Some f) takes b told is = not-true b (sym told ∙ ap is_some is)

pub returns : goal.returns
returns c =
    let o = opening_of_table c.args.self.now in let v = view_of c.args.pass.now in let m = c.end.new.seat.me in
    let fits = c.requires.fits in let n = c.next_number-number.result in let file = c.args.file in
    let takes = takes_in c.swap-found.result in let born = c.put_in.ensures in let began = c.begin-began.ensures in
    let went = c.swap-found.ensures.2 in let start = began.goes.start ∙ (born.born.start ∙ (its_pass fits).0) in
    let carried = began.places ∙ born.place.place in
    let stepped = went.stepped n file (began.goes.work ∙ born.born.work) (carried ∙ λ i. (place_of (sym start i) n, Some file) ∷ []) in
    let goes = goes_then (goes_one born.born) (goes_around began.goes stepped c.end.ensures.goes) in
    let shown = ap (λ (l : List Log). (first_log l).numbers_left) fits.seated.one in record {
      fits = still_pass _ fits goes
          (c.end.ensures.table ∙ (c.swap-found.ensures.0 ∙ (began.table ∙ born.table)))
          (c.end.ensures.places ∙ (went.carried ∙ ap rest carried))
          tt refl refl (omega (arith, c.requires.numbers, shown, fits.knows.numbers_left)) (omega arith)
          (idle_if_none went.replaced takes _ c.is_none-pass.ensures (c.removed_in-replaced.ensures went.replaced went.names));
      placed = placed_so o v c.args.slot went.replaced takes _ (pass_of m.0) (c.removed_in-replaced.ensures went.replaced went.names) n file file
          c.next_number-number.ensures.number refl
          (subst (λ (s : ℕ). Adds o v ([] ▷ Put s (numbered n file) went.replaced) (activity_of (retiring went.replaced takes)) one_number (pass_of m.0))
          (slot_at c.args.self.now c.slot_place.ensures) (adds_so fits goes));
      steps = omega (arith, goes.steps);
    }
