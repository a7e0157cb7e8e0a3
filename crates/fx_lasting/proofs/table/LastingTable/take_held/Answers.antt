use Rattle.fx_lasting.proofs.{ℕ, IsStockOf, as_stocked, uncounted, group_of, count_in, retired_at, opening_of, HasItsHold, HoldsAlone, IsAtWork}
use Rattle.fx_lasting.proofs.{IsPassOf, List, subst, arith, Release, Start, Outside, view_of, pass_of, no_use, Retired, Names, held_in, Change}
use Rattle.fx_lasting.proofs.{Holding, TableId, sym, ◌-◌, ap, ◌∙◌, [], ◌▷◌, refl, Take, Some, Bool, true, Runs, Adds, File, not, ◌≡◌, Ok, Sat, Work}
use Rattle.fx_lasting.proofs.{◌<◌, Hold, IsBetweenCalls, retiring_work, range_at_start, Glance, full_name_in, node_of_number, is_guarding}
use Rattle.fx_lasting.proofs.{leaving_work, LastingPass, at_rest, still_pass, holds_alone, knows_removed, first_by, still_at_work, does_then}
use Rattle.fx_lasting.proofs.{turns_then, number_is, TriedOutHeld}
use Rattle.fx_table.specs.declared.values.Doing.TheVariants.{Retiring as Retires}
use Rattle.fx_lasting.proofs.slot_lemmas.ByNode.{stands_then, missed_so, tried_none, tried_so, value_so, removal_so}
use Rattle.fx_lasting.proofs.slot_lemmas.HeldTries.{adds_held, held_flags}
use Rattle.fx_lasting.proofs.slot_lemmas.SwapsHeld.{held_alone}
use Rattle.fx_lasting.proofs.slot_lemmas.Removals.{at_stocked, adds_stocked, stocked_pass, stocked_then}
use Rattle.fx_lasting.proofs.table.LastingTable.take_held.Goals as goal

-- a pass that holds a file holds it by itself after some steps
alone_after : {id : TableId} {k : Start} {p : LastingPass} {f : File} {hold : Hold} {m' : Sat} {g : Glance} {c : Change} {n : ℕ} → IsPassOf id k p
    → Runs p.seat.me [] p.seat.me.0.work g c n m' → (view_of p).doing ≡ Holding f hold → HoldsAlone m'.0.work f hold.node
alone_after {f = f} {hold = hold} fits run holds = subst (λ (w : Work). HoldsAlone w f hold.node) (sym run.work) (holds_alone fits holds)

pub see-requires-clause-slot : goal.see-requires-clause-slot
see-requires-clause-slot c = omega (arith, c.requires.slot, c.args.self.now.same_size)

pub returns-in-Err : goal.returns-in-Err
returns-in-Err c =
    let fits = c.requires.fits in
    let s = fits.seated in
    let saw = c.in-Err.ensures.saw in
    let run = at_rest fits saw.1 in
    record {
      fits = still_pass s _ run (refl, refl) c.see.ensures.table (c.see.ensures.places ∙ s.places) (refl, s.next) fits.knows;
      taken = (c.requires.held.0, c.requires.held.1, saw.0, adds_held fits c.requires.held.1 saw.1);
      tries = tried_none c.args.self.now.table.shared.key c.args.slot c.in-Err.miss _ _ saw.2;
      steps = let few = run.steps in omega arith;
    }

pub lower-requires-clause-at : goal.lower-requires-clause-at
lower-requires-clause-at c = (c.args.pass.now.number, still_at_work c.requires.fits.seated.at c.in-Ok.ensures.saw.2)

pub lower-requires-clause-change : goal.lower-requires-clause-change
lower-requires-clause-change c = c.in-Ok.ensures.saw.2.change ∙ c.requires.fits.seated.change

pub try_out-requires : goal.try_out-requires
try_out-requires c =
    let t = c.args.self.now in
    let f = c.requires.fits in
    let began = c.lower.ensures in
    let inside : c.args.slot < t.size = omega (arith, c.requires.slot, t.same_size) in
    let at = still_at_work (still_at_work f.seated.at c.in-Ok.ensures.saw.2) began.runs in
    let first = turns_then c.in-Ok.ensures.saw.2 began.runs in
    let stock = f.seated.stock ∙ sym first.stock in
    record {
      table = began.table ∙ (c.see.ensures.table ∙ f.seated.table);
      at = (c.args.pass.now.number, at);
      stock = stock;
      slot = inside;
      named = c.in-Ok.ensures.saw.0;
      holds = (c.requires.held.0, alone_after f first c.requires.held.1);
      off = began.runs.change ∙ ap (λ (b : Bool). uncounted b true (group_of (range_at_start t.table.shared.key) c.args.slot)) c.is_in_range-inside.ensures;
    }

-- the seat after the exchange
at_removed : (k : Start) (p slot node word : ℕ) (m₂ m₃ : Sat) (stock : List ℕ) (at : IsAtWork k p m₂) → TriedOutHeld k slot node stock m₂ (Ok word) m₃ → IsAtWork k p m₃
at_removed k p slot node word m₂ m₃ stock at took =
    still_at_work (at_stocked at stock (subst (λ (n : ℕ). IsStockOf k n stock) (number_is at) took.5)) took.6

pub end_hold-found-requires : goal.end_hold-found-requires
end_hold-found-requires c =
    let k : Start = c.args.self.now.table.shared.key in
    let fits = c.requires.fits in
    let word = c.in-Ok-try_out.found in
    let first = turns_then c.in-Ok.ensures.saw.2 c.lower.ensures.runs in
    let took = c.in-Ok-try_out.ensures.tried in
    let guards = ap is_guarding first.work ∙ (held_flags k.passes c.args.pass.now (holds_alone fits c.requires.held.1) fits.knows).2 in
    record {
      table = c.try_out.ensures.table ∙ (c.lower.ensures.table ∙ (c.see.ensures.table ∙ fits.seated.table));
      at = at_removed k c.args.pass.now.number c.args.slot c.args.hold.now.node word c.lower.new.seat.me c.try_out.new.seat.me c.try_out.new.stock.items
          (still_at_work fits.seated.at first) took;
      left = (took.0, took.6.work ∙ ap (λ (b : Bool). leaving_work k b word took.0) guards);
      hold = subst (λ (b : Bool). HasItsHold b word) guards took.4;
    }

pub returns-in-Ok-try_out : goal.returns-in-Ok-try_out
returns-in-Ok-try_out c =
    let k : Start = c.args.self.now.table.shared.key in
    let fits = c.requires.fits in
    let s = fits.seated in
    let began = c.lower.ensures in
    let ends = c.end_hold-found.ensures in
    let found = c.end_hold-found.result in
    let f = c.requires.held.0 in
    let its = c.removed_by.ensures in
    let stock = c.try_out.new.stock.items in
    let m = c.args.pass.now.seat.me in
    let m₂ = c.lower.new.seat.me in
    let m₄ = c.end_hold-found.new.seat.me in
    let first = turns_then c.in-Ok.ensures.saw.2 began.runs in
    let took = c.in-Ok-try_out.ensures.tried in
    let alone = holds_alone fits c.requires.held.1 in
    let flags = held_flags k.passes c.args.pass.now alone fits.knows in
    let guards = ap is_guarding first.work ∙ flags.2 in
    let same : took.0 ≡ f = cc (sym (held_alone took.1) ∙ (ap held_in first.work ∙ held_alone alone)) in
    let name = ends.named ∙ took.2 in
    let names : Names (node_of_number k) found (Some f) = subst (λ (z : File). Names (node_of_number k) found (Some z)) same (ends.named ∙ took.3.0, ends.entry ∙ took.3.1) in
    let its_stock = subst (λ (n : ℕ). IsStockOf k n stock) (number_is (still_at_work s.at first)) took.5 in
    let done = does_then took.6 (ends.ended took.0 (took.6.work ∙ ap (λ (b : Bool). leaving_work k b c.in-Ok-try_out.found took.0) guards)) in
    let did = subst (λ (z : File × Glance). Runs (as_stocked stock m₂) ([] ▷ Release z.0 ▷ Take c.args.slot (Some z.0)) (retiring_work k found (Some z.0)) z.1 Outside 5 m₄)
    (λ i. (same i, first.glance i)) done in
    let run = subst (λ (g : Glance). Runs (as_stocked stock m) ([] ▷ Release f ▷ Take c.args.slot (Some f)) (retiring_work k found (Some f)) g Outside 9 m₄) fits.calm
    (stocked_then stock first did) in
    let w = pass_of m₄.0 in
    record {
      fits = stocked_pass s stock its_stock _ run (refl, refl) (ends.table ∙ (c.try_out.ensures.table ∙ (began.table ∙ c.see.ensures.table)))
          (ends.places ∙ (c.try_out.ensures.places ∙ (began.places ∙ (c.see.ensures.places ∙ s.places)))) (refl, s.next)
          (knows_removed k found (Some f) (Some (retired_at f (full_name_in found - 1) (count_in found))) _ c.args.pass.now.guarded _ _ c.args.pass.now.next_entry stock flags.1 refl
          (ap not (sym flags.0)) (c.first_visit-pass.ensures ∙ first_by c.args.self.now found));
      taken = (
        f,
        c.requires.held.1,
        removal_so found c.removed_by.result its.node its.entry its.takes name f k names.1,
        subst (λ (z : Retired). Adds (opening_of k) (view_of c.args.pass.now) ([] ▷ Release f ▷ Take c.args.slot (Some f)) (Retires f z) no_use w)
            (value_so found c.removed_by.result its.node its.entry its.takes name f names.1) (adds_stocked s stock run no_use),
      );
      tries = tt;
      steps = let few = run.steps in omega arith;
    }

pub raise-requires : goal.raise-requires
raise-requires c =
    let tried = stands_then (turns_then c.in-Ok.ensures.saw.2 c.lower.ensures.runs) c.in-Err-try_out.ensures.tried.1 in
    record {
      table = c.try_out.ensures.table ∙ (c.lower.ensures.table ∙ (c.see.ensures.table ∙ c.requires.fits.seated.table));
      at = (c.args.pass.now.number, still_at_work c.requires.fits.seated.at tried);
      inside = c.is_in_range-inside.ensures;
      change = tried.change;
    }

pub returns-in-Err-try_out : goal.returns-in-Err-try_out
returns-in-Err-try_out c =
    let k : Start = c.args.self.now.table.shared.key in
    let fits = c.requires.fits in
    let s = fits.seated in
    let began = c.lower.ensures in
    let failed = c.in-Err-try_out.ensures.tried in
    let end = c.raise.ensures in
    let p = c.args.pass.now in
    let m = p.seat.me in
    let m₂ = c.lower.new.seat.me in
    let m₃ = c.try_out.new.seat.me in
    let m₄ = c.raise.new.seat.me in
    let first = turns_then c.in-Ok.ensures.saw.2 began.runs in
    let run = turns_then (stands_then first failed.1) end.runs in
    let same_stock = failed.2 ∙ (first.stock ∙ sym s.stock) in
    record {
      fits = still_pass s _ (subst (λ (g : Glance). Runs m [] m.0.work g Outside 9 m₄) fits.calm run) (refl, refl)
          (end.table ∙ (c.try_out.ensures.table ∙ (began.table ∙ c.see.ensures.table)))
          (end.places ∙ (c.try_out.ensures.places ∙ (began.places ∙ (c.see.ensures.places ∙ s.places)))) (same_stock, s.next)
          (subst (λ (l : List ℕ). IsBetweenCalls k.passes p.idle p.guarded p.keeps p.next_visit l p.next_entry m.0.work) (sym same_stock) fits.knows);
      taken = (
        c.requires.held.0,
        c.requires.held.1,
        missed_so k c.args.slot c.args.hold.now.node m c.see.new.seat.me m₂ m₃ m₄ c.in-Err-try_out.miss c.in-Ok.ensures.saw.1 failed.0 first.seen
            (turns_then (stands_then began.runs failed.1) end.runs).seen end.runs.seen,
        adds_held fits c.requires.held.1 run,
      );
      tries = tried_so k c.args.slot c.args.hold.now.node p (record p { seat = c.raise.new.seat; stock = c.try_out.new.stock }) m₂ m₃
          first.number (first.start ∙ s.at.pass.0) first.seen first.met (first.changes c.args.slot) end.runs.seen end.runs.met (end.runs.changes c.args.slot) c.in-Err-try_out.miss failed.0;
      steps = let few = run.steps in omega arith;
    }
