use Rattle.fx_lasting.proofs.{◌∙◌, ap, arith, Start, Bool, true, uncounted, group_of, range_at_start, IsAtWork, opening_of, view_of, pass_of, Runs}
use Rattle.fx_lasting.proofs.{Glance, Outside, as_stocked, retiring_work, ◌▷◌, [], subst, sym, refl, no_use, PassView, Take, still_at_work, its_idle}
use Rattle.fx_lasting.proofs.{account_so, knows_removed, removed_so, first_by, HasRemoved}
use Rattle.fx_lasting.proofs.slot_lemmas.Removals.{adds_stocked, emptied_around, emptied_at_work, emptied_stock, stocked_pass}
use Rattle.fx_lasting.proofs.table.LastingTable.remove.Goals.{After-lower}
use Rattle.fx_lasting.proofs.node_lemmas.Settled.{still_idle}
use Rattle.fx_lasting.proofs.table.LastingTable.remove.Goals as goal

-- the pass, before the slot is emptied
at : (c : After-lower) → IsAtWork c.args.self.now.table.shared.key c.settle.new.pass.number c.lower.new.seat.me
at c = still_at_work c.settle.ensures.fits.seated.at c.lower.ensures.runs

pub empty_slot-found-requires : goal.empty_slot-found-requires
empty_slot-found-requires c =
    let t = c.args.self.now in
    let began = c.lower.ensures in
    record {
      table = began.table ∙ c.settle.ensures.fits.seated.table;
      at = (c.settle.new.pass.number, at ((goal.at.empty_slot-found-requires c).After-lower));
      idle = rw began.runs.work (its_idle c.settle.ensures.fits (still_idle c.settle.ensures.same c.requires.idle) c.settle.ensures.unkept);
      stock = c.settle.ensures.fits.seated.stock ∙ sym began.runs.stock;
      slot = omega (arith, c.requires.slot, t.same_size);
      off = began.runs.change ∙ ap (λ (b : Bool). uncounted b true (group_of (range_at_start t.table.shared.key) c.args.slot)) c.is_in_range-inside.ensures;
    }

pub raise-requires-clause-at : goal.raise-requires-clause-at
raise-requires-clause-at c =
    (c.settle.new.pass.number, emptied_at_work (at ((goal.at.raise-requires-clause-at c).After-lower)) c.empty_slot-found.ensures.emptied)

pub raise-requires-clause-change : goal.raise-requires-clause-change
raise-requires-clause-change c =
    let k : Start = c.args.self.now.table.shared.key in
    let went = c.empty_slot-found.ensures.emptied in
    went.runs.change ∙ account_so (range_at_start k) c.args.slot c.empty_slot-found.result went.file c.removed_in-removed.result c.is_in_range-inside.result
    c.is_none.result (c.removed_in-removed.ensures went.file went.names) c.is_none.ensures c.is_in_range-inside.ensures

pub returns : goal.returns
returns c =
    let a = (goal.at.returns c).After-lower in
    let k : Start = c.args.self.now.table.shared.key in
    let fits = c.settle.ensures.fits in
    let s = fits.seated in
    let emptied = c.empty_slot-found.ensures in
    let went = emptied.emptied in
    let found = c.empty_slot-found.result in
    let stock = c.empty_slot-found.new.stock.items in
    let file = went.file in
    let removed = c.removed_in-removed.result in
    let is = c.removed_in-removed.ensures file went.names in
    let run = subst (λ (y : Glance). Runs (as_stocked stock c.settle.new.pass.seat.me) ([] ▷ Take c.args.slot file) (retiring_work k found file) y Outside 5
    c.raise.new.seat.me) fits.calm (emptied_around (at a) went c.lower.ensures.runs c.raise.ensures.runs) in
    let w = pass_of c.raise.new.seat.me.0 in
    record {
      fits = stocked_pass s stock (emptied_stock (at a) went) _ run (refl, refl) (c.raise.ensures.table ∙ (emptied.table ∙ c.lower.ensures.table))
          (c.raise.ensures.places ∙ (emptied.places ∙ (c.lower.ensures.places ∙ s.places))) (refl, s.next)
          (knows_removed k found file removed _ _ _ _ c.settle.new.pass.next_entry stock
          c.settle.ensures.unkept is c.is_none-pass.ensures (c.first_visit-pass.ensures ∙ first_by c.args.self.now found));
      removed = subst (λ (z : PassView). HasRemoved (opening_of k) z c.args.slot removed w) c.settle.ensures.same
          (removed_so k (view_of c.settle.new.pass) c.args.slot found w file removed is (adds_stocked s stock run no_use));
      steps = let few = run.steps in let one = c.settle.ensures.steps in omega arith;
    }
