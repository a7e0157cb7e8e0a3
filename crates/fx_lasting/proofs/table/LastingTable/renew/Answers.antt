use Rattle.fx_lasting.proofs.{◌-◌, [], refl, ap, ◌∙◌, subst, arith, inl, inr, alone_in, rested, label_of, as_written, Some, None, Work, Runs, Closed}
use Rattle.fx_lasting.proofs.{HasPlace, Start, full_name_in, count_in, retired_at, set, one_look, false, ◌≡◌, ◌≤◌, ◌∷◌, ℕ, List, Sat, pass_in}
use Rattle.fx_lasting.proofs.{get_elem?, some, most_carried, Placing, sym, File, HoldsBesides, Placement, is_some, slot_low, adds_so, at_ease}
use Rattle.fx_lasting.proofs.{charges_run, still_seat, still_pass, swapped_pass, knows_removed, first_by, lets_run, looks_then, does_then, file_then}
use Rattle.fx_lasting.proofs.{still_at_work, IsBeside, RenewsAlone}
use Rattle.std.specs.Vec.{with_item}
use Rattle.fx_lasting.proofs.node_lemmas.Labelling.{held_besides}
use Rattle.fx_lasting.proofs.range_lemmas.Trying.{stocked_at}
use Rattle.fx_lasting.proofs.slot_lemmas.RenewalEnds.{frees_so, was_other, left, renews, swaps}
use Rattle.fx_lasting.proofs.table.LastingTable.renew.Goals as goal

-- the pass works with the node that it holds and with its own
besides_so : {d e : Work} {f : File} {n own : ℕ} {l : Placement} → e ≡ d → HoldsBesides d f n own l → HoldsBesides e f n own l
besides_so {f = f} {n = n} {own = own} {l = l} is holds = subst (λ (w : Work). HoldsBesides w f n own l) (sym is) holds

-- the place of its own node is with the pass
own_place : {m : Sat} {own : ℕ} {file : Closed} (l : Placement) → alone_in m.0.work ≡ Placing own l → m.1 ≡ (own, Some file) ∷ []
    → HasPlace own (Some file) m
own_place l is place = record { work = inr (l, is); place = place }

-- it holds that file beside the one that it has placed
beside_now : {stock : List ℕ} {m : Sat} {node own lost : ℕ} {held : File} {d : Work} (e : ℕ) (file : Closed) → stock ≡ (pass_in m).stock
    → m.0.work ≡ d → HoldsBesides d held node own (as_written lost (label_of file)) → lost ≤ most_carried → m.1 ≡ (own, Some file) ∷ []
    → get_elem? stock e ≡ some own → IsBeside node own lost file m
beside_now {held = held} e file same work holds few place at = record {
  held = held;
  work = besides_so work holds;
  few_lost = few;
  place = place;
  stocked = (e, ap (λ (l : List ℕ). get_elem? l e) (sym same) ∙ at);
}

pub take_out-file-requires-clause-at : goal.take_out-file-requires-clause-at
take_out-file-requires-clause-at c = let placed = c.place-entry.ensures.placed in
    (c.args.pass.now.number, still_at_work c.requires.seated.at (looks_then placed (c.in-Nothing.ensures.holds _ placed.work)))

pub take_out-file-requires-clause-place : goal.take_out-file-requires-clause-place
take_out-file-requires-clause-place c = let placed = c.place-entry.ensures.placed in (
  c.args.file,
  own_place (as_written c.place-entry.result.2 (label_of c.args.file)) (ap alone_in (c.in-Nothing.ensures.holds _ placed.work).work)
      (c.hold_beside.ensures.places ∙ c.place-entry.ensures.place),
)

pub returns-in-Nothing : goal.returns-in-Nothing
returns-in-Nothing c =
    let placed = c.place-entry.ensures.placed in
    let h = c.in-Nothing.ensures.holds _ placed.work in
    let m₂ = c.hold_beside.new.seat.me in
    let end = c.take_out-file.ensures in
    let rests = subst (λ (z : Work). Runs m₂ [] (rested z) m₂.0.glance m₂.0.change 1 c.take_out-file.new.seat.me) h.work end.rests in
    let run = at_ease c.requires.seated (does_then (looks_then placed h) rests) in
    let place : HasPlace c.place-entry.result.1 (Some c.args.file) m₂ =
    own_place (as_written c.place-entry.result.2 (label_of c.args.file)) (ap alone_in h.work) (c.hold_beside.ensures.places ∙ c.place-entry.ensures.place) in record {
      renews = (
        still_pass c.requires.seated _ run (refl, refl) (end.table ∙ (c.hold_beside.ensures.table ∙ c.place-entry.ensures.table)) end.empty
            (refl, λ _. omega (arith, c.place-entry.ensures.entry, c.args.self.now.key.0)) (c.requires.idle, refl),
        (end.file c.args.file place, inl (adds_so c.requires.seated run one_look, refl)),
      );
      steps = let few = run.steps in omega arith;
      met = (run.met, run.changes);
    }

pub unplace-file-requires-clause-at : goal.unplace-file-requires-clause-at
unplace-file-requires-clause-at c =
    let placed = c.place-entry.ensures.placed in
    let h = c.in-Other.ensures.holds _ placed.work in
    still_at_work c.requires.seated.at (looks_then placed h.2.4)

pub unplace-file-requires-clause-beside : goal.unplace-file-requires-clause-beside
unplace-file-requires-clause-beside c =
    let s = c.requires.seated in
    let placed = c.place-entry.ensures.placed in
    let h = c.in-Other.ensures.holds _ placed.work in
    let run = looks_then placed h.2.4 in (
      c.place-entry.result.2,
      c.args.file,
      beside_now c.place-entry.result.0 c.args.file (c.as_slice-stock.ensures.value ∙ (s.stock ∙ sym run.stock)) run.work h.2.2 c.place-entry.ensures.few_lost
          (c.hold_beside.ensures.places ∙ c.place-entry.ensures.place) c.place-entry.ensures.stocked,
    )

pub returns-in-Other : goal.returns-in-Other
returns-in-Other c =
    let s = c.requires.seated in
    let placed = c.place-entry.ensures.placed in
    let h = c.in-Other.ensures.holds _ placed.work in
    let m₂ = c.hold_beside.new.seat.me in
    let m₃ = c.unplace-file.new.seat.me in
    let end = c.unplace-file.ensures in
    let held = looks_then placed h.2.4 in
    let lets = end.released h.0 (held_besides (besides_so held.work h.2.2)) in
    let run = at_ease s (does_then held (lets_run m₂ m₃ h.0 4 c.unplace-file.result.1 lets).1) in
    let b : IsBeside c.in-Other.node c.place-entry.result.1 c.place-entry.result.2 c.args.file m₂ =
    beside_now c.place-entry.result.0 c.args.file (c.as_slice-stock.ensures.value ∙ (s.stock ∙ sym held.stock)) held.work h.2.2 c.place-entry.ensures.few_lost
    (c.hold_beside.ensures.places ∙ c.place-entry.ensures.place) c.place-entry.ensures.stocked in record {
      renews = (
        still_pass s _ run (refl, refl) (end.table ∙ (c.hold_beside.ensures.table ∙ c.place-entry.ensures.table)) end.places
            (refl, λ _. omega (arith, c.place-entry.ensures.entry, c.args.self.now.key.0)) (c.requires.idle, refl),
        (
          end.file c.place-entry.result.2 c.args.file b,
          inl (was_other s c.args.key (slot_low c.args.self.now c.requires.slot) placed c.args.hot h.0 h.2 h.1 m₃ c.unplace-file.result.1 lets),
        ),
      );
      steps = let few = run.steps in omega arith;
      met = (run.met, run.changes);
    }

pub returns-in-Ok : goal.returns-in-Ok
returns-in-Ok c =
    let t = c.args.self.now in
    let k : Start = t.table.shared.key in
    let s = c.requires.seated in
    let e = c.place-entry.result.0 in
    let node = c.in-Its.node in
    let placed = c.place-entry.ensures.placed in
    let h = c.in-Its.ensures.holds _ placed.work in
    let f = h.0 in
    let won = c.in-Ok.ensures.tried in
    let found = c.in-Ok.found in
    let its = c.removed_by.ensures in
    let inside = slot_low t c.requires.slot in
    let p' = record c.args.pass.now {
      seat = c.try_renewal.new.seat;
      stock = with_item c.args.pass.now.stock e node;
      next_entry = e;
      keeps = false;
      next_visit = c.first_visit-pass.result;
      idle = false;
    } in
    let stocked = stocked_at c.as_slice-stock.result.now c.args.pass.now.seat.me c.hold_beside.new.seat.me e c.place-entry.result.1
    (c.as_slice-stock.ensures.value ∙ s.stock) (looks_then placed h.2.4).stock c.place-entry.ensures.stocked in
    let run = swaps s c.args.key inside placed c.args.hot f h.2 h.1 p' c.identity-identity.result found won e stocked c.removed_by.result its.node its.entry its.takes in
    record {
      renews = (
        swapped_pass s e node won.4 _ run (refl, refl) (c.try_renewal.ensures.table ∙ (c.hold_beside.ensures.table ∙ c.place-entry.ensures.table)) won.3
            (refl, λ _. omega (arith, c.place-entry.ensures.entry, t.key.0))
            (knows_removed k found (Some f) (Some (retired_at f (full_name_in found - 1) (count_in found))) _ false _ _ e (set c.args.pass.now.stock.items e node) refl refl refl
            (c.first_visit-pass.ensures ∙ first_by t found)),
        subst (λ (z : Closed). RenewsAlone k c.args.pass.now c.args.key z c.removed_by.result None None p') c.identity-identity.ensures
            (renews s c.args.key inside placed c.args.hot f h.2 h.1 p' c.identity-identity.result found won e stocked c.removed_by.result its.node its.entry its.takes None refl),
      );
      steps = let few = run.steps in omega arith;
      met = (run.met, run.changes);
    }

pub returns-in-Err : goal.returns-in-Err
returns-in-Err c =
    let t = c.args.self.now in
    let s = c.requires.seated in
    let placed = c.place-entry.ensures.placed in
    let h = c.in-Its.ensures.holds _ placed.work in
    let f = h.0 in
    let m₃ = c.try_renewal.new.seat.me in
    let m₄ = c.unplace-file-in-Err.new.seat.me in
    let tried = c.in-Err.ensures.tried in
    let end = c.unplace-file-in-Err.ensures in
    let r = c.unplace-file-in-Err.result.1 in
    let held = looks_then placed h.2.4 in
    let still = does_then held tried.2 in
    let b : IsBeside c.in-Its.node c.place-entry.result.1 c.place-entry.result.2 c.args.file m₃ =
    beside_now c.place-entry.result.0 c.args.file (c.as_slice-stock.ensures.value ∙ (s.stock ∙ sym still.stock)) (tried.2.work ∙ held.work) h.2.2 c.place-entry.ensures.few_lost
    (tried.3 ∙ (c.hold_beside.ensures.places ∙ c.place-entry.ensures.place)) c.place-entry.ensures.stocked in
    let lets = end.released f (held_besides (besides_so (tried.2.work ∙ held.work) h.2.2)) in
    let run = at_ease s (does_then held (lets_run c.hold_beside.new.seat.me m₄ f 9 r (file_then m₄ f 4 r tried.2 lets)).1) in
    let p' = record c.args.pass.now { seat = c.unplace-file-in-Err.new.seat; next_entry = c.place-entry.result.0; keeps = false } in
    record {
      renews = (
        still_pass s _ run (refl, refl) (end.table ∙ (c.try_renewal.ensures.table ∙ (c.hold_beside.ensures.table ∙ c.place-entry.ensures.table))) end.places
            (refl, λ _. omega (arith, c.place-entry.ensures.entry, t.key.0)) (c.requires.idle, refl),
        (
          end.file c.place-entry.result.2 c.args.file b,
          inr (left s c.args.key (slot_low t c.requires.slot) placed c.args.hot f h.2 h.1 p' m₃ c.identity-identity.result c.in-Err.miss tried r lets c.fault_of.result c.fault_of.ensures),
        ),
      );
      steps = let few = run.steps in omega arith;
      met = (run.met, run.changes);
    }

pub take_out-file-requires-in-Moved-clause-place : goal.take_out-file-requires-in-Moved-clause-place
take_out-file-requires-in-Moved-clause-place c = let placed = c.place-entry.ensures.placed in (
  c.args.file,
  own_place (as_written c.place-entry.result.2 (label_of c.args.file)) (ap alone_in (c.in-Moved.ensures.holds _ placed.work).1.work)
      (c.hold_beside.ensures.places ∙ c.place-entry.ensures.place),
)

-- the announcement was in vain
pub returns-in-Moved : goal.returns-in-Moved
returns-in-Moved c =
    let s = c.requires.seated in
    let placed = c.place-entry.ensures.placed in
    let h = c.in-Moved.ensures.holds _ placed.work in
    let m₂ = c.hold_beside.new.seat.me in
    let m₃ = c.take_out-file-in-Moved.new.seat.me in
    let end = c.take_out-file-in-Moved.ensures in
    let vain = does_then (looks_then placed h.1) (subst (λ (z : Work). Runs m₂ [] (rested z) m₂.0.glance m₂.0.change 1 m₃) h.1.work end.rests) in
    let run = does_then vain (charges_run m₃ c.withdraw.new.seat.me 3 c.withdraw.result c.withdraw.ensures.withdraws).1 in
    let place : HasPlace c.place-entry.result.1 (Some c.args.file) m₂ =
    own_place (as_written c.place-entry.result.2 (label_of c.args.file)) (ap alone_in h.1.work) (c.hold_beside.ensures.places ∙ c.place-entry.ensures.place) in record {
      renews = (
        end.file c.args.file place,
        ap is_some h.0,
        record {
          seated = still_seat s _ (at_ease s run) (refl, refl) (c.withdraw.ensures.table ∙ (end.table ∙ (c.hold_beside.ensures.table ∙ c.place-entry.ensures.table)))
              c.withdraw.ensures.places (refl, λ _. omega (arith, c.place-entry.ensures.entry, c.args.self.now.key.0));
          idle = c.requires.idle;
          unkept = refl;
          works = run.work;
          listed = run.listed ∙ c.requires.listed;
          cold = run.glance;
          number = refl;
          frees = frees_so s vain c.withdraw.new.seat.me c.withdraw.result c.withdraw.ensures.withdraws;
          steps = let few = run.steps in omega arith;
        },
      );
      steps = let few = run.steps in omega arith;
      met = (run.met, run.changes);
    }
