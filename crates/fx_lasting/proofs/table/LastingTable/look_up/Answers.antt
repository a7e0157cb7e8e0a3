use Rattle.fx_lasting.proofs.{IsOnList, TableId, Start, LastingPass, IsPassOf, ◌≡◌, ℕ, ◌<◌, refl, ap, ◌∙◌, subst, arith, sym, true, false, IsHot}
use Rattle.fx_lasting.proofs.{Look, ◌▷◌, [], None, Hot, Cold, opening_of, view_of, pass_of, Adds, LookedAfter, LookedUp, no_use, one_look, PassView}
use Rattle.fx_lasting.proofs.{DoesNothing, Goes, Idle, slot_of, as_listed, Runs, Change, bit_of, list_place, ◌^◌, list_inside, slot_inside, slot_low}
use Rattle.fx_lasting.proofs.{slot_said, runs_goes, listed_is, no_name, its_name, adds_listed, adds_so, at_ease, listed_seat, still_pass, still_seat}
use Rattle.fx_lasting.proofs.{after_then, up_then, its_idle, its_flag}
use Rattle.fx_lasting.specs.Tables.{IsSeatOfTable}
use Rattle.fx_lasting.proofs.hold_lemmas.Listing.{lists_keep}
use Rattle.fx_lasting.proofs.hold_lemmas.Looking.{glances_keep}
use Rattle.fx_lasting.proofs.node_lemmas.Settled.{still_idle}
use Rattle.fx_lasting.proofs.table.LastingTable.look_up.Goals.{Then-not-pass}
use Rattle.fx_lasting.proofs.table.LastingTable.look_up.Goals as goal

pub load-word-requires : goal.load-word-requires
load-word-requires c =
    let t = c.args.self.now in
    let f = c.settle.ensures.fits in
    let inside : c.args.slot < t.size = omega (arith, c.requires.slot, t.same_size) in (
      f.seated.table,
      slot_inside t inside c.slot_place.ensures,
      glances_keep _ _ _ _ c.args.slot c.settle.new.pass.seat.me _ f.seated.at.pass (its_idle f (still_idle c.settle.ensures.same c.requires.idle) c.settle.ensures.unkept, f.calm) (slot_low t inside)
          c.slot_place.ensures,
    )

pub returns-in_default : goal.returns-in_default
returns-in_default c =
    let k = c.args.self.now.table.shared.key in
    let s = c.settle.ensures.fits.seated in
    let goes = c.load-word.ensures.2.empty (no_name c.load-word.result c.in_default.ensures) in
    let run = at_ease s (runs_goes goes) in
    record {
      fits = still_pass s _ run (refl, refl) c.load-word.ensures.0 (goes.carried ∙ s.places) (refl, s.next)
          (its_flag c.settle.ensures.fits (still_idle c.settle.ensures.same c.requires.idle), c.settle.ensures.unkept);
      looked = subst (λ (z : ℕ × PassView). Adds (opening_of k) z.1 ([] ▷ Look z.0 None) DoesNothing one_look (pass_of c.load-word.new.seat.me.0))
          (λ i. ((slot_said c.slot_place.ensures) i, c.settle.ensures.same i)) (adds_so s run one_look);
      never_spent = λ e. cc e;
      steps = let few = run.steps in let one = c.settle.ensures.steps in omega arith;
      met = (omega (arith, c.settle.ensures.met.0, run.met), λ s. let a = c.settle.ensures.met.1 s in let b = run.changes s in omega arith);
    }

-- a pass whose field says so is listed
listed_so : {id : TableId} {k : Start} {p : LastingPass} → IsPassOf id k p → p.listed ≡ true → IsOnList p.seat.me
listed_so fits is = sym fits.seated.listed ∙ is

-- a pass that isn't listed is to take what the slot names
module _ (c : Then-not-pass) where
  goes : Goes c.settle.new.pass.seat.me [] Idle (Cold (slot_of c.slot_place.result)) c.load-word.new.seat.me
  goes = c.load-word.ensures.2.cold c.in-Some.node (its_name c.load-word.result c.in-Some.node c.in-Some.ensures)
      (λ h. let bad : true ≡ false = sym h.1 ∙ (sym c.settle.ensures.fits.seated.listed ∙ c.if-not-pass.true) in cc bad)

  seated : IsSeatOfTable c.args.self.now (record c.settle.new.pass { seat = c.load-word.new.seat })
  seated = let s = c.settle.ensures.fits.seated in
      still_seat s _ (at_ease s (runs_goes goes)) (refl, refl) c.load-word.ensures.0 (goes.carried ∙ s.places) (refl, s.next)

pub fetch_add-requires : goal.fetch_add-requires
fetch_add-requires c =
    let s = seated (goal.at.fetch_add-requires c).Then-not-pass in
    let not_yet : s.at.log.listed ≡ false = listed_is s.at ∙ (sym s.listed ∙ c.if-not-pass.true) in (
      s.table,
      list_inside c.args.self.now (omega (arith, s.at.high, c.args.self.now.key.0, c.args.self.now.bounds.1)) c.list_place-place.ensures,
      rw (c.pass_bit.ensures ∙ ap (λ (n : ℕ). 2 ^ bit_of n) (sym s.at.its_number)) (lists_keep _ _ _ _ c.load-word.new.seat.me _ s.at.pass not_yet
          (c.list_place-place.ensures ∙ ap list_place (sym s.at.its_number))),
    )

pub look_cold-found-requires : goal.look_cold-found-requires
look_cold-found-requires c =
    let a = (goal.at.look_cold-found-requires c).Then-not-pass in
    let s = seated a in
    let lists = c.fetch_add.ensures.2.goes in
    let m = c.load-word.new.seat.me in
    record {
      seated = listed_seat s _ (subst (λ (z : Change). Runs (as_listed m) [] m.0.work m.0.glance z 1 c.fetch_add.new.seat.me) s.change (runs_goes lists)) (refl, refl)
          c.fetch_add.ensures.0 (lists.carried ∙ s.places) (refl, s.next);
      unkept = c.settle.ensures.unkept;
      listed = lists.stepped.listed;
      idle = lists.stepped.work ∙ (goes a).stepped.work;
      cold = lists.stepped.glance ∙ ((goes a).stepped.glance ∙ ap (λ (z : ℕ). Cold z) (slot_said c.slot_place.ensures));
      slot = omega (arith, c.requires.slot, c.args.self.now.same_size);
    }

pub returns-then-not-pass : goal.returns-then-not-pass
returns-then-not-pass c =
    let a = (goal.at.returns-then-not-pass c).Then-not-pass in
    let k = c.args.self.now.table.shared.key in
    let v = pass_of c.load-word.new.seat.me.0 in
    let w = view_of c.look_cold-found.new.pass in
    let r = c.look_cold-found.result in
    let run = runs_goes (goes a) in
    let lists = runs_goes c.fetch_add.ensures.2.goes in
    let took = c.look_cold-found.ensures in
    record {
      fits = took.fits;
      looked = subst (λ (u : PassView). LookedAfter (opening_of k) u [] c.args.slot r w) c.settle.ensures.same
          (after_then k (view_of c.settle.new.pass) v w [] c.args.slot r took.never_spent (adds_so c.settle.ensures.fits.seated run no_use)
          (after_then k v (pass_of c.fetch_add.new.seat.me.0) w [] c.args.slot r took.never_spent (adds_listed (seated a) (goes a).stepped.work lists) took.looked));
      never_spent = took.never_spent;
      steps = let a = run.steps in let b = lists.steps in let d = took.steps in let one = c.settle.ensures.steps in omega arith;
      met = (
        omega (arith, c.settle.ensures.met.0, run.met, lists.met, took.met.0),
        λ s. let a = c.settle.ensures.met.1 s in let b = run.changes s in let d = lists.changes s in let e = took.met.1 s in omega arith,
      );
    }

pub look_hot-requires : goal.look_hot-requires
look_hot-requires c =
    let s = c.settle.ensures.fits.seated in
    let goes = (c.load-word.ensures.2.hot c.in-Some.node (its_name c.load-word.result c.in-Some.node c.in-Some.ensures)
    (c.is_hot.ensures.0 c.if-is_hot.true) (listed_so c.settle.ensures.fits c.if-not-pass.false)).0 in
    record {
      seated = still_seat s _ (at_ease s (runs_goes goes)) (refl, refl) c.load-word.ensures.0 (goes.carried ∙ s.places) (refl, s.next);
      idle = goes.stepped.work;
      unkept = c.settle.ensures.unkept;
      listed = goes.stepped.listed ∙ listed_so c.settle.ensures.fits c.if-not-pass.false;
      hot = goes.stepped.glance ∙ ap (λ (z : ℕ). Hot z c.in-Some.node) (slot_said c.slot_place.ensures);
      slot = omega (arith, c.requires.slot, c.args.self.now.same_size);
    }

pub returns-then-is_hot : goal.returns-then-is_hot
returns-then-is_hot c =
    let k = c.args.self.now.table.shared.key in
    let s = c.settle.ensures.fits.seated in
    let goes = (c.load-word.ensures.2.hot c.in-Some.node (its_name c.load-word.result c.in-Some.node c.in-Some.ensures)
    (c.is_hot.ensures.0 c.if-is_hot.true) (listed_so c.settle.ensures.fits c.if-not-pass.false)).0 in
    let run = runs_goes goes in
    let hot = c.look_hot.ensures in
    record {
      fits = hot.fits;
      looked = subst (λ (v : PassView). LookedUp (opening_of k) v c.args.slot c.look_hot.result.found c.look_hot.result.freed (view_of c.look_hot.new.pass)) c.settle.ensures.same
          (up_then k (view_of c.settle.new.pass) (pass_of c.load-word.new.seat.me.0) (view_of c.look_hot.new.pass) c.args.slot c.look_hot.result.found
          c.look_hot.result.freed hot.never_spent (adds_so s run no_use) hot.looked);
      never_spent = hot.never_spent;
      steps = let a = run.steps in let b = hot.steps in let one = c.settle.ensures.steps in omega arith;
      met = (omega (arith, c.settle.ensures.met.0, run.met, hot.met.0), λ s. let a = c.settle.ensures.met.1 s in let b = run.changes s in let d = hot.met.1 s in omega arith);
    }

pub look_cold-found-requires-2 : goal.look_cold-found-requires-2
look_cold-found-requires-2 c =
    let s = c.settle.ensures.fits.seated in
    let cold : IsHot c.load-word.result × IsOnList c.settle.new.pass.seat.me → ⊥ = λ h. let bad : true ≡ false = sym (c.is_hot.ensures.1 h.0) ∙ c.if-is_hot.false in cc bad in
    let goes = c.load-word.ensures.2.cold c.in-Some.node (its_name c.load-word.result c.in-Some.node c.in-Some.ensures) cold in
    record {
      seated = still_seat s _ (at_ease s (runs_goes goes)) (refl, refl) c.load-word.ensures.0 (goes.carried ∙ s.places) (refl, s.next);
      idle = goes.stepped.work;
      unkept = c.settle.ensures.unkept;
      listed = goes.stepped.listed ∙ listed_so c.settle.ensures.fits c.if-not-pass.false;
      cold = goes.stepped.glance ∙ ap (λ (z : ℕ). Cold z) (slot_said c.slot_place.ensures);
      slot = omega (arith, c.requires.slot, c.args.self.now.same_size);
    }

pub returns : goal.returns
returns c =
    let k = c.args.self.now.table.shared.key in
    let s = c.settle.ensures.fits.seated in
    let cold : IsHot c.load-word.result × IsOnList c.settle.new.pass.seat.me → ⊥ = λ h. let bad : true ≡ false = sym (c.is_hot.ensures.1 h.0) ∙ c.if-is_hot.false in cc bad in
    let run = runs_goes (c.load-word.ensures.2.cold c.in-Some.node (its_name c.load-word.result c.in-Some.node c.in-Some.ensures) cold) in
    let took = c.look_cold-found-2.ensures in
    record {
      fits = took.fits;
      looked = subst (λ (v : PassView). LookedAfter (opening_of k) v [] c.args.slot c.look_cold-found-2.result (view_of c.look_cold-found-2.new.pass)) c.settle.ensures.same
          (after_then k (view_of c.settle.new.pass) (pass_of c.load-word.new.seat.me.0) (view_of c.look_cold-found-2.new.pass) [] c.args.slot
          c.look_cold-found-2.result took.never_spent (adds_so s run no_use) took.looked);
      never_spent = took.never_spent;
      steps = let a = run.steps in let b = took.steps in let one = c.settle.ensures.steps in omega arith;
      met = (omega (arith, c.settle.ensures.met.0, run.met, took.met.0), λ s. let a = c.settle.ensures.met.1 s in let b = run.changes s in let d = took.met.1 s in omega arith);
    }
