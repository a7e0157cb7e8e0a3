use Rattle.fx_lasting.proofs.{false, Round, new_round, IsPassed, ◌/◌, ◌≡◌, ◌≢◌, ℕ, ◌+◌, ◌-◌, ◌*◌, ◌≤◌, refl, ◌∙◌, subst, arith, sym, inl, inr, ⊎_elim}
use Rattle.fx_lasting.proofs.{[], Some, File, Start, IsAtWork, Runs, Retiring, Sat, state_after_all, pass_in, TakesOut, HasPlace, At, Retires}
use Rattle.fx_lasting.proofs.{retirement_amount, Work, Goes, ap, Finishes, List, ◌▷◌, Close, TakenOut, opening_of, view_of, pass_of, Adds, no_use}
use Rattle.fx_lasting.proofs.{Doing, node_inside, node_word, still_at_work, does_then, runs_goes, runs_one, its_inside, out_place, out_and_home}
use Rattle.fx_lasting.proofs.{adds_so, at_rest, still_pass, its_retiring, its_unkept}
use Rattle.fx_lasting.proofs.hold_lemmas.Rounds.{passed_by}
use Rattle.fx_lasting.proofs.hold_lemmas.Finishing.{finishes_keep}
use Rattle.fx_lasting.proofs.hold_lemmas.Retiring.{retires_keep}
use Rattle.fx_lasting.proofs.node_lemmas.Settled.{out_so}
use Rattle.fx_lasting.proofs.table.LastingTable.retire.Goals.{After-charge_all-charges}
use Rattle.fx_lasting.proofs.table.LastingTable.retire.Goals as goal

pub charge_all-charges-requires-clause-retiring : goal.charge_all-charges-requires-clause-retiring
charge_all-charges-requires-clause-retiring c = let r = c.requires.removed in (r.0, c.args.retired.takes, (its_retiring c.requires.fits r.1).0)

pub charge_all-charges-requires-clause-first : goal.charge_all-charges-requires-clause-first
charge_all-charges-requires-clause-first c = let r = c.requires.removed in let t = c.args.self.now in
    ⊎_elim (λ (e : c.args.pass.now.next_visit ≡ 1). inl e)
    (λ (e : c.args.pass.now.next_visit ≡ t.table.shared.key.passes + 1). inr (omega (arith, e, t.key.0))) (its_retiring c.requires.fits r.1).2

pub retire_amount-amount-requires : goal.retire_amount-amount-requires
retire_amount-amount-requires c = let r = c.requires.removed in
    omega (arith, (its_retiring c.requires.fits r.1).1, c.charge_all-charges.ensures.few, c.args.self.now.bounds.1)

-- the pass has visited all others
module _ (c : After-charge_all-charges) where
  abbrev file : File
  file = c.requires.removed.0

  abbrev k : Start
  k = c.args.self.now.table.shared.key

  works : c.args.pass.now.seat.me.0.work ≡ Retiring file c.args.retired.node c.args.retired.takes (new_round c.args.pass.now.next_visit) 0
  works = (its_retiring c.requires.fits c.requires.removed.1).0

  abbrev round : Round
  round = (c.charge_all-charges.ensures.charged file c.args.retired.takes works).0

  down : round.guarded ≡ false
  down = (c.charge_all-charges.ensures.charged file c.args.retired.takes works).1

  all : (p : ℕ) → round.next ≤ p → p ≤ c.args.self.now.passes → IsPassed c.args.pass.now.number round p
  all = (c.charge_all-charges.ensures.charged file c.args.retired.takes works).2

  visited : Runs c.args.pass.now.seat.me [] (Retiring file c.args.retired.node c.args.retired.takes round c.charge_all-charges.result)
      c.args.pass.now.seat.me.0.glance c.args.pass.now.seat.me.0.change (2 * (c.args.self.now.passes - 1) + (c.args.self.now.passes + 63) / 64) c.charge_all-charges.new.seat.me
  visited = (c.charge_all-charges.ensures.charged file c.args.retired.takes works).3

  at : IsAtWork k c.args.pass.now.number c.charge_all-charges.new.seat.me
  at = still_at_work c.requires.fits.seated.at visited

pub load-left-requires : goal.load-left-requires
load-left-requires c =
    let a = (goal.at.load-left-requires c).After-charge_all-charges in
    let t = c.args.self.now in (
      c.charge_all-charges.ensures.table ∙ c.requires.fits.seated.table,
      node_inside t (its_inside (at a) (visited a).work) c.node_place-place.ensures,
      finishes_keep _ _ _ _ c.args.retired.node c.args.retired.takes c.charge_all-charges.result (round a) (file a) c.charge_all-charges.new.seat.me _
          (at a).pass (visited a).work (down a) (λ p low high. passed_by (round a) (sym (at a).its_number) (all a p low (omega (arith, high, t.key.0))))
          (node_word t c.args.retired.node c.node_place-place.ensures),
    )

-- the pass has the place of the file, if its places were those that it had after its visits
place : (a : After-charge_all-charges) {m m' : Sat} → m.1 ≡ a.charge_all-charges.new.seat.me.1 → TakesOut m [] (file a) a.args.retired.node m'
    → HasPlace a.args.retired.node (Some (file a).identity) m'
place a same went = out_place (same ∙ (a.charge_all-charges.ensures.places ∙ a.requires.fits.seated.places)) went

-- everybody had let the file go before
out_before : (a : After-charge_all-charges) {st : At} {m' : Sat} {found : ℕ} → Finishes st a.charge_all-charges.new.seat.me found m'
    → found ≡ retirement_amount a.args.retired.takes a.charge_all-charges.result + 1 → TakesOut a.charge_all-charges.new.seat.me [] (file a) a.args.retired.node m'
out_before a did is = did.closes (file a) a.args.retired.node a.args.retired.takes (round a) a.charge_all-charges.result (visited a).work is

pub take_out_or_keep-freed-requires : goal.take_out_or_keep-freed-requires
take_out_or_keep-freed-requires c =
    let a = (goal.at.take_out_or_keep-freed-requires c).After-charge_all-charges in
    let is : c.load-left.result ≡ c.retire_amount-amount.result + 1 = c.if-left-amount.true in
    let went = out_before a c.load-left.ensures.2 (is ∙ ap (λ (z : ℕ). z + 1) c.retire_amount-amount.ensures) in
    record {
      table = c.load-left.ensures.0 ∙ (c.charge_all-charges.ensures.table ∙ c.requires.fits.seated.table);
      at = (c.args.pass.now.number, still_at_work (at a) (runs_one went.stepped));
      emptying = went.stepped.work;
      place = ((file a).identity, place a refl went);
      word = c.node_place-place.ensures;
      stock = c.as_slice-stock.ensures.value ∙ (c.requires.fits.seated.stock ∙ sym (went.stepped.stock ∙ (visited a).stock));
    }

pub returns-then-left-amount : goal.returns-then-left-amount
returns-then-left-amount c =
    let a = (goal.at.returns-then-left-amount c).After-charge_all-charges in
    let t = c.args.self.now in
    let is : c.load-left.result ≡ c.retire_amount-amount.result + 1 = c.if-left-amount.true in
    let fits = c.requires.fits in
    let s = fits.seated in
    let p = c.args.pass.now in
    let w = c.take_out_or_keep-freed in
    let went = out_before a c.load-left.ensures.2 (is ∙ ap (λ (z : ℕ). z + 1) c.retire_amount-amount.ensures) in
    let out = out_so c.args.retired.node p.next_entry p.stock.items t.table.shared.key.passes p.next_visit p.guarded w.result.1
    (subst (λ (l : List ℕ). TakenOut c.args.retired.node l p.next_entry c.load-left.new.seat.me w.result.1 w.new.seat.me) c.as_slice-stock.ensures.value w.ensures.out) in
    let run = at_rest fits (does_then (visited a) (does_then (runs_one went.stepped) out.1)) in
    record {
      fits = still_pass s _ run (refl, refl) (w.ensures.table ∙ (c.load-left.ensures.0 ∙ c.charge_all-charges.ensures.table)) out.2 (refl, s.next) out.4;
      retired = (
        file a,
        c.requires.removed.1,
        (
          w.ensures.file (file a).identity (place a refl went),
          subst (λ (d : Doing). Adds (opening_of t.table.shared.key) (view_of p) ([] ▷ Close (file a)) d no_use (pass_of w.new.seat.me.0)) out.3
              (adds_so s run no_use),
        ),
      );
      steps = let few = run.steps in omega (arith, few, t.bounds.0);
    }

-- the pass has looked whether everybody had let the file go
module _ (a : After-charge_all-charges) {m : Sat} (goes : Goes a.charge_all-charges.new.seat.me [] a.charge_all-charges.new.seat.me.0.work a.charge_all-charges.new.seat.me.0.glance m) where
  looked : Runs a.args.pass.now.seat.me [] (Retiring (file a) a.args.retired.node a.args.retired.takes (round a) a.charge_all-charges.result)
      a.args.pass.now.seat.me.0.glance a.args.pass.now.seat.me.0.change (2 * (a.args.self.now.passes - 1) + (a.args.self.now.passes + 63) / 64 + 1) m
  looked = does_then (visited a) (subst (λ (w : Work). Runs a.charge_all-charges.new.seat.me [] w a.charge_all-charges.new.seat.me.0.glance
      a.charge_all-charges.new.seat.me.0.change 1 m) (visited a).work (runs_goes goes))

  at_look : IsAtWork (k a) a.args.pass.now.number m
  at_look = still_at_work (at a) (runs_goes goes)

-- it wasn't so
still_waits : (a : After-charge_all-charges) {st : At} {m' : Sat} {found : ℕ} → Finishes st a.charge_all-charges.new.seat.me found m'
    → found ≢ retirement_amount a.args.retired.takes a.charge_all-charges.result + 1
    → Goes a.charge_all-charges.new.seat.me [] a.charge_all-charges.new.seat.me.0.work a.charge_all-charges.new.seat.me.0.glance m'
still_waits a did is = did.waits (file a) a.args.retired.node a.args.retired.takes (round a) a.charge_all-charges.result (visited a).work is

not_yet : (takes charges : ℕ) {left amount : ℕ} → left ≢ amount + 1 → amount ≡ retirement_amount takes charges → left ≢ retirement_amount takes charges + 1
not_yet takes charges not_so is same = not_so (same ∙ sym (ap (λ (z : ℕ). z + 1) is))

pub fetch_sub-found-requires : goal.fetch_sub-found-requires
fetch_sub-found-requires c =
    let a = (goal.at.fetch_sub-found-requires c).After-charge_all-charges in
    let t = c.args.self.now in
    let goes = still_waits a c.load-left.ensures.2 (not_yet c.args.retired.takes c.charge_all-charges.result c.if-left-amount.false c.retire_amount-amount.ensures) in
    let there = at_look a goes in (
      c.load-left.ensures.0 ∙ (c.charge_all-charges.ensures.table ∙ c.requires.fits.seated.table),
      node_inside t (its_inside there (looked a goes).work) c.node_place-place.ensures,
      retires_keep _ _ _ _ c.args.retired.node c.args.retired.takes c.charge_all-charges.result _ (round a) (file a) c.load-left.new.seat.me _
          there.pass (looked a goes).work (down a) (λ p low high. passed_by (round a) (sym there.its_number) (all a p low (omega (arith, high, t.key.0))))
          (node_word t c.args.retired.node c.node_place-place.ensures) c.retire_amount-amount.ensures,
    )

pub returns-then-found-amount : goal.returns-then-found-amount
returns-then-found-amount c =
    let a = (goal.at.returns-then-found-amount c).After-charge_all-charges in
    let fits = c.requires.fits in
    let s = fits.seated in
    let goes = still_waits a c.load-left.ensures.2 (not_yet c.args.retired.takes c.charge_all-charges.result c.if-left-amount.false c.retire_amount-amount.ensures) in
    let more : c.fetch_sub-found.result ≢ c.retire_amount-amount.result + 1 = c.if-found-amount.true in
    let went = c.fetch_sub-found.ensures.2.waits (file a) c.args.retired.node c.args.retired.takes (round a) c.charge_all-charges.result (looked a goes).work more in
    let run = at_rest fits (does_then (looked a goes) (runs_goes went.0)) in
    let removed = subst (λ (z : Start). (state_after_all z (pass_in c.fetch_sub-found.new.seat.me).front).removed (file a).number ≡ Some (file a))
    (at_look a goes).pass.0 went.1 in
    record {
      fits = still_pass s _ run (refl, refl) (c.fetch_sub-found.ensures.0 ∙ (c.load-left.ensures.0 ∙ c.charge_all-charges.ensures.table))
          (went.0.carried ∙ (goes.carried ∙ (c.charge_all-charges.ensures.places ∙ s.places))) (refl, s.next) (refl, its_unkept fits (λ is. cc (sym c.requires.removed.1 ∙ is)));
      retired = (file a, c.requires.removed.1, (removed, adds_so s run no_use));
      steps = let few = run.steps in omega (arith, few, c.args.self.now.bounds.0);
    }

-- nobody has to let the file go any more
out : (a : After-charge_all-charges) {m : Sat} (works : m.0.work ≡ Retiring (file a) a.args.retired.node a.args.retired.takes (round a) a.charge_all-charges.result)
    {st : At} {m' : Sat} {found : ℕ} → Retires st m found m' → found ≡ st.first + 1 → TakesOut m [] (file a) a.args.retired.node m'
out a works did is = did.closes (file a) a.args.retired.node a.args.retired.takes (round a) a.charge_all-charges.result works is

pub take_out-requires : goal.take_out-requires
take_out-requires c =
    let a = (goal.at.take_out-requires c).After-charge_all-charges in
    let goes = still_waits a c.load-left.ensures.2 (not_yet c.args.retired.takes c.charge_all-charges.result c.if-left-amount.false c.retire_amount-amount.ensures) in
    let is : c.fetch_sub-found.result ≡ c.retire_amount-amount.result + 1 = omega (arith, c.if-found-amount.false) in
    let went = out a (looked a goes).work c.fetch_sub-found.ensures.2 is in
    record {
      table = c.fetch_sub-found.ensures.0 ∙ (c.load-left.ensures.0 ∙ (c.charge_all-charges.ensures.table ∙ c.requires.fits.seated.table));
      at = (c.args.pass.now.number, still_at_work (at_look a goes) (runs_one went.stepped));
      place = ((file a).identity, place a goes.carried went);
    }

pub returns : goal.returns
returns c =
    let a = (goal.at.returns c).After-charge_all-charges in
    let goes = still_waits a c.load-left.ensures.2 (not_yet c.args.retired.takes c.charge_all-charges.result c.if-left-amount.false c.retire_amount-amount.ensures) in
    let is : c.fetch_sub-found.result ≡ c.retire_amount-amount.result + 1 = omega (arith, c.if-found-amount.false) in
    let fits = c.requires.fits in
    let s = fits.seated in
    let went = out a (looked a goes).work c.fetch_sub-found.ensures.2 is in
    let run = at_rest fits (does_then (looked a goes) (out_and_home went c.take_out.ensures.rests)) in
    record {
      fits = still_pass s _ run (refl, refl)
          (c.take_out.ensures.table ∙ (c.fetch_sub-found.ensures.0 ∙ (c.load-left.ensures.0 ∙ c.charge_all-charges.ensures.table))) c.take_out.ensures.empty
          (refl, s.next) (refl, its_unkept fits (λ is. cc (sym c.requires.removed.1 ∙ is)));
      retired = (file a, c.requires.removed.1, (c.take_out.ensures.file (file a).identity (place a goes.carried went), adds_so s run no_use));
      steps = let few = run.steps in omega (arith, few, c.args.self.now.bounds.0);
    }
