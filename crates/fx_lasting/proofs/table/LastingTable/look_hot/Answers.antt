use Rattle.fx_lasting.proofs.{◌≡◌, Sat, Work, Idle, Announced, Runs, Cold, Nothing, announcing, guarding, inl, refl, ◌∙◌, arith, sym, Some, ℕ, subst}
use Rattle.fx_lasting.proofs.{opening_of, view_of, pass_of, Look, ◌▷◌, [], Adds, one_look, Holding, still_at_work, does_then, adds_so, at_ease}
use Rattle.fx_lasting.proofs.{still_pass, still_seat, charges_then, charges_run}
use Rattle.fx_lasting.proofs.table.LastingTable.look_hot.Goals as goal

-- an idle pass may announce a node
pub guard-requires-clause-may : goal.guard-requires-clause-may
guard-requires-clause-may c = inl c.requires.idle

-- what it did in vain
vain : {m m' : Sat} {slot node : ℕ} → m.0.work ≡ Idle → Runs m [] (announcing node m.0.work) (Cold slot) m.0.change 2 m'
    → Runs m [] (Announced node) (Cold slot) m.0.change 2 m'
vain {m} {m'} {slot} {node} idle r = subst (λ (w : Work). Runs m [] (announcing node w) (Cold slot) m.0.change 2 m') idle r

pub returns-in-Some : goal.returns-in-Some
returns-in-Some c =
    let s = c.requires.seated in
    let g = c.in-Some.ensures.guards in
    let m = c.args.pass.now.seat.me in
    let run = at_ease s (subst (λ (w : Work). Runs m ([] ▷ Look c.args.slot (Some g.0)) (guarding g.0 (announcing c.args.node w)) Nothing m.0.change 2 c.guard.new.seat.me)
    c.requires.idle g.2) in
    record {
      fits = still_pass s _ run (refl, refl) c.guard.ensures.table (c.guard.ensures.places ∙ s.places) (refl, s.next) (refl, c.requires.unkept, refl);
      looked = (
        g.0,
        record { entry = g.1; same = λ e. absurd (cc e) },
        subst (λ (e : ℕ). Adds (opening_of c.args.self.now.table.shared.key) (view_of c.args.pass.now)
            ([] ▷ Look c.args.slot (Some g.0)) (Holding g.0 record { node = c.args.node; entry = e }) one_look (pass_of c.guard.new.seat.me.0))
            (sym g.1) (adds_so s run one_look),
      );
      never_spent = λ e. cc e;
      steps = let few = run.steps in omega arith;
      met = (run.met, run.changes);
    }

pub withdraw-freed-requires-clause-at : goal.withdraw-freed-requires-clause-at
withdraw-freed-requires-clause-at c = still_at_work c.requires.seated.at (vain c.requires.idle c.in-None.ensures.guards)

pub withdraw-freed-requires-clause-announced : goal.withdraw-freed-requires-clause-announced
withdraw-freed-requires-clause-announced c = (vain c.requires.idle c.in-None.ensures.guards).work

pub withdraw-freed-requires-clause-places : goal.withdraw-freed-requires-clause-places
withdraw-freed-requires-clause-places c = c.guard.ensures.places ∙ c.requires.seated.places

pub look_cold-found-requires : goal.look_cold-found-requires
look_cold-found-requires c =
    let s = c.requires.seated in
    let first = vain c.requires.idle c.in-None.ensures.guards in
    let lets = (charges_run c.guard.new.seat.me c.withdraw-freed.new.seat.me 3 c.withdraw-freed.result c.withdraw-freed.ensures.withdraws).1 in
    record {
      seated = still_seat s _ (at_ease s (does_then first lets)) (refl, refl) (c.withdraw-freed.ensures.table ∙ c.guard.ensures.table) c.withdraw-freed.ensures.places
          (refl, s.next);
      idle = lets.work;
      unkept = c.requires.unkept;
      listed = lets.listed ∙ (first.listed ∙ c.requires.listed);
      cold = lets.glance ∙ first.glance;
      slot = c.requires.slot;
    }

pub returns-in-None : goal.returns-in-None
returns-in-None c =
    let s = c.requires.seated in
    let cold = c.look_cold-found.ensures in
    let lets = charges_run c.guard.new.seat.me c.withdraw-freed.new.seat.me 3 c.withdraw-freed.result c.withdraw-freed.ensures.withdraws in
    record {
      fits = cold.fits;
      looked = charges_then s (view_of c.look_cold-found.new.pass) c.args.slot c.withdraw-freed.result c.look_cold-found.result cold.never_spent
          (vain c.requires.idle c.in-None.ensures.guards) c.withdraw-freed.new.seat.me c.withdraw-freed.ensures.withdraws cold.looked;
      never_spent = cold.never_spent;
      steps = let a = cold.steps in let b = lets.1.steps in let d = (vain c.requires.idle c.in-None.ensures.guards).steps in omega arith;
      met = let run = does_then (vain c.requires.idle c.in-None.ensures.guards) lets.1 in
          (omega (arith, run.met, cold.met.0), λ s. let a = run.changes s in let b = cold.met.1 s in omega arith);
    }
