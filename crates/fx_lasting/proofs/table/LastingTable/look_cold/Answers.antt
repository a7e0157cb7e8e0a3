use Rattle.fx_lasting.proofs.{ℕ, ap, refl, ◌∙◌, arith, sym, subst, Start, Some, Look, ◌▷◌, [], Adds, one_look, Holding, glance_after, opening_of}
use Rattle.fx_lasting.proofs.{view_of, pass_of, slot_inside, adds_so, at_ease, still_pass, listed_is, still_at_work, runs_goes, stays_then, took}
use Rattle.fx_lasting.proofs.{no_name, its_name}
use Rattle.fx_lasting.proofs.hold_lemmas.Taking.{takes_once_keep}
use Rattle.fx_lasting.proofs.table.LastingTable.look_cold.Goals as goal

pub fetch_add-word-requires : goal.fetch_add-word-requires
fetch_add-word-requires c =
    let s = c.requires.seated in (
      s.table,
      slot_inside c.args.self.now c.requires.slot c.slot_place.ensures,
      takes_once_keep _ _ _ _ c.args.slot c.args.pass.now.seat.me _ s.at.pass (listed_is s.at ∙ c.requires.listed) c.requires.idle c.requires.cold c.slot_place.ensures,
    )

pub heat-requires : goal.heat-requires
heat-requires c =
    let s = c.requires.seated in
    let goes = (took c.requires.cold c.fetch_add-word.ensures.2).2 in
    record {
      table = c.fetch_add-word.ensures.0 ∙ s.table;
      at = (c.args.pass.now.number, still_at_work s.at (runs_goes goes));
      listed = goes.stepped.listed ∙ c.requires.listed;
      took = goes.stepped.glance
          ∙ ap (λ (n : ℕ). glance_after n c.args.slot c.fetch_add-word.result) (ap (λ (z : Start). z.passes) s.at.pass.0 ∙ sym c.args.self.now.key.0);
      slot = c.requires.slot;
    }

pub returns-in_default : goal.returns-in_default
returns-in_default c =
    let s = c.requires.seated in
    let goes = c.fetch_add-word.ensures.2.empty c.args.slot c.requires.cold (no_name c.fetch_add-word.result c.in_default.ensures) in
    let run = stays_then (runs_goes goes) c.heat.ensures.heats in
    record {
      fits = still_pass s _ (at_ease s run) (refl, refl) (c.heat.ensures.table ∙ c.fetch_add-word.ensures.0) (c.heat.ensures.places ∙ (goes.carried ∙ s.places))
          (refl, s.next) (refl, c.requires.unkept);
      looked = adds_so s run one_look;
      never_spent = λ e. cc e;
      steps = let few = run.steps in omega arith;
      met = (run.met, run.changes);
    }

pub returns : goal.returns
returns c =
    let s = c.requires.seated in
    let h = c.fetch_add-word.ensures.2.holds c.args.slot c.in-Some.node c.requires.cold (its_name c.fetch_add-word.result c.in-Some.node c.in-Some.ensures) in
    let run = stays_then (runs_goes h.2) c.heat.ensures.heats in
    let entry = c.entry_of-entry.ensures ∙ h.1 in
    record {
      fits = still_pass s _ (at_ease s run) (refl, refl) (c.heat.ensures.table ∙ c.fetch_add-word.ensures.0) (c.heat.ensures.places ∙ (h.2.carried ∙ s.places))
          (refl, s.next) (refl, c.requires.unkept, refl);
      looked = (
        h.0,
        record { entry = entry; same = λ e. absurd (cc e) },
        subst (λ (e : ℕ). Adds (opening_of c.args.self.now.table.shared.key) (view_of c.args.pass.now) ([] ▷ Look c.args.slot (Some h.0))
            (Holding h.0 record { node = c.in-Some.node; entry = e }) one_look (pass_of c.heat.new.seat.me.0)) (sym entry) (adds_so s run one_look),
      );
      never_spent = λ e. cc e;
      steps = let few = run.steps in omega arith;
      met = (run.met, run.changes);
    }
