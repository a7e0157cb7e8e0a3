use Rattle.fx_lasting.proofs.{◌≡◌, ℕ, [], ◌▷◌, ap, sym, subst, inl, inr, refl, Option, Some, None, Work, Placing, Renewing, Relieving, Placement}
use Rattle.fx_lasting.proofs.{Runs, Look, Nothing, Sat, ◌∙◌, arith, glance_after, announcing, false, guarding, node_of_number, HoldsBesides, true}
use Rattle.fx_lasting.proofs.{Start, File, is_guarding, is_some, slot_inside, does_then, listed_is, still_at_work, runs_goes, runs_within, stays_then}
use Rattle.fx_lasting.proofs.{took, no_name, its_name, Key, Compared, HoldsBeside, aim_at}
use Rattle.fx_lasting.specs.Ends.{Guards}
use Rattle.fx_lasting.specs.declared.tried.Taken.{Taken}
use Rattle.fx_lasting.specs.declared.tried.Taken.TheVariants as taken
use Rattle.fx_lasting.proofs.hold_lemmas.Taking.{takes_beside_keep}
use Rattle.fx_lasting.proofs.table.LastingTable.hold_beside.Goals as goal

pub fetch_add-word-requires : goal.fetch_add-word-requires
fetch_add-word-requires c =
    let at = c.requires.at in
    let cold = c.requires.aimed ∙ ap (aim_at c.args.key.slot) c.in_default.is in (
      c.requires.table,
      slot_inside c.args.self.now c.requires.slot c.slot_place.ensures,
      takes_beside_keep _ _ _ _ c.args.key.slot c.args.own c.requires.placing.0 c.args.seat.now.me _ at.pass (listed_is at ∙ c.requires.listed) c.requires.placing.1 cold
          c.slot_place.ensures,
    )

pub heat-requires : goal.heat-requires
heat-requires c =
    let t = c.args.self.now in
    let cold = c.requires.aimed ∙ ap (aim_at c.args.key.slot) c.in_default.is in
    let goes = (took cold (c.fetch_add-word.ensures.2 c.args.own c.requires.placing.0 c.requires.placing.1)).2 in
    record {
      table = c.fetch_add-word.ensures.0 ∙ c.requires.table;
      at = (c.args.number, still_at_work c.requires.at (runs_goes goes));
      listed = goes.stepped.listed ∙ c.requires.listed;
      took = goes.stepped.glance
          ∙ ap (λ (n : ℕ). glance_after n c.args.key.slot c.fetch_add-word.result) (ap (λ (z : Start). z.passes) c.requires.at.pass.0 ∙ sym t.key.0);
      slot = c.requires.slot;
    }

pub guard-requires-clause-may : goal.guard-requires-clause-may
guard-requires-clause-may c = inr (c.args.own, c.requires.placing.0, c.requires.placing.1)

-- a pass that has looked a file up works on as it does
looks_stay : {m m₁ m₂ : Sat} {slot : ℕ} {f : File} {w : Work} → Runs m ([] ▷ Look slot (Some f)) w Nothing m.0.change 2 m₁
    → Runs m₁ [] m₁.0.work m₁.0.glance m₁.0.change 1 m₂ → Runs m ([] ▷ Look slot (Some f)) w Nothing m.0.change 3 m₂
looks_stay {m₁ = m₁} {m₂ = m₂} {w = w} run then = does_then run (subst (λ (z : Work). Runs m₁ [] z m₁.0.glance m₁.0.change 1 m₂) run.work then)

-- it holds what it has looked up, and compared
holds_so : (k : Start) (key : Key) (own : ℕ) (l : Placement) (hot : Option ℕ) (m m₁ m₂ : Sat) (f : File) (node : ℕ) (w : Work) → HoldsBesides w f node own l
    → is_guarding w ≡ is_some hot → Runs m ([] ▷ Look key.slot (Some f)) w Nothing m.0.change 2 m₁ → (t : Taken) → Compared k key node f m₁ t m₂
    → HoldsBeside k key own l hot m t m₂
holds_so k key own l hot m m₁ m₂ f node w holds guards run (taken.Its n) c =
    (f, c.1, (subst (λ (z : ℕ). node_of_number k f.number ≡ z) (sym c.0) c.2, w, subst (λ (z : ℕ). HoldsBesides w f z own l) (sym c.0) holds, guards, looks_stay run c.3))
holds_so k key own l hot m m₁ m₂ f node w holds guards run (taken.Other n) c =
    (f, c.1, (subst (λ (z : ℕ). node_of_number k f.number ≡ z) (sym c.0) c.2, w, subst (λ (z : ℕ). HoldsBesides w f z own l) (sym c.0) holds, guards, looks_stay run c.3))
holds_so k key own l hot m m₁ m₂ f node w holds guards run _ c = absurd c

-- the file that its hold word names
its_guard : (slot node own : ℕ) (l : Placement) (m m₁ : Sat) (t : Option ℕ) → is_some t ≡ true → m.0.work ≡ Placing own l → Guards slot node m t m₁
    → (f : File) × Runs m ([] ▷ Look slot (Some f)) (Relieving f node own l) Nothing m.0.change 2 m₁
its_guard slot node own l m m₁ None is works g = let bad : false ≡ true = is in absurd (cc bad)
its_guard slot node own l m m₁ (Some e) is works g = (
  g.0,
  subst (λ (w : Work). Runs m ([] ▷ Look slot (Some g.0)) (guarding g.0 (announcing node w)) Nothing m.0.change 2 m₁) works g.2,
)

pub compare-requires : goal.compare-requires
compare-requires c =
    let l = c.requires.placing in
    let cold = c.requires.aimed ∙ ap (aim_at c.args.key.slot) c.in_default.is in
    let word = c.fetch_add-word.result in
    let node = c.in-Some-file_node_of.node in
    let h = (c.fetch_add-word.ensures.2 c.args.own l.0 l.1).holds c.args.key.slot node cold (its_name word node c.in-Some-file_node_of.ensures) in
    let run = stays_then (runs_goes h.2) c.heat.ensures.heats in
    record {
      table = c.heat.ensures.table ∙ (c.fetch_add-word.ensures.0 ∙ c.requires.table);
      at = (c.args.number, still_at_work c.requires.at run);
      holds = (h.0, inr (inr (c.args.own, l.0, inl run.work)));
    }

pub compare-requires-2-clause-holds : goal.compare-requires-2-clause-holds
compare-requires-2-clause-holds c =
    let l = c.requires.placing in
    let some : is_some c.guard.result ≡ true = c.if-is_none.ensures in
    let g = its_guard c.args.key.slot c.in-Some.node c.args.own l.0 c.args.seat.now.me c.guard.new.seat.me c.guard.result some l.1 c.guard.ensures.guards in
    (g.0, inr (inr (c.args.own, l.0, inr g.1.work)))

pub returns-in_default-file_node_of : goal.returns-in_default-file_node_of
returns-in_default-file_node_of c =
    let cold = c.requires.aimed ∙ ap (aim_at c.args.key.slot) c.in_default.is in
    let none = no_name c.fetch_add-word.result c.in_default-file_node_of.ensures in
    let l = c.requires.placing in
    record {
      table = c.heat.ensures.table ∙ c.fetch_add-word.ensures.0;
      places = c.heat.ensures.places ∙ ((c.fetch_add-word.ensures.2 c.args.own l.0 l.1).empty c.args.key.slot cold none).carried;
      holds = λ l works. runs_within (omega arith)
          (stays_then (runs_goes ((c.fetch_add-word.ensures.2 c.args.own l works).empty c.args.key.slot cold none)) c.heat.ensures.heats);
    }

pub returns-in_default : goal.returns-in_default
returns-in_default c =
    let k : Start = c.args.self.now.table.shared.key in
    let cold = c.requires.aimed ∙ ap (aim_at c.args.key.slot) c.in_default.is in
    let node = c.in-Some-file_node_of.node in
    let own = c.args.own in
    let l = c.requires.placing in
    let took = c.fetch_add-word.ensures.2 in
    let name = its_name c.fetch_add-word.result node c.in-Some-file_node_of.ensures in
    record {
      table = c.compare.ensures.table ∙ (c.heat.ensures.table ∙ c.fetch_add-word.ensures.0);
      places = c.compare.ensures.places ∙ (c.heat.ensures.places ∙ ((took own l.0 l.1).holds c.args.key.slot node cold name).2.carried);
      holds = λ l works. let h = (took own l works).holds c.args.key.slot node cold name in
          let run = stays_then (runs_goes h.2) c.heat.ensures.heats in
          holds_so k c.args.key own l c.args.hot c.args.seat.now.me c.heat.new.seat.me c.compare.new.seat.me h.0 node (Renewing h.0 node own l) (inl refl)
          (sym (ap is_some c.in_default.is)) run c.compare.result (c.compare.ensures.compared h.0 (inr (inr (own, l, inl run.work))));
    }

pub returns-clause-holds : goal.returns-clause-holds
returns-clause-holds c l works =
    let k : Start = c.args.self.now.table.shared.key in
    let node = c.in-Some.node in
    let own = c.args.own in
    let m = c.args.seat.now.me in
    let m₁ = c.guard.new.seat.me in
    let some : is_some c.guard.result ≡ true = c.if-is_none.ensures in
    let g = its_guard c.args.key.slot node own l m m₁ c.guard.result some works c.guard.ensures.guards in
    holds_so k c.args.key own l c.args.hot m m₁ c.compare-2.new.seat.me g.0 node (Relieving g.0 node own l) (inr refl) (sym (ap is_some c.in-Some.is)) g.1
    c.compare-2.result (c.compare-2.ensures.compared g.0 (inr (inr (own, l, inr g.1.work))))
