use Rattle.fx_lasting.proofs.{ℕ, [], ◌▷◌, subst, inl, inr, ⊎_elim, Work, Idle, Placing, Placement, Runs, Look, Some, Nothing, Cold, HasAnnounced}
use Rattle.fx_lasting.proofs.{MayAnnounce, announcing, guarding, rules, ◌≡◌, ◌+◌, ◌∙◌, full_name_in, IsHot, ap, hold_inside, hold_word, slot_inside}
use Rattle.fx_lasting.proofs.{still_at_work, runs_goes, looks_then, listed_is}
use Rattle.fx_lasting.proofs.hold_lemmas.HoldWords.{announces_keep}
use Rattle.fx_lasting.proofs.hold_lemmas.Looking.{confirms_keep}
use Rattle.fx_lasting.proofs.table.LastingTable.guard.Goals as goal

-- a pass whose hold word names the node now
announced_so : {d e : Work} {node : ℕ} → e ≡ announcing node d → MayAnnounce d → HasAnnounced e node
announced_so {d} {e} {node} is may = ⊎_elim (λ (idle : d ≡ Idle). inl (is ∙ ap (announcing node) idle))
    (λ (z : (own : ℕ) × (l : Placement) × (d ≡ Placing own l)). inr (z.0, z.1, is ∙ ap (announcing node) z.2)) may

pub store-requires : goal.store-requires
store-requires c =
    let t = c.args.self.now in
    let at = c.requires.at in (
      c.requires.table,
      hold_inside t at.high c.hold_place-hold.ensures,
      rw c.announced.ensures (announces_keep _ _ _ _ c.args.slot c.args.node c.args.seat.now.me _ at.pass (listed_is at ∙ c.requires.listed) c.requires.may c.requires.saw
          (hold_word t at.its_number c.hold_place-hold.ensures)),
    )

pub load-word-requires : goal.load-word-requires
load-word-requires c =
    let t = c.args.self.now in
    let goes = c.store.ensures.2.goes c.args.slot c.args.node c.requires.saw in
    let at = still_at_work c.requires.at (runs_goes goes) in (
      c.store.ensures.0 ∙ c.requires.table,
      slot_inside t c.requires.slot c.slot_place.ensures,
      confirms_keep _ _ _ _ c.args.slot c.args.node c.store.new.seat.me _ at.pass (announced_so goes.stepped.work c.requires.may) (goes.stepped.glance ∙ c.requires.saw)
          c.slot_place.ensures,
    )

pub returns-then-is_hot_at : goal.returns-then-is_hot_at
returns-then-is_hot_at c =
    let goes = c.store.ensures.2.goes c.args.slot c.args.node c.requires.saw in
    let still : (full_name_in c.load-word.result ≡ c.args.node + 1) × IsHot c.load-word.result = c.is_hot_at.ensures.0 c.if-is_hot_at.true in
    let h = c.load-word.ensures.2.holds c.args.slot c.args.node (goes.stepped.glance ∙ c.requires.saw) (announced_so goes.stepped.work c.requires.may) still.0 still.1 in
    let m₁ = c.store.new.seat.me in
    let did = subst (λ (w : Work). Runs m₁ ([] ▷ Look c.args.slot (Some h.0)) w Nothing m₁.0.change 1 c.load-word.new.seat.me)
    (ap (guarding h.0) goes.stepped.work) (runs_goes h.2) in
    record {
      table = c.load-word.ensures.0 ∙ c.store.ensures.0;
      guards = (h.0, c.entry_of.ensures ∙ h.1, looks_then (runs_goes goes) did);
      places = h.2.carried ∙ goes.carried;
    }

pub returns-else-is_hot_at : goal.returns-else-is_hot_at
returns-else-is_hot_at c =
    let goes = c.store.ensures.2.goes c.args.slot c.args.node c.requires.saw in
    let moved : (full_name_in c.load-word.result ≡ c.args.node + 1) × IsHot c.load-word.result → ⊥ = search rules in
    let h = c.load-word.ensures.2.moved c.args.slot c.args.node (goes.stepped.glance ∙ c.requires.saw) (announced_so goes.stepped.work c.requires.may) moved in
    let m₁ = c.store.new.seat.me in
    record {
      table = c.load-word.ensures.0 ∙ c.store.ensures.0;
      guards = looks_then (runs_goes goes)
          (subst (λ (w : Work). Runs m₁ [] w (Cold c.args.slot) m₁.0.change 1 c.load-word.new.seat.me) goes.stepped.work (runs_goes h));
      places = h.carried ∙ goes.carried;
    }
