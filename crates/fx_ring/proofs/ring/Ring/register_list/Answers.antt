use Rattle.fx_ring.proofs.Words.{◌≡◌, ◌+◌, ap, sym, subst, ◌∙◌, false, length, arith, rules, list_any, IsSettled, Contents, State, state_of, Closed}
use Rattle.fx_ring.proofs.Words.{Option, ℕ, RingContents, IsRing, ring_of, ring_with, registered, updated, is_bad_entry, removed_from, tags_for}
use Rattle.fx_ring.proofs.Words.{with_table, files_at}
use Rattle.fx_ring.proofs.ListSteps.{good_files}
use Rattle.fx_ring.proofs.Origins.{none_removed, is_updated, ring_updated}
use Rattle.fx_ring.proofs.Rings.{contents_of, none_rings, vacant_empty}
use Rattle.fx_ring.proofs.ring.Ring.register_list.Goals.{After-replace}
use Rattle.fx_ring.proofs.ring.Ring.register_list.Goals as goal

pub invariant_of-numbers-clause-good : goal.invariant_of-numbers-clause-good
invariant_of-numbers-clause-good c =
    rw (sym (ap (λ (r : RingContents). r.catalogue) c.self.view_is)) at (good_files (length c.args.self.now.catalogue) c.args.list.now c.in_default.ensures.good)

pub apply_list-requires-clause-room : goal.apply_list-requires-clause-room
apply_list-requires-clause-room c =
    let none = ap (λ (a : ℕ → Option Closed). length (removed_from a 0 c.args.list.now)) (ap files_at c.in-Ok-sparse.ensures.state)
    ∙ ap length (none_removed 0 c.args.list.now) in
    omega (arith, none)

pub dismiss-requires-clause-empty : goal.dismiss-requires-clause-empty
dismiss-requires-clause-empty c = vacant_empty (ap state_of c.in_default-apply_list.ensures.err ∙ c.in-Ok-sparse.ensures.state)

module _ (c : After-replace) where
  -- the ring with the table of empty slots
  abbrev sparse : RingContents
  sparse = ring_with c.self.inside.catalogue c.in-Ok-sparse.table c.self.inside.submissions c.self.inside.registrations

  is_registered : with_table (record (ring_of (contents_of c.self.inside)) { registrations = c.self.inside.registrations + 1 })
      (state_of c.replace.new.dest)
      ≡ registered (ring_of (contents_of c.self.inside)) c.args.list.now (tags_for c.args.list.now c.args.tags)
  is_registered =
      let ring = ring_of (contents_of c.self.inside) in
      ap (λ (t : Contents). with_table (record ring { registrations = c.self.inside.registrations + 1 }) (state_of t)) c.replace.ensures.after
      ∙ is_updated sparse 0 c.args.list.now (tags_for c.args.list.now c.args.tags) c.in-Ok-apply_list.ensures.ok
      ∙ ap (λ (st : State). updated (with_table ring st) 0 c.args.list.now (tags_for c.args.list.now c.args.tags)) c.in-Ok-sparse.ensures.state

  is_ring : IsRing (with_table (record (ring_of (contents_of c.self.inside)) { registrations = c.self.inside.registrations + 1 })
      (state_of c.replace.new.dest))
  is_ring =
      let good : list_any (is_bad_entry (length c.self.inside.catalogue)) c.args.list.now ≡ false =
      rw (sym (ap (λ (r : RingContents). r.catalogue) c.self.view_is)) at (good_files (length c.args.self.now.catalogue) c.args.list.now c.in_default.ensures.good) in
      subst (λ (t : Contents). IsRing (ring_of (ring_with c.self.inside.catalogue t c.self.inside.submissions (c.self.inside.registrations + 1))))
      (sym c.replace.ensures.after) (ring_updated sparse 0 c.args.list.now (tags_for c.args.list.now c.args.tags) c.in-Ok-apply_list.ensures.ok
      (none_rings (ring_of sparse) (ap files_at c.in-Ok-sparse.ensures.state)) good)

pub invariant_of-self : goal.invariant_of-self
invariant_of-self c = record {
  settled = subst (λ (t : Contents). IsSettled (state_of t)) (sym c.replace.ensures.after) c.in-Ok-apply_list.ensures.ok.settled;
  ring = is_ring (goal.at.invariant_of-self c).After-replace;
  few_submissions = c.self.invariant.few_submissions;
  few_registrations = omega (arith, c.in_default.ensures.few, ap (λ (r : RingContents). r.registrations) c.self.view_is);
}

pub returns : goal.returns
returns c = record {
  failure = search rules;
  ok = is_registered (goal.at.returns c).After-replace
      ∙ ap (λ (v : RingContents). registered (ring_of v) c.args.list.now (tags_for c.args.list.now c.args.tags)) c.self.view_is;
  err = tt;
}
