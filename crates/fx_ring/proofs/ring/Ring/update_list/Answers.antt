use Rattle.fx_ring.proofs.Words.{◌≡◌, [], ap, sym, subst, ◌∙◌, length, rules, arith, state_of, RingContents, ListsFiles, ring_of, updated, tags_for}
use Rattle.fx_ring.proofs.Words.{removed_from, files_at}
use Rattle.fx_ring.proofs.Origins.{few_removed, is_updated, ring_updated, list_updated}
use Rattle.fx_ring.proofs.Rings.{contents_of}
use Rattle.fx_ring.proofs.ring.Ring.update_list.Goals as goal

pub apply_list-requires-clause-room : goal.apply_list-requires-clause-room
apply_list-requires-clause-room c =
    let few = few_removed (files_at (state_of c.self.inside.table)) c.args.off c.args.list.now in
    let room : c.in-Ok.closes.room ≡ length c.args.list.now = search rules in
    omega (arith, few, room)

pub invariant_of-self-2 : goal.invariant_of-self-2
invariant_of-self-2 c =
    let good = rw (sym (ap (λ (r : RingContents). r.catalogue) c.self.view_is)) at c.in_default.ensures.good in
    record {
      settled = c.in-Ok-apply_list.ensures.ok.settled;
      ring = ring_updated (contents_of c.self.inside) c.args.off c.args.list.now (tags_for c.args.list.now c.args.tags)
          c.in-Ok-apply_list.ensures.ok c.self.invariant.ring good;
      few_submissions = c.self.invariant.few_submissions;
      few_registrations = omega (arith, c.in_default.ensures.few, ap (λ (r : RingContents). r.registrations) c.self.view_is);
    }

pub returns : goal.returns
returns c =
    let none : c.in-Ok.closes.files ≡ [] = search rules in
    record {
      failure = search rules;
      ok = is_updated (contents_of c.self.inside) c.args.off c.args.list.now (tags_for c.args.list.now c.args.tags)
          c.in-Ok-apply_list.ensures.ok
          ∙ ap (λ (v : RingContents). updated (ring_of v) c.args.off c.args.list.now (tags_for c.args.list.now c.args.tags)) c.self.view_is;
      count = search rules;
      closes = subst (λ (v : RingContents). ListsFiles (ring_of v) (removed_from (ring_of v).at c.args.off c.args.list.now) c.sort.new.self)
          c.self.view_is (list_updated (contents_of c.self.inside) c.args.off c.args.list.now (tags_for c.args.list.now c.args.tags)
          c.in-Ok-apply_list.ensures.ok c.self.invariant.ring none c.sort.ensures.same_files c.sort.ensures.in_order);
      err = tt;
    }
