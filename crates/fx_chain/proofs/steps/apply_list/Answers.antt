use Rattle.fx_chain.proofs.Words.{rules, ◌≡◌, ◌<◌, ◌∙◌, length, pos, to_z, of_z, w32, slice_index_or, refl, arith, numbers_least}
use Rattle.fx_chain.proofs.ActsInTurn.{so_nothing}
use Rattle.fx_chain.proofs.EntryKinds.{applies_next, installs_left}
use Rattle.fx_chain.proofs.steps.apply_list.Goals as goal

pub loop-i-init : goal.loop-i-init
loop-i-init g c =
    let seen = (g.met.T.FileTable g.world.𝓛 g.world.𝓜 g.world.𝓡 ((λ s x. x), (λ x. x), (λ x. x), λ x. x)).fronts _ _ c.requires.ready.0 in
    record {
      kept = (refl, refl, c.requires.ready.0);
      idle = c.requires.ready.1;
      numbers = c.requires.ready.3;
      room = search rules;
      done = so_nothing _ seen c.requires.ready.1 refl;
    }

pub loop-i-preserved : goal.loop-i-preserved
loop-i-preserved g c =
    let i = c.loop-i.invariant in
    let inside : c.loop-i.i < length c.args.list.now = c.loop-i-test.true in
    let entry = slice_index_or c.args.list.now c.loop-i.i (pos 0) in
    let read : to_z w32 (of_z w32 entry) ≡ entry = search rules in
    let own = rw read at c.apply_entry.ensures.applied in
    let left = installs_left c.args.list.now c.loop-i.i inside in
    record {
      kept = (c.apply_entry.ensures.kept.0 ∙ i.kept.0, c.apply_entry.ensures.kept.1 ∙ i.kept.1, c.apply_entry.ensures.kept.2);
      idle = own.acts.adds.now;
      numbers = omega (arith, numbers_least own.acts.adds);
      room = omega arith;
      done = applies_next c.args.context.now.place c.args.off c.args.list.now c.loop-i.i inside i.done own;
    }
