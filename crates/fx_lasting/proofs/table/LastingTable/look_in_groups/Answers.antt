use Rattle.fx_lasting.proofs.{◌∙◌, arith, ◌+◌, ◌%◌, ◌<◌, ℕ, ap, sym, refl, subst, mod-eq_of_lt, Some, groups_in, group_steps, same_groups, runs_none}
use Rattle.fx_lasting.proofs.{EachInGroup, WasFull}
use Rattle.std.proofs.Math.Nat.{mod-lt}
use Rattle.fx_lasting.proofs.slot_lemmas.ByNode.{stands_then}
use Rattle.fx_lasting.proofs.range_lemmas.GapSearches.{looks_then, looks_within}
use Rattle.fx_lasting.proofs.range_lemmas.Trying.{group_more, groups_most}
use Rattle.fx_lasting.proofs.range_lemmas.Scanning.{all_groups, full_lasts, follows, next_group}
use Rattle.fx_lasting.proofs.range_lemmas.Walks.{walk_on}
use Rattle.fx_lasting.proofs.table.LastingTable.look_in_groups.Goals as goal

pub loop-init : goal.loop-init
loop-init c = let few : c.group_of-group.result < c.groups_in-groups.result = omega (arith, c.group_of-group.ensures.few, c.groups_in-groups.ensures) in record {
  table = refl;
  places = refl;
  group = sym (ap (λ (z : ℕ). z % c.groups_in-groups.result) (omega arith) ∙ mod-eq_of_lt few);
  inside = c.group_of-group.ensures.few;
  still = (0, omega arith, runs_none c.requires.at 0);
  full = λ i l. absurd (omega (arith, l));
}

pub returns-in-Some-clause-looks : goal.returns-in-Some-clause-looks
returns-in-Some-clause-looks c = let k = c.args.self.now.table.shared.key in let s = c.loop.invariant.still in let len = c.args.self.now.range_len in
    looks_within k c.args.seat.now.me c.look_in_group.new.seat.me (Some c.in-Some.found)
    (groups_most len (c.loop.counter + 1) (s.0 + group_steps len) (groups_in len) (omega (arith, c.loop-test.true, c.groups_in-groups.ensures))
    (group_more len c.loop.counter s.0 s.1))
    (looks_then k c.args.seat.now.me c.loop.seat.me c.look_in_group.new.seat.me (group_steps len) (Some c.in-Some.found) s.2 c.in-Some.ensures.looks)

pub loop-preserved : goal.loop-preserved
loop-preserved c =
    let t = c.args.self.now in
    let k = t.table.shared.key in
    let i = c.loop.invariant in
    let s = i.still in
    let groups = c.groups_in-groups.result in
    let step = c.step_of-step.result in
    let first = c.group_of-group.result in
    let looks = c.in-None.ensures.looks in
    record {
      table = c.look_in_group.ensures.table ∙ i.table;
      places = c.look_in_group.ensures.places ∙ i.places;
      group = ap (λ (z : ℕ). (z + step) % groups) i.group ∙ walk_on first c.loop.counter step groups;
      inside = subst (λ (z : ℕ). (c.loop.group + step) % groups < z) c.groups_in-groups.ensures (mod-lt (c.loop.group + step) (omega (arith, c.loop-test.true)));
      still = (s.0 + group_steps t.range_len, group_more t.range_len c.loop.counter s.0 s.1, stands_then s.2 looks);
      full = next_group (full_lasts k) k first c.loop.counter step groups c.args.seat.now.me c.loop.seat.me c.look_in_group.new.seat.me i.full (follows s.2) (follows looks)
          (subst (λ (g : ℕ). EachInGroup k g (WasFull k c.loop.seat.me c.look_in_group.new.seat.me)) i.group (c.look_in_group.ensures.full c.in-None.is));
    }

pub returns-clause-full : goal.returns-clause-full
returns-clause-full c none =
    let t = c.args.self.now in
    let k = t.table.shared.key in
    all_groups k c.group_of-group.result c.step_of-step.result c.groups_in-groups.result (WasFull k c.args.seat.now.me c.loop.seat.me) c.step_of-step.ensures.all
    (c.groups_in-groups.ensures ∙ same_groups t) (λ i l. c.loop.invariant.full i (omega (arith, l, c.loop-test.false)))
