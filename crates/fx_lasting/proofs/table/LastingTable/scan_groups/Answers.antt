use Rattle.fx_lasting.proofs.{◌∙◌, arith, ◌+◌, ◌%◌, ◌<◌, ℕ, ap, sym, refl, subst, mod-eq_of_lt, groups_in, group_steps, FailsToFill, same_groups}
use Rattle.fx_lasting.proofs.{placed_none, EachInGroup}
use Rattle.std.proofs.Math.Nat.{mod-lt}
use Rattle.fx_lasting.proofs.range_lemmas.Trying.{still_then, allocated_then, allocated_within, group_more, groups_most}
use Rattle.fx_lasting.proofs.range_lemmas.Scanning.{all_groups, fails_last, follows, next_group}
use Rattle.fx_lasting.proofs.range_lemmas.Walks.{walk_on}
use Rattle.fx_lasting.proofs.table.LastingTable.scan_groups.Goals as goal

pub loop-init : goal.loop-init
loop-init c = let few : c.group_of-group.result < c.groups_in-groups.result = omega (arith, c.group_of-group.ensures.few, c.groups_in-groups.ensures) in record {
  table = refl;
  group = sym (ap (λ (z : ℕ). z % c.groups_in-groups.result) (omega arith) ∙ mod-eq_of_lt few);
  inside = c.group_of-group.ensures.few;
  still = (0, omega arith, (placed_none c.requires.at c.requires.placing.work, refl));
  fails = λ i l. absurd (omega (arith, l));
}

pub returns-in-Some-clause-found : goal.returns-in-Some-clause-found
returns-in-Some-clause-found c = let s = c.loop.invariant.still in let len = c.args.self.now.range_len in let found = c.in-Some.found in
    allocated_within c.args.seat.now.me c.try_group.new.seat.me c.args.node found.0 found.1 c.args.file
    (groups_most len (c.loop.counter + 1) (s.0 + group_steps len) (groups_in len) (omega (arith, c.loop-test.true, c.groups_in-groups.ensures))
    (group_more len c.loop.counter s.0 s.1))
    (allocated_then found.1 s.2 c.in-Some.ensures.found)

pub loop-preserved : goal.loop-preserved
loop-preserved c =
    let t = c.args.self.now in
    let k = t.table.shared.key in
    let i = c.loop.invariant in
    let s = i.still in
    let groups = c.groups_in-groups.result in
    let step = c.step_of-step.result in
    let first = c.group_of-group.result in
    let none = c.try_group.ensures.none c.in-None.is in
    record {
      table = c.try_group.ensures.table ∙ i.table;
      group = ap (λ (z : ℕ). (z + step) % groups) i.group ∙ walk_on first c.loop.counter step groups;
      inside = subst (λ (z : ℕ). (c.loop.group + step) % groups < z) c.groups_in-groups.ensures (mod-lt (c.loop.group + step) (omega (arith, c.loop-test.true)));
      still = (s.0 + group_steps t.range_len, group_more t.range_len c.loop.counter s.0 s.1, still_then c.args.file s.2 none);
      fails = next_group (fails_last k) k first c.loop.counter step groups c.args.seat.now.me c.loop.seat.me c.try_group.new.seat.me i.fails (follows s.2.0) (follows none.0)
          (subst (λ (g : ℕ). EachInGroup k g (FailsToFill k c.loop.seat.me c.try_group.new.seat.me)) i.group (c.try_group.ensures.fails c.in-None.is));
    }

pub returns-clause-fails : goal.returns-clause-fails
returns-clause-fails c none =
    let t = c.args.self.now in
    let k = t.table.shared.key in
    all_groups k c.group_of-group.result c.step_of-step.result c.groups_in-groups.result (FailsToFill k c.args.seat.now.me c.loop.seat.me) c.step_of-step.ensures.all
    (c.groups_in-groups.ensures ∙ same_groups t) (λ i l. c.loop.invariant.fails i (omega (arith, l, c.loop-test.false)))
