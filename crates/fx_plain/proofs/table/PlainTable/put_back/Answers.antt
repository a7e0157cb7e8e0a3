use Rattle.fx_plain.proofs.Words.{rules, false, ◌≡◌, ◌^◌, None, ◌+◌, ◌<◌, Some, length, sym, ◌∙◌, arith, changed_at, with_removed, slot_at, file_at}
use Rattle.fx_plain.proofs.Words.{Contents, IsTable, IsCounted, state_of, numbered, the_view}
use Rattle.fx_plain.proofs.Cells.{unchanged, unnamed}
use Rattle.fx_plain.proofs.Removals.{IsFree, own_free, put_at, state_of-put, put_counted}
use Rattle.fx_plain.proofs.OwnNumbers.{own_as_before}
use Rattle.fx_plain.proofs.table.PlainTable.put_back.Goals.{After-set_node}
use Rattle.fx_plain.proofs.table.PlainTable.put_back.Goals as goal

module _ (c : After-set_node) where
  abbrev v : Contents
  v = the_view c.self.inside

  inside : c.args.slot < length v.slots
  inside = search rules

  empty : slot_at v.slots c.args.slot ≡ None
  empty = unnamed c.args.slot c.self.invariant.0.0 (rw (sym c.self.view_is) at c.requires.empty)

  free : IsFree v c.args.slot c.args.slot
  free = grind (arith, own_free)

  abbrev after : Contents
  after = put_at v c.args.slot None c.args.slot c.args.file

  counted : (c.self.inside.full + 1 < 2 ^ 32)
      × (IsTable after × IsCounted after (c.self.inside.full + 1) c.self.inside.held c.self.inside.removed)
  counted = let n = put_counted c.args.file c.self.invariant.0.0 inside empty free (c.self.inside.full + 1) c.self.inside.removed
      c.self.invariant.0.1 (omega arith) (omega arith) in (n.1, n.2)

  state_after : state_of after ≡ record (state_of v) { at = changed_at (state_of v).at c.args.slot (Some (numbered c.args.slot c.args.file)) }
  state_after = state_of-put c.args.file c.self.invariant.0.0 inside empty free ∙ λ i. record (state_of v) {
    at = changed_at (state_of v).at c.args.slot (Some (numbered c.args.slot c.args.file));
    removed = with_removed (state_of v).removed (file_at v.nodes (empty i));
    fresh = unchanged (state_of v).fresh c.args.slot false (sym (c.self.invariant.0.0.used c.args.slot inside)) i;
  }

pub overflow_add-self : goal.overflow_add-self
overflow_add-self c = omega (arith, (counted (goal.at.overflow_add-self c).After-set_node).0)

pub invariant_of-self : goal.invariant_of-self
invariant_of-self c = let a = (goal.at.invariant_of-self c).After-set_node in
    (rw c.set_node.ensures (counted a).1, own_as_before (v a).slots (Some c.args.slot) (inside a) (λ n is. cc) c.self.invariant.1)

pub returns-clause-state : goal.returns-clause-state
returns-clause-state c = rw (sym c.self.view_is, c.set_node.ensures) (state_after (goal.at.returns-clause-state c).After-set_node)

pub returns-clause-sound : goal.returns-clause-sound
returns-clause-sound c = (invariant_of-self c).0.0
