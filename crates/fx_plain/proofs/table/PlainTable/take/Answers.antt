use Rattle.fx_plain.proofs.Words.{rules, ◌≡◌, ◌≤◌, ◌^◌, sym, ◌<◌, Some, None, length, ◌+◌, ◌-◌, arith, slot_at, Contents, IsTable, IsCounted}
use Rattle.fx_plain.proofs.Words.{the_view}
use Rattle.fx_plain.proofs.Cells.{has_file-At}
use Rattle.fx_plain.proofs.Removals.{taken, seen_at, take_removes, take_counted}
use Rattle.fx_plain.proofs.OwnNumbers.{own_as_before}
use Rattle.fx_plain.proofs.table.PlainTable.take.Goals.{In_ok-number}
use Rattle.fx_plain.proofs.table.PlainTable.take.Goals as goal

module _ (c : In_ok-number) where
  abbrev v : Contents
  v = the_view c.self.inside

  abbrev after : Contents
  after = taken v c.args.slot c.in_ok-number.number

  inside : c.args.slot < length v.slots
  inside = search rules

  at : slot_at v.slots c.args.slot ≡ Some c.in_ok-number.number
  at = seen_at v.slots None inside c.index.ensures c.in_ok-number.was

  counted : (1 ≤ c.self.inside.full) × (c.self.inside.removed + 1 < 2 ^ 32)
      × (IsTable after × IsCounted after (c.self.inside.full - 1) c.self.inside.held (c.self.inside.removed + 1))
  counted = take_counted c.self.invariant.0.0 inside at c.self.invariant.0.1

pub leave-requires : goal.leave-requires
leave-requires c = let named = c.self.invariant.0.0.placed c.args.slot c.in_ok-number.number (at (goal.at.leave-requires c).In_ok-number) in
    has_file-At c.self.inside.nodes c.in_ok-number.number named.1

pub overflow_add-self : goal.overflow_add-self
overflow_add-self c = omega (arith, (counted (goal.at.overflow_add-self c).In_ok-number).1)

pub invariant_of-self : goal.invariant_of-self
invariant_of-self c = let a = (goal.at.invariant_of-self c).In_ok-number in
    (rw c.leave.ensures (counted a).2, own_as_before (v a).slots None (inside a) (λ n none. absurd (cc none)) c.self.invariant.1)

pub returns : goal.returns
returns c = let a = (goal.at.returns c).In_ok-number in
    rw (sym c.self.view_is, c.leave.ensures) (take_removes c.self.invariant.0.0 (inside a) (at a))
