use Rattle.fx_plain.proofs.Words.{rules, ◌≡◌, ◌<◌, ◌+◌, Some, None, sym, length, slice_set, arith, ℕ, Option, ◌^◌, refl, Put, Contents, IsTable}
use Rattle.fx_plain.proofs.Words.{IsCounted, state_of, At, slot_at, file_count_of, numbered, HaveOwnOutside, LetsLeave, the_view}
use Rattle.fx_plain.proofs.Cells.{has_file-At, unnamed}
use Rattle.fx_plain.proofs.Removals.{put_at, IsFree, fresh_free, seen_at, still_names, put_removes, put_counted}
use Rattle.fx_plain.proofs.OwnNumbers.{own_in_wider}
use Rattle.fx_plain.proofs.table.PlainTable.put.Goals.{After-index-replaced}
use Rattle.fx_plain.proofs.table.PlainTable.put.Goals as goal

-- if the slot names this number, or none
module _ (c : After-index-replaced) {found : Option ℕ} (is : c.index-replaced.result.now ≡ found) where
  abbrev v : Contents
  v = the_view c.self.inside

  abbrev after : Contents
  after = put_at v c.args.slot found c.args.number c.args.file

  inside : c.args.slot < length v.slots
  inside = search rules

  free : IsFree v c.args.slot c.args.number
  free = fresh_free c.args.slot c.args.number c.self.invariant.0.0 (search rules)

  at : slot_at v.slots c.args.slot ≡ found
  at = seen_at v.slots None inside c.index-replaced.ensures is

  counted : (full' removed' : ℕ) → full' + file_count_of found ≡ c.self.inside.full + 1 → removed' ≡ c.self.inside.removed + file_count_of found
      → (removed' < 2 ^ 32) × (c.self.inside.full + 1 < 2 ^ 32) × (IsTable after × IsCounted after full' c.self.inside.held removed')
  counted full' removed' = put_counted c.args.file c.self.invariant.0.0 inside at free full' removed' c.self.invariant.0.1

  own : HaveOwnOutside (slice_set v.slots c.args.slot (Some c.args.number)) c.widen.new.self
  own = own_in_wider v.slots (Some c.args.number) inside c.widen.new.self c.self.invariant.1 c.widen.ensures.inside c.widen.ensures.outside

  leaves : LetsLeave v after (Put c.args.slot (numbered c.args.number c.args.file) ((state_of v).at c.args.slot)) ((state_of v).at c.args.slot) found
  leaves = put_removes c.args.file c.self.invariant.0.0 inside at free (search rules)

pub overflow_add-self : goal.overflow_add-self
overflow_add-self c = let a = (goal.at.overflow_add-self c).After-index-replaced in
    omega (arith, (counted a c.in-None.is (c.self.inside.full + 1) c.self.inside.removed (omega arith) (omega arith)).1)

pub invariant_of-self : goal.invariant_of-self
invariant_of-self c = let a = (goal.at.invariant_of-self c).After-index-replaced in (
  rw c.set_node.ensures (counted a c.in-None.is (c.self.inside.full + 1) c.self.inside.removed (omega arith) (omega arith)).2,
  own a c.in-None.is,
)

pub leave-requires : goal.leave-requires
leave-requires c = let a = (goal.at.leave-requires c).After-index-replaced in
    let named = still_names c.args.file c.self.invariant.0.0 (inside a c.in-Some.is) (at a c.in-Some.is) (free a c.in-Some.is) c.in-Some.old refl in
    rw c.set_node.ensures (has_file-At (slice_set c.self.inside.nodes c.args.number (At c.args.slot c.args.file)) c.in-Some.old named.1)

pub overflow_add-self-in-Some : goal.overflow_add-self-in-Some
overflow_add-self-in-Some c = let a = (goal.at.overflow_add-self-in-Some c).After-index-replaced in
    omega (arith, (counted a c.in-Some.is _ _ refl refl).0)

pub invariant_of-self-in-Some : goal.invariant_of-self-in-Some
invariant_of-self-in-Some c = let a = (goal.at.invariant_of-self-in-Some c).After-index-replaced in
    (rw (c.leave.ensures, c.set_node.ensures) (counted a c.in-Some.is _ _ refl refl).2, own a c.in-Some.is)

pub returns-in-None-clause-replaced : goal.returns-in-None-clause-replaced
returns-in-None-clause-replaced c = let a = (goal.at.returns-in-None-clause-replaced c).After-index-replaced in
    rw (sym c.self.view_is, c.set_node.ensures) (leaves a c.in-None.is)

pub returns-in-Some-clause-replaced : goal.returns-in-Some-clause-replaced
returns-in-Some-clause-replaced c = let a = (goal.at.returns-in-Some-clause-replaced c).After-index-replaced in
    rw (sym c.self.view_is, c.leave.ensures, c.set_node.ensures) (leaves a c.in-Some.is)

-- a slot that has a file isn't empty
pub returns-in-Some-clause-settled : goal.returns-in-Some-clause-settled
returns-in-Some-clause-settled c empty settled = grind (arith, at, unnamed)
