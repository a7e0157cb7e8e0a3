use Rattle.check_lines.proofs.{append-nil, drop-length, ◌≡◌, ◌+◌, ℕ, [], ◌∷◌, pos, to_z, of_z, w32, slice_index_or, ap, subst, sym, ◌∙◌, rules, arith}
use Rattle.check_lines.proofs.{length, upto_none, upto_all, option_to_list, Registered, Table, with_file, table_of_slots, file_after, tags_for}
use Rattle.check_lines.proofs.{AreInRange, in_range_after, one_more, more_removed}
use Rattle.std.proofs.Math.Nat.{add-zero}
use Rattle.check_lines.proofs.call_answer.apply_list.Goals.{in-Some+in_ok-push, in_default}
use Rattle.check_lines.proofs.call_answer.apply_list.Goals as goal

pub loop-i-init : goal.loop-i-init
loop-i-init c =
    let first = table_of_slots c.args.slots.now in
    record {
      table = ap (λ (a : ℕ → _). record first { at = a }) (sym (upto_none c.args.k first.at c.args.off c.args.list.now (tags_for c.args.list.now c.args.tags)));
      in_range = λ fits. fits;
      removed = rw (c.new-removed.ensures.items, add-zero);
    }

pub loop-i-preserved : goal.loop-i-preserved
loop-i-preserved c =
    let number = slice_index_or c.args.list.now c.loop-i.i (pos 0) in let z = to_z w32 (of_z w32 number) in
    let read : to_z w32 (of_z w32 number) ≡ number = search rules in
    let tags = tags_for c.args.list.now c.args.tags in let first = table_of_slots c.args.slots.now in
    let cur = table_of_slots c.loop-i.slots in let new = table_of_slots c.apply_number.new.slots in
    let after : new ≡ with_file cur (c.args.off + c.loop-i.i) (file_after (Registered c.args.k c.loop-i.i) c.tag_at.result z (cur.at (c.args.off + c.loop-i.i))) =
    c.apply_number.ensures.table in
    let gone = more_removed c.args.k c.args.off c.loop-i.i c.args.list.now tags z first cur new c.loop-i-test.true read c.loop-i.invariant.table in
    record {
      table = one_more c.args.k c.args.off c.loop-i.i c.args.list.now tags z first cur new c.loop-i-test.true read c.loop-i.invariant.table
          (rw (c.tag_at.ensures c.args.list.now) at after);
      in_range = λ fits. subst (λ (t : Table). AreInRange t.at) (sym after)
          (in_range_after cur (c.args.off + c.loop-i.i) c.args.k c.loop-i.i c.tag_at.result z (c.loop-i.invariant.in_range fits) (omega arith) (omega arith)
          (omega arith));
      removed = elim c.match-apply_number.branch [
        | in-Some+in_ok-push w ↦ rw (w.removed-is, w.in_ok-push.ensures.items) (gone (w.in-Some.file ∷ []) c.loop-i.removed.items
            (ap option_to_list (sym w.in-Some.is) ∙ c.apply_number.ensures.removed) c.loop-i.invariant.removed)
        | in_default w ↦ rw w.removed-is (rw append-nil at (gone [] c.loop-i.removed.items
            (ap option_to_list (sym w.in_default.is) ∙ c.apply_number.ensures.removed) c.loop-i.invariant.removed))
      ];
    }

pub returns : goal.returns
returns c =
    let all : c.loop-i.i ≡ length c.args.list.now = omega (arith, c.loop-i-test.false, c.loop-i.auto.i-end) in
    let first = table_of_slots c.args.slots.now in let tags = tags_for c.args.list.now c.args.tags in
    record {
      table = rw (all, upto_all c.args.k first.at c.args.off c.args.list.now tags) at c.loop-i.invariant.table;
      in_range = c.loop-i.invariant.in_range;
      removed = rw (all, drop-length c.args.list.now, append-nil) at c.loop-i.invariant.removed;
    }
