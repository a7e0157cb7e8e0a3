use Rattle.fx_plain.proofs.Words.{rules, ◌≡◌, ◌<◌, ◌∷◌, [], ap, ◌∙◌, length, append_assoc, arith, ℕ, Option, File, identity_of, slots_in_order}
use Rattle.fx_plain.proofs.Words.{file_at, file_named, slot_at, nodes_without}
use Rattle.std.proofs.lemmas.List.FromFn.{map-range_with_len_more}
use Rattle.fx_plain.proofs.Emptying.{read_slot, next_taken, worked_next}
use Rattle.fx_plain.proofs.table.files.take_each.Goals as goal

pub loop-slot-preserved : goal.loop-slot-preserved
loop-slot-preserved c =
    let i = c.loop-slot.invariant in let slots = c.args.slots.now.items in let first = c.args.nodes.now in
    let nodes = c.loop-slot.nodes in let s = c.loop-slot.slot in
    let inside : c.loop-slot.slot < length c.args.slots.now.items = search rules in
    let x = read_slot slots s inside c.index.ensures in let at : ℕ → Option File = λ u. file_at first (slot_at slots u) in
    let taken : c.take_named.result ≡ identity_of (at s) = c.take_named.ensures.file ∙ (ap (file_named nodes) x
    ∙ next_taken slots first nodes s c.requires.placed i.worked.left) in
    let nodes_are : c.take_named.new.nodes ≡ nodes_without nodes (slot_at slots s) = c.take_named.ensures.nodes ∙ ap (nodes_without nodes) x in
    let more = map-range_with_len_more (λ u. identity_of (at u)) 0 s s (omega arith) in record {
      files = rw (c.push_reserved.ensures.items, i.files, taken, more)
          (append_assoc c.args.files.now.items (slots_in_order at s) (identity_of (at s) ∷ []));
      count = search rules;
      capacity = search rules;
      worked = rw nodes_are (worked_next slots first nodes s c.requires.placed i.worked.left i.worked);
    }
