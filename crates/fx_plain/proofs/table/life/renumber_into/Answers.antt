use Rattle.fx_plain.proofs.Words.{refl, rules, ◌≡◌, sym, ap, ◌∙◌, arith, moved_node, file_named, slot_at}
use Rattle.fx_plain.proofs.OwnNumbers.{named_same, left_without, opened_next, moved_next}
use Rattle.fx_plain.proofs.table.life.renumber_into.Goals as goal

pub loop-slot-preserved : goal.loop-slot-preserved
loop-slot-preserved c =
    let i = c.loop-slot.invariant in let first = c.args.slots.now.items in let nodes = c.loop-slot.nodes in
    let s = c.loop-slot.slot in let here = i.opened.rest s (omega arith) in
    let node_is : c.move_file-node.result ≡ moved_node (file_named c.args.nodes.now (slot_at first s)) s = c.move_file-node.ensures.node
    ∙ rw here (ap (λ x. moved_node x s) (named_same first c.args.nodes.now nodes s c.requires.placed i.left)) in
    record {
      len = search rules;
      nodes_len = search rules;
      count = search rules;
      room = search rules;
      opened = rw c.move_file-node.ensures.slots (opened_next i.opened (omega arith));
      moved = λ u lt. rw c.push_reserved.ensures.items (moved_next c.loop-slot.moved.items
          (λ k. moved_node (file_named c.args.nodes.now (slot_at first k)) k) (sym c.loop-slot.moved.ok.0 ∙ i.count) node_is i.moved lt);
      left = rw (c.move_file-node.ensures.nodes, here) (left_without first c.args.nodes.now nodes s c.requires.placed i.left _ refl);
    }
