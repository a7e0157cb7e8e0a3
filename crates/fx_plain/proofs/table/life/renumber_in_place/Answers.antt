use Rattle.fx_plain.proofs.Words.{rules, refl, ◌≡◌, ◌<◌, ap, ◌∙◌, length, slice_set, arith, slot_at, nodes_without, moved_node, file_named, IsFiled}
use Rattle.fx_plain.proofs.OwnNumbers.{named_same, opened_next, left_settled, each_settled, later_stays, filed_by_move}
use Rattle.fx_plain.proofs.table.life.renumber_in_place.Goals as goal

pub loop-slot-preserved : goal.loop-slot-preserved
loop-slot-preserved c =
    let i = c.loop-slot.invariant in let first = c.args.slots.now.items in let nodes = c.loop-slot.nodes in
    let s = c.loop-slot.slot in let inside_first : s < length first = omega arith in
    let inside : s < length c.loop-slot.slots.items = omega arith in let room : s < length nodes = omega arith in
    let nodes_are : c.settle.new.nodes ≡ slice_set (nodes_without nodes (slot_at first s)) s (moved_node (file_named nodes (slot_at first s)) s) =
    rw (i.opened.rest s (omega arith)) at c.settle.ensures.nodes in
    let moved = ap (λ x. moved_node x s) (named_same first c.args.nodes.now nodes s c.requires.placed i.left) in record {
      len = search rules;
      nodes_len = search rules;
      opened = rw c.settle.ensures.slots (opened_next i.opened inside);
      filed = λ u lt low. rw nodes_are
          (each_settled first c.args.nodes.now nodes c.requires.placed i.left c.requires.own inside_first (IsFiled first c.args.nodes.now) _ room
          (filed_by_move first c.args.nodes.now s moved) (λ k below. i.filed k below (omega arith)) lt);
      left = rw nodes_are (left_settled first c.args.nodes.now nodes c.requires.placed i.left c.requires.own inside_first _);
      stays = λ u le lt. rw nodes_are (later_stays first c.args.nodes.now nodes c.requires.placed i.left c.requires.own inside_first _
          (slot_at first s) refl le (omega arith) ∙ i.stays u (omega arith) lt);
    }
