use Rattle.fx_plain.proofs.Words.{refl, rules, ◌≡◌, ◌+◌, ap, ◌∙◌, length, length-append, append_assoc, ℕ, List, Option, arith, option_to_list, File}
use Rattle.fx_plain.proofs.Words.{files_in_order, identities_of, file_at, file_named, slot_at, nodes_without, Node}
use Rattle.fx_plain.proofs.Emptying.{files_more, files_next, read_slot, worked_next}
use Rattle.fx_plain.proofs.table.life.close_all.Goals.{After-index}
use Rattle.fx_plain.proofs.table.life.close_all.Goals as goal

module _ (c : After-index) where
  abbrev slots : List (Option ℕ)
  slots = c.args.slots.now.items

  abbrev nodes : List Node
  nodes = c.loop-slot.nodes

  abbrev at : ℕ → Option File
  at s = file_at c.args.nodes.now (slot_at slots s)

  read : c.index.result.now ≡ slot_at slots c.loop-slot.slot
  read = read_slot slots c.loop-slot.slot (search rules) c.index.ensures

  listed : option_to_list (file_named nodes c.index.result.now) ≡ identities_of (at c.loop-slot.slot)
  listed = grind (arith, read)

  longer : length (files_in_order at (c.loop-slot.slot + 1))
      ≡ length (files_in_order at c.loop-slot.slot) + length (option_to_list (file_named nodes c.index.result.now))
  longer = rw (files_next at c.loop-slot.slot, length-append, listed) refl

pub close_file-requires-clause-room : goal.close_file-requires-clause-room
close_file-requires-clause-room c =
    let a = (goal.at.close_file-requires-clause-room c).After-index in
    let more = files_more (at a) (c.loop-slot.slot + 1) (length c.args.slots.now.items) (omega arith) in
    let next = longer a in omega arith

pub loop-slot-preserved : goal.loop-slot-preserved
loop-slot-preserved c =
    let a = (goal.at.loop-slot-preserved c).After-index in let i = c.loop-slot.invariant in
    let nodes_are : c.close_file.new.nodes ≡ nodes_without c.loop-slot.nodes (slot_at c.args.slots.now.items c.loop-slot.slot) =
    c.close_file.ensures.nodes ∙ ap (nodes_without c.loop-slot.nodes) (read a) in
    let next = longer a in record {
      files = rw (c.close_file.ensures.files, i.files, listed a, files_next (at a) c.loop-slot.slot)
          (append_assoc c.args.closes.now.files (files_in_order (at a) c.loop-slot.slot) (identities_of (at a c.loop-slot.slot)));
      room = omega arith;
      worked = rw nodes_are
          (worked_next c.args.slots.now.items c.args.nodes.now c.loop-slot.nodes c.loop-slot.slot c.requires.placed i.worked.left i.worked);
    }
