-- A node is that of one file while the file is held.
use Rattle.fx_lasting.proofs.{◌≡◌, ℕ, ◌+◌, Some, sym, arith, File, Agrees, Names, Phase, Shared, Start, seated, Hold, Option, node_of_number}
use Rattle.fx_lasting.proofs.{IsSeated, HoldsAt, full_name_in, leaving, file_in, slot_word_in, few_cold, NodeIn}
use Rattle.fx_lasting.specs.holds.Holds.{IsHeldBy, HoldsNameFiles, HoldKeepsNode}
use Rattle.fx_lasting.proofs.WordBounds.{few_takes}

module _ (k : Start) (s : Shared) (r : Agrees k s) where
  pub holds_at : {f : File} {hold : Hold} → IsHeldBy s f hold → HoldsAt k r.phase f hold.node
  holds_at (seat, v, there, holds) = grind arith

  of_slot : (f g : File) (hold : Hold) (slot : ℕ) (file : Option File) → IsHeldBy s f hold → Names r.node_of (slot_word_in s slot) file
      → IsSeated k r.node_of r.phase slot file → full_name_in (slot_word_in s slot) ≡ hold.node + 1 → file ≡ Some g → f ≡ g
  of_slot f g hold slot file held names seat is e = grind (arith, holds_at, seated)

  -- the number of an open file says its node
  pub on_node : (n : ℕ) (f : File) (ph : Phase) → file_in ph ≡ Some f → NodeIn r n ph → node_of_number k f.number ≡ n
  on_node n f ph e o = grind (arith, seated, leaving)

  pub nodes_are_of_one_file : HoldsNameFiles k s r
  nodes_are_of_one_file = record {
    one = λ f g x y a b same. grind (arith, holds_at);
    its_number = λ f hold held. let its = holds_at held in sym (on_node hold.node f _ its.1 (r.nodes.each hold.node its.0));
    there = λ f g hold slot held inside is at. let a = r.slots slot inside in of_slot f g hold slot _ held a.names a.seat is at;
    none = λ f hold held. let its = holds_at held in grind (arith, few_takes, few_cold);
  }

  pub held_nodes_name_files : HoldKeepsNode k s r
  held_nodes_name_files = grind (arith, nodes_are_of_one_file, holds_at)
