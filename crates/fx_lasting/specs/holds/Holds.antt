-- The node of a hold, and its file.
use Rattle.std.specs.Prelude.{◌≡◌, ◌≢◌, ◌+◌, ◌<◌}
use Rattle.fx_lasting.specs.Words.{ℕ, Some, File, Holding, Hold, Retired, Start, View}
use Rattle.fx_table.specs.declared.values.Doing.TheVariants.{Retiring}
use Rattle.fx_lasting.specs.Agrees.{Agrees}
use Rattle.fx_lasting.specs.Bounds.{slot_word_in, node_word_in}
use Rattle.fx_lasting.specs.Fields.{full_name_in}
use Rattle.fx_lasting.specs.Passes.{Shared, slots_of, node_of_number, state_after_all}
use Rattle.fx_lasting.specs.Tables.{doing_in}
use mathlib.Core.Option.{some}
use lib.ListN.{get_elem?}

-- a pass holds the file by this hold
abbrev pub IsHeldBy : Shared → File → Hold → Type 0
IsHeldBy s f hold = (seat : ℕ) × (v : View) × (get_elem? s.views seat ≡ some v)
    × (doing_in v.work ≡ Holding f hold)

-- a node is that of one file while the file is held
pub record HoldsNameFiles (k : Start) (s : Shared) (r : Agrees k s) : Type 0 where
  -- holds of one node are of one file
  pub one : (f g : File) (x y : Hold) → IsHeldBy s f x → IsHeldBy s g y → x.node ≡ y.node → f ≡ g
  -- the file's number says the node
  pub its_number : (f : File) (hold : Hold) → IsHeldBy s f hold
      → hold.node ≡ node_of_number k f.number
  -- it is the file of the slot whose word names the node
  pub there : (f g : File) (hold : Hold) (slot : ℕ) → IsHeldBy s f hold → slot < slots_of k
      → full_name_in (slot_word_in s slot) ≡ hold.node + 1
      → (state_after_all k r.history).at slot ≡ Some g → f ≡ g
  -- a node whose word is 0 is that of no file which is held
  pub none : (f : File) (hold : Hold) → IsHeldBy s f hold → node_word_in k s hold.node ≢ 0

abbrev pub NodesAreOfOneFile : Type 0
NodesAreOfOneFile = (k : Start) (s : Shared) (r : Agrees k s) → HoldsNameFiles k s r

-- a pass has the file to retire, by this value
abbrev pub HasToRetire : Shared → File → Retired → Type 0
HasToRetire s f retired = (seat : ℕ) × (v : View) × (get_elem? s.views seat ≡ some v)
    × (doing_in v.work ≡ Retiring f retired)

-- while a pass holds a file, no other file is on its node
pub record HoldKeepsNode (k : Start) (s : Shared) (r : Agrees k s) : Type 0 where
  -- none at a slot
  pub at_slot : (f g : File) (hold : Hold) (slot : ℕ) → IsHeldBy s f hold → slot < slots_of k
      → (state_after_all k r.history).at slot ≡ Some g → node_of_number k g.number ≡ hold.node
      → f ≡ g
  -- none that another pass has to retire
  pub removed : (f g : File) (hold : Hold) (retired : Retired) → IsHeldBy s f hold
      → HasToRetire s g retired → hold.node ≡ retired.node → f ≡ g

abbrev pub HeldNodesNameFiles : Type 0
HeldNodesNameFiles = (k : Start) (s : Shared) (r : Agrees k s) → HoldKeepsNode k s r
