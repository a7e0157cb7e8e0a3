-- The removal by a key that one pass makes: the pass holds the file of the key, and its hold ends
-- with the step that empties the slot.
use Rattle.std.specs.Prelude.{◌≡◌, ◌+◌, ◌⊎◌, None, ℕ, List, [], Option, Some, Result, Ok, Err}
use Rattle.fx_lasting.specs.Words.{Identity, ◌▷◌, Release, Take, File, Adds, no_use, PassView}
use Rattle.fx_lasting.specs.Words.{IsFileRemoval, Holding, Hold, Retired, Miss, Key, KeyFault}
use Rattle.fx_lasting.specs.Words.{LastingPass, Outside, Start}
use Rattle.fx_table.specs.declared.values.Doing.TheVariants.{Retiring as Retires}
use Rattle.fx_lasting.specs.slots.SlotAgrees.{Names}
use Rattle.fx_lasting.specs.Ends.{Does}
use Rattle.fx_lasting.specs.slots.ByNode.{FailedIf, FitsMiss, WasSo}
use Rattle.fx_lasting.specs.slots.ByKey.{HeldByKey, HoldsAtKey, IsKeyOf, LookedByKey, TriesKey}
use Rattle.fx_lasting.specs.slots.ByKey.{fault_for}
use Rattle.fx_lasting.specs.Fields.{full_name_in}
use Rattle.fx_lasting.specs.Passes.{Sat, HoldsAlone, is_guarding, node_of_number}
use Rattle.fx_lasting.specs.Runs.{Runs}
use Rattle.fx_lasting.specs.nodes.Stocks.{IsStockOf}
use Rattle.fx_lasting.specs.Tables.{opening_of, view_of}
use Rattle.fx_lasting.specs.Effects.{HasItsHold, as_stocked, leaving_work, pass_in}

-- a pass that holds a file, and tried to empty a slot whose word named the file's node. It has this
-- stock now
abbrev pub TriedOutHeld : Start → (slot node : ℕ) → List ℕ → Sat → Result ℕ Miss → Sat → Type 0
TriedOutHeld k slot node stock m (Ok word) m' = (f : File) × HoldsAlone m.0.work f node
    × (full_name_in word ≡ node + 1) × Names (node_of_number k) word (Some f)
    × HasItsHold (is_guarding m.0.work) word × IsStockOf k (pass_in m).number stock
    × Runs (as_stocked stock m) ([] ▷ Release f ▷ Take slot (Some f))
    (leaving_work k (is_guarding m.0.work) word f) m.0.glance Outside 4 m'
TriedOutHeld k slot node stock m (Err miss) m' = FailedIf k slot node miss m m'
    × Does m [] m.0.work 4 m' × (stock ≡ (pass_in m).stock)

-- the file that the pass held was removed from the slot, and the hold ended; or the slot was left
-- as it is, and the pass holds the file still
abbrev pub HasTakenHeld : Start → PassView → ℕ → Hold → Result Retired Miss → PassView → Type 0
HasTakenHeld k v slot hold (Ok x) w = (f : File) × (v.doing ≡ Holding f hold)
    × IsFileRemoval (opening_of k) f x
    × Adds (opening_of k) v ([] ▷ Release f ▷ Take slot (Some f)) (Retires f x) no_use w
HasTakenHeld k v slot hold (Err miss) w = (f : File) × (v.doing ≡ Holding f hold)
    × WasSo k slot (FitsMiss k hold.node miss) v.front w.front
    × Adds (opening_of k) v [] (Holding f hold) no_use w

-- the pass looked the file of the key up, and removed the file that it held
pub record RemovesAlone (k : Start) (p : LastingPass) (key : Key) (x : Retired)
    (freed released : Option Identity) (p' : LastingPass) : Type 0 where
  pub file : File
  pub hold : Hold
  pub between : PassView
  pub its_key : IsKeyOf key file
  pub held : HoldsAtKey k (view_of p) key file hold freed between
  pub removal : IsFileRemoval (opening_of k) file x
  pub adds : Adds (opening_of k) between ([] ▷ Release file ▷ Take key.slot (Some file))
      (Retires file x) no_use (view_of p')
  pub released_none : released ≡ None

-- the pass held the file of the key, and released it: after its look-up the slot was empty; or had
-- a file on another node; or, for `Again`, had the file, and the slot's word changed
pub record LeftAlone (k : Start) (p : LastingPass) (key : Key) (fault : KeyFault)
    (freed released : Option Identity) (p' : LastingPass) : Type 0 where
  pub hold : Hold
  pub holder : HeldByKey k (view_of p) key hold freed released (view_of p')
  pub miss : Miss
  pub same : fault ≡ fault_for miss
  pub was : WasSo k key.slot (FitsMiss k hold.node miss) holder.between.front (view_of p').front
  pub tries : TriesKey k (view_of p) key fault freed p p'

-- a removal by a key by one pass
abbrev pub TakesAlone : Start → LastingPass → Key → Result Retired KeyFault
    → (freed released : Option Identity) → LastingPass → Type 0
TakesAlone k p key (Ok x) freed released p' = RemovesAlone k p key x freed released p'
TakesAlone k p key (Err fault) freed released p' =
    LookedByKey k (view_of p) key (Err fault) freed released (view_of p')
    ⊎ LeftAlone k p key fault freed released p'
