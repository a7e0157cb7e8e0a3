-- The kinds of step that empty a slot by an exchange of names: the slot's word names a node of the
-- pass's stock then, and the node that it named takes that node's place in the stock.
use Rattle.std.specs.Prelude.{◌≡◌, ◌≢◌, ◌-◌, None, ℕ, List, [], Option, Some}
use Rattle.fx_lasting.specs.Words.{◌▷◌, File, Release, Take, Adds, no_use, Opening, IsFileRemoval}
use Rattle.fx_lasting.specs.Words.{PassView, Retired, name_in, account, Start}
use Rattle.fx_table.specs.declared.values.Doing.TheVariants.{Idle as DoesNothing}
use Rattle.fx_table.specs.declared.values.Doing.TheVariants.{Retiring as Retires}
use Rattle.fx_lasting.specs.slots.SlotAgrees.{Names}
use Rattle.fx_lasting.specs.Fields.{empty_word_of}
use Rattle.fx_lasting.specs.Passes.{Sat, HoldsAlone, is_guarding, node_of_number, range_at_start}
use Rattle.fx_lasting.specs.Runs.{Runs}
use Rattle.fx_lasting.specs.nodes.Stocks.{IsStockOf}
use Rattle.fx_lasting.specs.Effects.{At, Found, HasItsHold, NamesANode, Sees, Stepped, as_stocked}
use Rattle.fx_lasting.specs.Effects.{as_swapped, leaving_work, pass_in, retiring_work, slot_of}
use mathlib.Core.Option.{some}
use lib.ListN.{get_elem?}

-- Swap, to the word of an empty slot that names a node of the stock
pub record SwapsOut (st : At) (m : Sat) (found : ℕ) (m' : Sat) : Type 0 where
  pub file : Option File
  pub names : Found found file
  pub named : NamesANode m.0.start found
  pub stepped : (n entry : ℕ) → get_elem? (pass_in m).stock entry ≡ some n
      → st.first ≡ empty_word_of n
      → Stepped (as_swapped entry (name_in found - 1) m) ([] ▷ Take (slot_of st.word) file)
      (retiring_work m.0.start found file) m.0.glance
      (account (range_at_start m.0.start) (slot_of st.word) file) m'
  pub carried : m'.1 ≡ m.1

-- Swap, as by `SwapsOut` for a close, by a pass that holds the slot's file, if the slot's word is
-- the one that the pass saw: the hold ends with the step, and the removal doesn't count the pass's
-- own take; or nothing changed
pub record SwapsHeld (st : At) (m : Sat) (found : ℕ) (m' : Sat) : Type 0 where
  pub wins : (f : File) (node n entry : ℕ) → HoldsAlone m.0.work f node
      → get_elem? (pass_in m).stock entry ≡ some n → st.second ≡ empty_word_of n → found ≡ st.first
      → HasItsHold (is_guarding m.0.work) found × Names (node_of_number m.0.start) found (Some f)
      × NamesANode m.0.start found
      × Stepped (as_swapped entry (name_in found - 1) m)
      ([] ▷ Release f ▷ Take (slot_of st.word) (Some f))
      (leaving_work m.0.start (is_guarding m.0.work) found f) m.0.glance
      (account (range_at_start m.0.start) (slot_of st.word) (Some f)) m' × (m'.1 ≡ m.1)
  pub loses : found ≢ st.first → Sees st m found m'

-- And, as by `Removes` for a close, by a pass that holds the slot's file, if the slot's word is the
-- one that the pass saw: the hold ends with the step, and the removal doesn't count the pass's own
-- take; or nothing changed
pub record TakesHeld (st : At) (m : Sat) (found : ℕ) (m' : Sat) : Type 0 where
  pub wins : (f : File) (node : ℕ) → HoldsAlone m.0.work f node → found ≡ st.first
      → HasItsHold (is_guarding m.0.work) found × Names (node_of_number m.0.start) found (Some f)
      × Stepped m ([] ▷ Release f ▷ Take (slot_of st.word) (Some f))
      (leaving_work m.0.start (is_guarding m.0.work) found f) m.0.glance
      (account (range_at_start m.0.start) (slot_of st.word) (Some f)) m' × (m'.1 ≡ m.1)
  pub loses : found ≢ st.first → Sees st m found m'

-- a pass emptied a slot, whose word was this, and has this stock now
pub record HasEmptied (k : Start) (slot found : ℕ) (stock : List ℕ) (m m' : Sat)
    : Type 0 where
  pub file : Option File
  pub names : Found found file
  pub its : IsStockOf k (pass_in m).number stock
  pub runs : Runs (as_stocked stock m) ([] ▷ Take slot file) (retiring_work k found file)
      m.0.glance (account (range_at_start k) slot file) 1 m'

-- a call emptied a slot, and has the file that was there to retire
abbrev pub HasRemoved : Opening → PassView → ℕ → Option Retired → PassView → Type 0
HasRemoved o v slot None w = Adds o v ([] ▷ Take slot None) DoesNothing no_use w
HasRemoved o v slot (Some x) w = (f : File) × IsFileRemoval o f x
    × Adds o v ([] ▷ Take slot (Some f)) (Retires f x) no_use w
