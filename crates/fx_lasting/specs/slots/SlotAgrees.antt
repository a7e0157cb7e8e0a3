-- The rule of a slot: its word and the file at it.
use Rattle.std.specs.Prelude.{◌≡◌, ◌+◌, ◌<◌, ◌≤◌, None}
use Rattle.fx_lasting.specs.Words.{ℕ, Option, Some, File, entry_in, Start}
use Rattle.fx_lasting.specs.Counts.{tally}
use Rattle.fx_lasting.specs.slots.Deeds.{Deed, has_acted, has_heated}
use Rattle.fx_lasting.specs.Fields.{full_name_in, count_in, heat_in, cold_takes}
use Rattle.fx_lasting.specs.Passes.{nodes_of}
use Rattle.fx_lasting.specs.nodes.Phases.{Phase, seated}
use Rattle.fx_lasting.specs.nodes.NodesAgree.{Nodes}

-- what a slot's word says of the file at the slot
abbrev pub Names : Nodes → ℕ → Option File → Type 0
Names node_of word None = full_name_in word ≡ 0
Names node_of word (Some f) =
    (full_name_in word ≡ node_of f.number + 1) × (entry_in word ≡ f.identity.entry)

-- the node of the file at a slot knows its slot
abbrev pub IsSeated : Start → Nodes → (ℕ → Phase) → ℕ → Option File → Type 0
IsSeated k node_of phase slot None = Unit {0}
IsSeated k node_of phase slot (Some f) =
    (node_of f.number < nodes_of k) × (phase (node_of f.number) ≡ seated slot f)

-- One slot, and its word
pub record SlotAgrees (k : Start) (node_of : Nodes) (phase : ℕ → Phase) (deed : ℕ → Deed)
    (slot : ℕ) (there : Option File) (word : ℕ) : Type 0 where
  pub names : Names node_of word there
  pub seat : IsSeated k node_of phase slot there
  pub takes : count_in word ≤ cold_takes k.passes + tally (λ p. has_acted (deed p)) k.passes
  pub heat : heat_in word ≡ tally (λ p. has_heated (deed p)) k.passes
