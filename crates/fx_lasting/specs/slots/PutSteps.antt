-- The kinds of step of a replacement by a key by one pass: it sees whether the slot is cold, takes
-- the slot's file beside the file that it has placed, and puts its own there. Its hold ends then.
use Rattle.std.specs.Prelude.{◌≡◌, ◌≢◌, ◌+◌, ◌-◌, ◌<◌, ◌∷◌, None}
use Rattle.fx_lasting.specs.Words.{ℕ, [], Some, Identity, ◌▷◌, numbered, File, Look, Put, Release}
use Rattle.fx_lasting.specs.Words.{rest, name_in, account, Cold, Hot, Placement, Placing, Renewing}
use Rattle.fx_lasting.specs.slots.SlotAgrees.{Names}
use Rattle.fx_lasting.specs.nodes.Labels.{label_of, as_written}
use Rattle.fx_lasting.specs.Fields.{full_name_in, IsHot}
use Rattle.fx_lasting.specs.Passes.{Sat, HoldsBesides, is_guarding, node_of_number, nodes_of}
use Rattle.fx_lasting.specs.Passes.{range_at_start}
use Rattle.fx_lasting.specs.Effects.{At, Goes, HasItsHold, NamesANode, Sees, Stepped, TakesAs}
use Rattle.fx_lasting.specs.Effects.{as_swapped, leaving_work, pass_in, slot_of}
use Rattle.fx_lasting.specs.declared.view.Glance.TheVariants.{None as Nothing}
use mathlib.Core.Option.{some}
use lib.ListN.{get_elem?}

-- Aim, of a slot's word: what a cold slot names is to be taken, and the node of a hot one is to be
-- announced. An empty slot is looked up at once
pub record Aims (st : At) (m : Sat) (found : ℕ) (m' : Sat) : Type 0 where
  pub empty : full_name_in found ≡ 0
      → Goes m ([] ▷ Look (slot_of st.word) None) m.0.work Nothing m'
  pub cold : full_name_in found ≢ 0 → (IsHot found → ⊥)
      → Goes m [] m.0.work (Cold (slot_of st.word)) m'
  pub hot : (node : ℕ) → full_name_in found ≡ node + 1 → IsHot found
      → Goes m [] m.0.work (Hot (slot_of st.word) node) m' × (node < nodes_of m.0.start)

-- Take, by a pass that has placed a file: it holds the file that the slot names besides
abbrev pub TakesBeside : At → Sat → ℕ → Sat → Type 0
TakesBeside st m found m' = (own : ℕ) (placement : Placement) → m.0.work ≡ Placing own placement
    → TakesAs (Placing own placement) (λ f node. Renewing f node own placement) st m found m'

-- Replace, if the slot's word is the one that the pass saw, by a pass that holds the slot's file:
-- the hold ends with the step, and the removal doesn't count the pass's own take. The file that the
-- pass places is at the slot then; or nothing changed
pub record ReplacesHeld (st : At) (m : Sat) (found : ℕ) (m' : Sat) : Type 0 where
  pub wins : (f : File) (node n lost entry : ℕ) (file : Identity)
      → HoldsBesides m.0.work f node n (as_written lost (label_of file))
      → m.1 ≡ (n, Some file) ∷ []
      → get_elem? (pass_in m).stock entry ≡ some n → found ≡ st.first
      → (number : ℕ) × HasItsHold (is_guarding m.0.work) found
      × Names (node_of_number m.0.start) found (Some f)
      × (node_of_number m.0.start number ≡ n) × NamesANode m.0.start found
      × Stepped (as_swapped entry (name_in found - 1) m)
      ([] ▷ Release f ▷ Put (slot_of st.word) (numbered number file) (Some f))
      (leaving_work m.0.start (is_guarding m.0.work) found f) m.0.glance
      (account (range_at_start m.0.start) (slot_of st.word) (Some f)) m' × (m'.1 ≡ rest m.1)
  pub loses : found ≢ st.first → Sees st m found m'
