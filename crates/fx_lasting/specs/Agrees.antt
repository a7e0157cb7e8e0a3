-- The rule of a lasting table: words, places and views agree with the state that one legal history
-- leads to.
use Rattle.std.specs.Prelude.{◌≡◌, ◌<◌}
use Rattle.fx_lasting.specs.Words.{ℕ, List, slice_index, Event, Start}
use Rattle.fx_lasting.specs.range.Groups.{RangeCounts}
use Rattle.fx_lasting.specs.slots.Deeds.{Deed}
use Rattle.fx_lasting.specs.life.Layout.{slot_place}
use Rattle.fx_lasting.specs.Passes.{Shared, slots_of, range_at_start, state_after_all}
use Rattle.fx_lasting.specs.Passes.{node_of_number}
use Rattle.fx_lasting.specs.nodes.Phases.{Phase}
use Rattle.fx_lasting.specs.nodes.NodesAgree.{Nodes, NodesAgree}
use Rattle.fx_lasting.specs.slots.SlotAgrees.{SlotAgrees}
use Rattle.fx_lasting.specs.holds.HoldsAgree.{HoldsAgree}
use Rattle.fx_lasting.specs.life.LifeAgrees.{HasShape, LifeAgrees}

-- holds between any two steps: a record for each machine
pub record Agrees (k : Start) (s : Shared) : Type 0 where
  pub shape : HasShape k s
  pub history : List Event
  pub phase : ℕ → Phase
  -- on which node a number is
  pub node_of : Nodes
  pub numbering : (number : ℕ) → node_of number ≡ node_of_number k number
  -- which node a pass owes a charge to, plus 1, or 0
  pub debt : ℕ → ℕ
  -- by slot and pass, what the pass did there since the slot's word was last swapped
  pub deed : ℕ → ℕ → Deed
  pub nodes : NodesAgree k s history phase node_of debt
  pub slots : (slot : ℕ) → slot < slots_of k
      → SlotAgrees k node_of phase (deed slot) slot ((state_after_all k history).at slot)
      (slice_index s.words (slot_place slot))
  pub holds : HoldsAgree k s history phase debt deed
  pub range : RangeCounts (state_after_all k history).at (range_at_start k) s.views s.words
  pub life : LifeAgrees k s history
