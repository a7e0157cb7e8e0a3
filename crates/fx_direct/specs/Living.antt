-- Keys, and the lives under way.
use Rattle.std.specs.Prelude.{◌≡◌, ◌<◌, ◌≤◌, ◌==◌, ◌&&◌}
use Rattle.fx_direct.specs.Words.{ℕ, Bool, List, Option, Some, None, LifeKey, Phase, Slot}
use Rattle.fx_direct.specs.Phases.{Free, Opening, Live, Ending, Closing, Chained, phase_at}
use Rattle.fx_direct.specs.Transitions.{HasLife}
use Rattle.fx_direct.specs.declared.phase.PhaseName.{PhaseName}
use Rattle.fx_direct.specs.declared.phase.PhaseName.TheVariants.{Opening as OpeningName}
use Rattle.fx_direct.specs.declared.phase.PhaseName.TheVariants.{Live as LiveName}
use Rattle.fx_direct.specs.declared.phase.PhaseName.TheVariants.{Ending as EndingName}
use Rattle.fx_direct.specs.declared.phase.PhaseName.TheVariants.{Closing as ClosingName}
use Rattle.fx_direct.specs.declared.phase.PhaseName.TheVariants.{Chained as ChainedName}

abbrev pub same_key : LifeKey → LifeKey → Bool
same_key j k = (j.slot == k.slot) && (j.number == k.number)

-- the name of a phase. A free slot has none
abbrev pub phase_name : Phase → Option PhaseName
phase_name Free = None
phase_name Opening = Some OpeningName
phase_name (Live requests users) = Some LiveName
phase_name (Ending requests users) = Some EndingName
phase_name Closing = Some ClosingName
phase_name (Chained c) = Some ChainedName

-- the slot's life is in a phase of this name
abbrev pub IsNamed : List Slot → PhaseName → ℕ → Type 0
IsNamed slots name slot = phase_name (phase_at slots slot) ≡ Some name

-- the key is that of the first such life from a slot on, or there is none
abbrev pub IsFirstFrom : List Slot → PhaseName → ℕ → Option LifeKey → Type 0
IsFirstFrom slots name from None = (slot : ℕ) → from ≤ slot → IsNamed slots name slot → ⊥
IsFirstFrom slots name from (Some k) =
    HasLife slots k × (from ≤ k.slot) × IsNamed slots name k.slot
    × ((slot : ℕ) → from ≤ slot → slot < k.slot → IsNamed slots name slot → ⊥)
