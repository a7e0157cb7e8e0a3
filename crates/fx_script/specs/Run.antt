-- The input and output of a run.
use Rattle.std.specs.Prelude.{◌≡◌, ◌⊎◌}
use Rattle.fx_script.specs.Words.{ℕ, List, Option, IfSome, Appends, Meaning, IsScript, HasFault}
use Rattle.fx_script.specs.Play.{IsText, IsTextOfFirst}
use Rattle.fx_script.specs.declared.runner.PlayFault.{PlayFault}
use Rattle.fx_script.specs.declared.runner.PlayFault.TheVariants.{Read, Script, Write, NoMemory}

-- the output is one of these texts
abbrev pub Writes : (List ℕ → Type 0) → Option (List ℕ) → Option (List ℕ) → Type 0
Writes IsOne before written = (text : List ℕ) × IsOne text × Appends before written text

-- the reason why a play ended early: a write failed, and how much of the last text was written is
-- unknown; or an allocation failed, and this is known of the output
abbrev pub IsPlayFault : PlayFault → Type 0 → Type 0
IsPlayFault Read known = ⊥
IsPlayFault (Script line kind) known = ⊥
IsPlayFault Write known = Unit {0}
IsPlayFault NoMemory known = known

-- the input is a script with this meaning, if its bytes are known
abbrev pub IsInput : Option (List ℕ) → Meaning → Type 0
IsInput input meaning = IfSome input (λ bytes. IsScript bytes meaning)

-- the reason why an input was not read as a script
abbrev pub IsInputFault : Option (List ℕ) → PlayFault → Type 0
IsInputFault input Read = Unit {0}
IsInputFault input (Script line kind) = IfSome input (λ bytes. HasFault bytes line kind)
IsInputFault input Write = ⊥
IsInputFault input NoMemory = Unit {0}

-- a complete run: the input is a script, and the output is a text that it may print
abbrev pub IsRun : Option (List ℕ) → Option (List ℕ) → Option (List ℕ) → Type 0
IsRun input before written =
    (meaning : Meaning) × IsInput input meaning × Writes (IsText meaning) before written

-- the reason why a run ended early: the input was not read as a script, and nothing was written; or
-- its play ended early
abbrev pub IsRunFault : PlayFault → Option (List ℕ) → Option (List ℕ) → Option (List ℕ) → Type 0
IsRunFault fault input before written =
    (IsInputFault input fault × (written ≡ before))
    ⊎ ((meaning : Meaning) × IsInput input meaning
    × IsPlayFault fault (Writes (IsTextOfFirst meaning) before written))
