-- The number of look-ups in a history.
use Rattle.std.specs.Prelude.{◌+◌, ◌∷◌}
use Rattle.fx_counted.specs.Words.{ℕ, List, [], Some, Event, Action, Look}
use Rattle.fx_plain.specs.Step.{changed_at}

-- by number, the look-ups that found its file, after one more action
abbrev pub looks_after : (ℕ → ℕ) → Action → ℕ → ℕ
looks_after looks (Look slot (Some f)) = changed_at looks f.number (looks f.number + 1)
looks_after looks _ = looks

-- by number, the look-ups that found its file
abbrev pub looks : List Event → ℕ → ℕ
looks [] = λ _. 0
looks (e ∷ h) = looks_after (looks h) e.action

-- 1 for a look-up, otherwise 0
abbrev pub look_in : Action → ℕ
look_in (Look slot found) = 1
look_in _ = 0

-- all look-ups, including those of empty slots
abbrev pub all_looks : List Event → ℕ
all_looks [] = 0
all_looks (e ∷ h) = all_looks h + look_in e.action
