-- The kinds of step keep the rule.
use Rattle.std.specs.Prelude.{◌≡◌, ◌==◌, ◌∷◌, ℕ, List, [], Some, None}
use Rattle.fx_baton.specs.Words.{step, Splits, Joins, Allows, Contents, IsTable, Event, Task, Idle}
use Rattle.fx_baton.specs.Words.{Log, View, Start, without_first, first_alone, joined, spent}
use Rattle.fx_baton.specs.Rule.{IsKept, seats, Grabs, PutsBack, IsTurn}
use mathlib.Core.Option.{none}
use prog.Atomic.{either}

abbrev pub SplitsKeep : Type 0
SplitsKeep =
    (k : Start) (id : ℕ) (v : View)
    → v.doing ≡ Idle
    → v.loan ≡ None
    → Splits (IsKept k) id v (without_first seats v) (first_alone seats v)

abbrev pub JoinsKeep : Type 0
JoinsKeep =
    (k : Start) (id : ℕ) (v : View)
    → v.doing ≡ Idle
    → v.loan ≡ None
    → v.start ≡ k
    → (other : ℕ) (w : View)
    → w.doing ≡ Idle
    → w.loan ≡ None
    → Joins (IsKept k) id v other w (joined seats v w) (spent seats)

-- the word is 1 while the table is at home, and becomes 0
abbrev pub GrabsKeep : Type 0
GrabsKeep =
    (k : Start) (id : ℕ) (v : View) (x : Log)
    → v.logs ≡ x ∷ []
    → v.loan ≡ None
    → Allows (IsKept k) 1 id (v, []) 0 (λ n. either (n == 1) 0 n)
    (Grabs (step 1 0 1 0 none) (v, []))

-- the word becomes 1
abbrev pub PutsBackKeep : Type 0
PutsBackKeep =
    (k : Start) (id : ℕ) (v : View) (x : Log)
    → v.logs ≡ x ∷ []
    → (c d : Contents)
    → v.loan ≡ Some c
    → (events : List Event) (doing : Task)
    → IsTable d
    → IsTurn v x c d events doing
    → Allows (IsKept k) 1 id (v, (0, d) ∷ []) 0 (λ _. 1)
    (λ _. PutsBack events doing (step 1 0 1 0 none) (v, (0, d) ∷ []) 1)
