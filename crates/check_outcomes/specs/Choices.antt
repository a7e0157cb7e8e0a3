-- The accesses that a request may make next.
use Rattle.std.specs.Prelude.{◌≡◌, ◌∷◌, ◌++◌}
use Rattle.check_outcomes.specs.Words.{ℕ, List, length, Contains, Option, Some, None, FileEntry}
use Rattle.check_outcomes.specs.Words.{Completed, Operation, Place, IsOf, Table, Permits, Access}
use Rattle.fx_chain.specs.declared.intent.Intent.{Intent}
use Rattle.fx_order.specs.Requests.{IsRequestDone}

-- after `made` accesses the request may make this one
abbrev pub IsNextAccess : List FileEntry → ℕ → Place → Operation → ℕ → Access → Type 0
IsNextAccess catalogue size place operation made a =
    (front : List Access) × (behind : List Access) × (c : Completed) × (length front ≡ made)
    × IsRequestDone catalogue size place operation (front ++ a ∷ behind) c

-- the list has each access that the request may make after `made` others and that the table permits
abbrev pub HasEach : List FileEntry → Table → Place → Operation → ℕ → List Access → Type 0
HasEach catalogue table place operation made choices =
    (a : Access) → IsNextAccess catalogue table.size place operation made a → Permits table a
    → Contains choices a

-- an access is intended, and this is it
abbrev pub Intends : Option Intent → Access → Type 0
Intends None a = ⊥
Intends (Some intent) a = IsOf intent a

-- the list has each access that is what was intended, and that the table permits
abbrev pub HasEachOf : Table → Intent → List Access → Type 0
HasEachOf table intent choices =
    (a : Access) → IsOf intent a → Permits table a → Contains choices a
