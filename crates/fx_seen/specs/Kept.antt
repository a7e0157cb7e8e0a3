-- The contents of a `Seen`, and when a seat may learn from it.
use Rattle.core.specs.Prelude.{◌≡◌, ℕ, slice_set}
use mathlib.Core.Option.{some}
use lib.ListN.{get_elem?}
use base.Stored.{Gv}
use base.Fml.{Share, Fml, fshr_bor}
use Rattle.atomic_table.specs.Table.{State}
use Rattle.atomic_table.specs.Seated.{TableId, age, seen}

-- a share of the view `v`, which has the number `id` in the table and belongs to no seat
abbrev pub kept : {V : Type 0} → (V → Gv) → TableId → ℕ → V → Share → Fml
kept c z id v q = seen c z.views_name id q v

-- the share is lent to everyone for as long as the table lends its memory
abbrev pub seen_owns : {V : Type 0} → (V → Gv) → TableId → ℕ → V → Fml
seen_owns c z id v = fshr_bor (age z) (kept c z id v)

-- in every state of the table that has the view `v` at the seat `id` and the view `w` at any seat,
-- the seat may get a view `u` that keeps the rule, and `then u` holds
abbrev pub MayLearn : {S V : Type 0} → (State S V → Type 0) → ℕ → V → V → (V → Type 0) → Type 0
MayLearn {S} {V} holds id v w then =
    (s : State S V)
    → holds s
    → get_elem? s.views id ≡ some v
    → (other : ℕ)
    → get_elem? s.views other ≡ some w
    → (u : V)
    × holds record { words = s.words; homes = s.homes; views = slice_set s.views id u }
    × then u
