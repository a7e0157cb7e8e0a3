-- The full slots of the allocation range, which words of groups count, and the questions whether
-- all slots are full.
use Rattle.std.specs.Prelude.{◌≡◌, ℕ, ◌+◌, ◌-◌, ◌%◌, ◌^◌, ◌<◌, ◌≤◌, ◌==◌, if◌then◌else◌, Bool, true}
use Rattle.std.specs.Prelude.{List, Contains, Option, is_some, not, IsSome, sum_by, slice_index}
use Rattle.std.specs.Int.{bit_at}
use mathlib.Core.Option.{some}
use lib.ListN.{get_elem?}
use Rattle.fx_plain.specs.declared.event.File.{File}
use Rattle.fx_table.specs.FullSlots.{full_in}
use Rattle.table_range.specs.Groups.{group_place, question_place, groups_in, group_of, group_start}
use Rattle.table_range.specs.Groups.{group_len, is_in}
use Rattle.table_range.specs.declared.questions.TheConstants.{MOST_ASKING}
use Rattle.table_range.specs.declared.views.Change.{Change}
use Rattle.table_range.specs.declared.views.Change.TheVariants.{Outside, Lowered, Inside}
use Rattle.table_range.specs.declared.views.Survey.{Survey}
use Rattle.table_range.specs.declared.views.Survey.TheVariants.{None as NotAsked, Covered}

-- a group's word when one slot was taken off its count, and when one was added
abbrev pub lowered : ℕ → ℕ
lowered word = (word + (2 ^ 64 - 1)) % 2 ^ 64

abbrev pub raised : ℕ → ℕ
raised word = (word + 1) % 2 ^ 64

-- a group's word counts all slots of the group
abbrev pub CountsAll : (len group word : ℕ) → Type 0
CountsAll len group word = word ≡ group_len len group

-- the place of a pass's bit in a word with a bit for each of 64 passes
abbrev pub bit_of : ℕ → ℕ
bit_of pass = (pass - 1) % 64

-- the question word has the bit of the pass
abbrev pub HasQuestionOf : ℕ → ℕ → Type 0
HasQuestionOf word pass = bit_at word (bit_of pass) ≡ 1

-- the question word when a pass has added its bit
abbrev pub with_question : ℕ → ℕ → ℕ
with_question pass word = (word + 2 ^ bit_of pass) % 2 ^ 64

-- 1 for an account on which the group's word counts one full slot too few, and else 0
abbrev pub owing : ℕ → Change → ℕ
owing group Outside = 0
owing group (Lowered g) = if g == group then 1 else 0
owing group (Inside g) = if g == group then 1 else 0

-- the account of a pass that took a slot of the group off the count, or filled it, if it is in the
-- range and was empty
abbrev pub uncounted : Bool → Bool → ℕ → Change
uncounted true true group = Inside group
uncounted _ _ group = Outside

-- the account of a pass that has written the slot's word, in which it found this file
abbrev pub account : ℕ × ℕ → ℕ → Option File → Change
account range slot found = uncounted (is_in range slot) (not (is_some found)) (group_of range slot)

-- the group's word and what passes have still to add are the full slots of the group, modulo 2^64
pub record GroupCounts {V : Type 0} (change : V → Change) (at : ℕ → Option File) (range : ℕ × ℕ)
    (views : List V) (group word : ℕ) : Type 0 where
  pub counts : (word + sum_by (λ v. owing group (change v)) views) % 2 ^ 64
      ≡ full_in at (group_start range group) (group_len range.1 group)

-- the first n groups are full, and no pass may empty a slot of them before it has cleared the
-- question word
pub record AreFull {V : Type 0} (change : V → Change) (at : ℕ → Option File) (range : ℕ × ℕ)
    (views : List V) (n : ℕ) : Type 0 where
  pub full : (slot : ℕ) → range.0 ≤ slot → slot < range.0 + range.1 → group_of range slot < n
      → IsSome (at slot)
  pub calm : (seat : ℕ) (v : V) (group : ℕ) → get_elem? views seat ≡ some v
      → change v ≡ Inside group → n ≤ group

-- what a pass knows whose bit is there
abbrev pub HasVisitedFull : {V : Type 0} → (V → Change) → (ℕ → Option File) → ℕ × ℕ → List V
    → Survey → Type 0
HasVisitedFull change at range views NotAsked = ⊥
HasVisitedFull change at range views (Covered n) = AreFull change at range views n

-- the words of the groups count their full slots, and the groups that a pass has visited since it
-- set its bit are full while the bit is there. A seat's view has the logs of its passes and its
-- account, and a pass's log its number and its survey
pub record RangeCounts {V L : Type 0} (logs : V → List L) (change : V → Change) (number : L → ℕ)
    (asked : L → Survey) (at : ℕ → Option File) (range : ℕ × ℕ) (views : List V)
    (words : List ℕ) : Type 0 where
  pub groups : (group : ℕ) → group < groups_in range.1
      → GroupCounts change at range views group (slice_index words (group_place group))
  pub questions : (seat : ℕ) (v : V) (x : L) → get_elem? views seat ≡ some v
      → Contains (logs v) x → number x ≤ MOST_ASKING
      → HasQuestionOf (slice_index words question_place) (number x)
      → HasVisitedFull change at range views (asked x)
