-- The files of a table, without their numbers, and how they change.
use Rattle.std.specs.Prelude.{◌≡◌, ℕ, ◌+◌, ◌<◌, ◌≤◌, Bool, true, ℤ, List, [], ◌++◌, length, Option}
use Rattle.std.specs.Prelude.{Some, None}
use Rattle.std.specs.Option.{option_to_list}
use Rattle.fx_base.specs.CloseListView.{CloseListView}
use Rattle.fx_base.specs.declared.mark.Mark.TheVariants.{Registered}
use Rattle.fx_base.specs.Identity.{Identity}
use Rattle.fx_base.specs.declared.open_file.Closed.{Closed}
use Rattle.fx_plain.specs.declared.event.Action.{Action}
use Rattle.fx_plain.specs.State.{State, IsSettled}
use Rattle.fx_plain.specs.Step.{changed_at}
use Rattle.fx_plain.specs.History.{close_of}
use Rattle.fx_plain.specs.Table.{identity_of}
use Rattle.fx_ring.specs.Registration.{file_after, files_after, removed_by_number, removed_from}

-- the file at each slot, its number aside
abbrev pub files_at : State → ℕ → Option Identity
files_at st slot = identity_of (st.at slot)

-- these numbers are fresh
abbrev pub AreFresh : State → ℕ → ℕ → Type 0
AreFresh st first last = (number : ℕ) → first ≤ number → number < last → st.fresh number ≡ true

-- the slots have these files now, and the files that were removed are closed; size and range stay
pub record SetsFiles (old new : State) (files : ℕ → Option Identity) (removed : List Closed)
    (before after : CloseListView) : Type 0 where
  pub size : new.size ≡ old.size
  pub range : new.range ≡ old.range
  pub at_slots : files_at new ≡ files
  pub settled : IsSettled new
  pub closed : after.files ≡ before.files ++ removed
  pub room : after.room + length removed ≡ before.room

-- one slot has this file now, or none, and the file that was there is closed
abbrev pub SetsSlot : State → State → ℕ → Option Identity → CloseListView → CloseListView → Type 0
SetsSlot old new slot file before after =
    SetsFiles old new (changed_at (files_at old) slot file)
    (option_to_list (files_at old slot)) before after

-- the number at place i of the k-th list was applied with its tag
abbrev pub SetsNumber : ℕ → ℕ → ℕ → ℕ → ℤ → State → State → CloseListView → CloseListView
    → Type 0
SetsNumber k off i tag z old new before after =
    let was = files_at old (off + i) in
    SetsFiles old new (changed_at (files_at old) (off + i) (file_after (Registered k i) tag z was))
    (removed_by_number z was) before after

-- the k-th list was applied with its tags, from a slot on
abbrev pub SetsList : ℕ → ℕ → List ℤ → List ℕ → State → State → CloseListView → CloseListView
    → Type 0
SetsList k off list tags old new before after =
    SetsFiles old new (files_after k (files_at old) off list tags)
    (removed_from (files_at old) off list) before after

-- the removed file of a number, its number aside
abbrev pub file_removed : State → Option ℕ → Option Identity
file_removed st None = None
file_removed st (Some number) = identity_of (st.removed number)

-- the close of the removed file of a number
abbrev pub closes_of_removed : State → Option ℕ → List Action
closes_of_removed st None = []
closes_of_removed st (Some number) = close_of (st.removed number)

-- the file of the number is leaving, and nobody holds it
abbrev pub CanRetire : (ℕ → Bool) → State → Option ℕ → Type 0
CanRetire leaving st None = Unit {0}
CanRetire leaving st (Some number) = (leaving number ≡ true) × (st.holds number ≡ 0)
