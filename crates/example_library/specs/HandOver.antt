-- A file that one thread puts and another thread finds.
use Rattle.std.specs.Prelude.{◌≡◌, ◌⊎◌, ℕ, List, Contains, Option, Some, option_map}
use Rattle.fx_plain.specs.History.{◌▷◌, ◌▷▷◌}
use Rattle.fx_plain.specs.declared.event.Action.TheVariants.{Look}
use Rattle.fx_plain.specs.declared.event.Event.{Event}
use Rattle.fx_plain.specs.declared.event.File.{File}
use Rattle.fx_table.specs.Finding.{LeavesAt, AllKeepSlot}

-- in this history a file of the entry was put at the slot
pub record HasPut (slot entry : ℕ) (history : List Event) : Type 0 where
  pub before : List Event
  pub put : Event
  pub new : File
  pub since : List Event
  pub whole : history ≡ before ▷ put ▷▷ since
  pub leaves : LeavesAt slot (Some new) put.action
  pub its_entry : new.identity.entry ≡ entry

-- the entry of the file that a look-up saw, if it saw one
abbrev pub entry_seen : Option File → Option ℕ
entry_seen seen = option_map (λ file. file.identity.entry) seen

-- in this history a file of the entry was put at the slot, and then a look-up of the slot saw the
-- file whose entry is `found`, or none: the one that the put or a later change left there, so that
-- entry if no action between changes the slot
pub record FindsThePut (slot entry : ℕ) (found : Option ℕ) (history : List Event) : Type 0 where
  pub before : List Event
  pub put : Event
  pub new : File
  pub since : List Event
  pub look : Event
  pub seen : Option File
  pub later : List Event
  pub whole : history ≡ before ▷ put ▷▷ since ▷ look ▷▷ later
  pub leaves : LeavesAt slot (Some new) put.action
  pub its_entry : new.identity.entry ≡ entry
  pub looks : look.action ≡ Look slot seen
  pub is : found ≡ entry_seen seen
  pub left : (seen ≡ Some new) ⊎ ((change : Event) × Contains since change
      × LeavesAt slot seen change.action)
  pub finds : AllKeepSlot slot since → found ≡ Some entry
