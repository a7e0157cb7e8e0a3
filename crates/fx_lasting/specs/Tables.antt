-- A lasting table and its passes, as their callers see them.
use Rattle.std.specs.Prelude.{◌≡◌, ◌+◌, ◌<◌, ◌≤◌, ◌^◌, ◌⊎◌, if◌then◌else◌}
use Rattle.fx_lasting.specs.Words.{ℕ, nat_lt, Bool, true, false, List, [], map, TableId}
use Rattle.fx_lasting.specs.Words.{part_of_pass, File, Opening, lasting_opening, PassView, IsFront}
use Rattle.fx_lasting.specs.Words.{new_passes, Holding, Hold, Retired, groups_in, Covered, Outside}
use Rattle.fx_lasting.specs.Words.{Start, View, Work, Searching, Counted, Guarded, Renewing}
use Rattle.fx_lasting.specs.Words.{Relieving, Keeping, LastingPass}
use Rattle.fx_table.specs.declared.limits.TheConstants.{CHAIN_NUMBERS, PASS_LOOKS}
use Rattle.fx_table.specs.declared.values.Doing.{Doing}
use Rattle.fx_table.specs.declared.values.Doing.TheVariants.{Idle as DoesNothing}
use Rattle.fx_table.specs.declared.values.Doing.TheVariants.{Retiring as Retires}
use Rattle.fx_lasting.specs.AtWork.{IsAtWork}
use Rattle.fx_lasting.specs.Passes.{contents_of, first_log, range_at_start}
use Rattle.fx_lasting.specs.Effects.{changes_in, pass_in, new_round}
use Rattle.fx_lasting.specs.declared.view.Glance.TheVariants.{None as Nothing}
use Rattle.fx_lasting.specs.declared.view.Work.TheVariants.{Idle, Retiring}
use Rattle.fx_lasting.specs.declared.table.LastingTable.{LastingTable}
use mathlib.Core.Option.{some}
use lib.ListN.{get_elem?}

-- the values that calls return for the file of a node
abbrev pub hold_at : File → ℕ → Hold
hold_at f node = record { node = node; entry = f.identity.entry }

abbrev pub retired_at : File → ℕ → ℕ → Retired
retired_at f node takes = record { node = node; entry = f.identity.entry; takes = takes }

-- the activity of a pass with this work, as the contract of all shared tables shows it
abbrev pub doing_in : Work → Doing
doing_in (Counted f node) = Holding f (hold_at f node)
doing_in (Guarded f node) = Holding f (hold_at f node)
doing_in (Renewing f node own placement) = Holding f (hold_at f node)
doing_in (Relieving f node own placement) = Holding f (hold_at f node)
doing_in (Retiring f node takes round charges) = Retires f (retired_at f node takes)
doing_in _ = DoesNothing

-- the files that a pass can install, if those from 1 to `installing` install: none, or always as
-- many as before
abbrev pub numbers_of_pass : ℕ → ℕ → ℕ
numbers_of_pass installing number = if nat_lt installing number then 0 else CHAIN_NUMBERS

-- a new pass of a lasting table
abbrev pub as_first : ℕ → PassView → PassView
as_first installing v = record v { numbers_left = numbers_of_pass installing v.number }

-- the passes of a table that was just opened
abbrev pub first_passes : ℕ → ℕ → List PassView
first_passes installing passes = map (as_first installing) (new_passes passes)

-- the pass of a seat, as that contract shows it
abbrev pub pass_of : View → PassView
pass_of v = let x = first_log v.logs in record {
  number = x.number;
  front = x.front;
  own = part_of_pass x.number x.front;
  chain = 0;
  drawn = [];
  no_chains_left = false;
  numbers_left = numbers_of_pass v.start.installing x.number;
  looks_left = PASS_LOOKS;
  doing = doing_in v.work;
}

abbrev pub opening_of : Start → Opening
opening_of k = lasting_opening (contents_of k) k.passes

abbrev pub view_of : LastingPass → PassView
view_of p = pass_of p.seat.me.0

-- the number of atomic steps that the pass has made
abbrev pub steps_taken : LastingPass → ℕ
steps_taken p = (first_log p.seat.me.0.logs).steps

-- the number of the pass's steps that met another pass in the middle of a call
abbrev pub meetings : LastingPass → ℕ
meetings p = (first_log p.seat.me.0.logs).watch.met

-- how many times the pass found the slot's word changed
abbrev pub changes_at : ℕ → LastingPass → ℕ
changes_at slot p = changes_in slot (first_log p.seat.me.0.logs)

-- after a call the pass has met others, and found words changed, at least as often as before
abbrev pub MeetsMore : LastingPass → LastingPass → Type 0
MeetsMore p p' = (meetings p ≤ meetings p') × ((slot : ℕ) → changes_at slot p ≤ changes_at slot p')

-- between two calls a pass is idle, maybe with a free node that it found, or keeps the node at its
-- next entry, holds a file by a take or by its hold word, or has one to retire and has visited no
-- hold word yet; its fields say which
module _ (passes : ℕ) (idle guarded keeps : Bool) (visit : ℕ) (stock : List ℕ) (entry : ℕ) where
  abbrev pub IsBetweenCalls : Work → Type 0
  IsBetweenCalls Idle = (idle ≡ true) × (keeps ≡ false)
  IsBetweenCalls (Searching node) = (idle ≡ true) × (keeps ≡ false)
  IsBetweenCalls (Keeping node lost) =
      (idle ≡ true) × (keeps ≡ true) × (get_elem? stock entry ≡ some node)
  IsBetweenCalls (Counted f node) = (idle ≡ false) × (keeps ≡ false) × (guarded ≡ false)
  IsBetweenCalls (Guarded f node) = (idle ≡ false) × (keeps ≡ false) × (guarded ≡ true)
  IsBetweenCalls (Retiring f node takes round charges) = (idle ≡ false) × (keeps ≡ false)
      × (round ≡ new_round visit) × (charges ≡ 0) × (takes < 2 ^ 20)
      × ((visit ≡ 1) ⊎ (visit ≡ passes + 1))
  IsBetweenCalls _ = ⊥

-- the fields of the pass say so of this work
abbrev pub Knows : ℕ → LastingPass → Work → Type 0
Knows passes p w = IsBetweenCalls passes p.idle p.guarded p.keeps p.next_visit p.stock.items
    p.next_entry w

-- a seat of the table, with one pass that has no place, and on whose account no group's word counts
-- a slot too few
pub record IsSeatOf (id : TableId) (k : Start) (p : LastingPass) : Type 0 where
  pub table : p.seat.table_id ≡ id
  pub places : p.seat.me.1 ≡ []
  pub at : IsAtWork k p.number p.seat.me
  pub change : p.seat.me.0.change ≡ Outside
  pub stock : p.stock.items ≡ (pass_in p.seat.me).stock
  pub next : p.number ≤ k.installing → p.next_entry < k.passes
  pub listed : p.listed ≡ (pass_in p.seat.me).listed
  -- a pass that is sure has visited all groups
  pub sure : p.sure ≡ true → (pass_in p.seat.me).asked ≡ Covered (groups_in (range_at_start k).1)

-- a pass of a table with this start
pub record IsPassOf (id : TableId) (k : Start) (p : LastingPass) : Type 0 where
  pub seated : IsSeatOf id k p
  pub calm : p.seat.me.0.glance ≡ Nothing
  pub knows : Knows k.passes p p.seat.me.0.work
  pub front : IsFront (opening_of k) (pass_of p.seat.me.0)

-- the opening of the table
abbrev pub opening_of_table : LastingTable → Opening
opening_of_table t = opening_of t.table.shared.key

-- the pass is one of the table
abbrev pub IsPassOfTable : LastingTable → LastingPass → Type 0
IsPassOfTable t p = IsPassOf t.table.shared.table_id t.table.shared.key p

abbrev pub IsSeatOfTable : LastingTable → LastingPass → Type 0
IsSeatOfTable t p = IsSeatOf t.table.shared.table_id t.table.shared.key p
