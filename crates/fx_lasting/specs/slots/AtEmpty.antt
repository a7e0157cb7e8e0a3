-- The call that installs a file at a slot if it is empty, and the search for one.
use Rattle.std.specs.Prelude.{◌≡◌, ◌≤◌, ◌⊎◌, None, ℕ, Bool, true, false, List, [], Option, Some}
use Rattle.fx_lasting.specs.Words.{Identity, ◌▷◌, IsSeenBy, Event, Allocate, File, Adds, IsNewFile}
use Rattle.fx_lasting.specs.Words.{no_use, one_number, PassView, TriedPut, At, LastingPass, Start}
use Rattle.fx_plain.specs.declared.event.Action.TheVariants.{Full}
use Rattle.fx_table.specs.declared.values.Doing.TheVariants.{Idle as DoesNothing}
use Rattle.fx_lasting.specs.Ends.{Does}
use Rattle.fx_lasting.specs.slots.ByNode.{WasSo, HasMet, WasOvertaken, WasOvertakenIn}
use Rattle.fx_lasting.specs.Passes.{Sat}
use Rattle.fx_lasting.specs.slots.Watches.{HasReplaced}
use Rattle.fx_lasting.specs.Tables.{opening_of, view_of, changes_at}
use Rattle.fx_lasting.specs.Effects.{pass_in, HasGap, MeetsOne}
use Rattle.fx_lasting.specs.Laws.{IsInRange}
use Rattle.fx_lasting.specs.declared.answers.FoundSlot.{FoundSlot}
use Rattle.fx_lasting.specs.declared.answers.PutEmpty.{PutEmpty}
use Rattle.fx_lasting.specs.declared.tried.TriedPut.TheVariants.{Full as AllFull, Again}
use Rattle.fx_lasting.specs.declared.answers.FoundSlot.TheVariants as found
use Rattle.fx_lasting.specs.declared.answers.PutEmpty.TheVariants as empty

-- a slot with this content has a file, or has none
abbrev pub FitsSight : Bool → Option File → Type 0
FitsSight true there = (f : File) × (there ≡ Some f)
FitsSight false there = there ≡ None

-- a pass that read whether a slot has a file
abbrev pub SeesFile : Start → ℕ → Sat → Bool → Sat → Type 0
SeesFile k slot m full m' = WasSo k slot (FitsSight full) (pass_in m).front (pass_in m').front
    × Does m [] m.0.work 1 m'

-- nothing was done; the slot had a file, or had none, at a moment of the call
pub record PutsNothing (k : Start) (v : PassView) (slot : ℕ) (full : Bool) (w : PassView)
    : Type 0 where
  pub was : WasSo k slot (FitsSight full) v.front w.front
  pub adds : Adds (opening_of k) v [] DoesNothing no_use w

-- during a call another pass filled the slot or emptied it, or the pass found its word changed
pub record WasLost (k : Start) (slot : ℕ) (p p' : LastingPass) : Type 0 where
  pub changes : changes_at slot p ≤ changes_at slot p'
  pub overtaken : HasReplaced slot (view_of p).number (view_of p).front (view_of p').front
      ⊎ WasOvertaken k slot p p'

-- the file was installed at a slot of the range that was empty, or comes back. It comes back from a
-- slot that was empty only if another pass changed the slot's word during the call
abbrev pub HasPutEmpty : Start → LastingPass → ℕ → Identity → PutEmpty → LastingPass → Type 0
HasPutEmpty k p slot file empty.Installed p' = (new : File)
    × IsNewFile (opening_of k) (view_of p) file new
    × Adds (opening_of k) (view_of p) ([] ▷ Allocate slot new) DoesNothing one_number (view_of p')
HasPutEmpty k p slot file (empty.Stale back) p' =
    (back ≡ file) × PutsNothing k (view_of p) slot true (view_of p')
HasPutEmpty k p slot file (empty.Again back) p' =
    (back ≡ file) × PutsNothing k (view_of p) slot false (view_of p') × WasLost k slot p p'

-- a slot of the range was empty after what was seen before, and within what is seen after
pub record HadGap (k : Start) (before after : List Event) : Type 0 where
  pub history : List Event
  pub later : IsSeenBy before history
  pub seen : IsSeenBy history after
  pub gap : HasGap k history

-- at a moment of the call a slot of the range was empty, or the pass met another one in the middle
-- of a call
abbrev pub FellShort : Start → LastingPass → LastingPass → Type 0
FellShort k p p' = HadGap k (view_of p).front (view_of p').front ⊎ HasMet k p p'

-- the slot had a file at a moment of the call, and none at a later one: since the pass of the call
-- did nothing, another one emptied the slot
pub record WasEmptied (k : Start) (slot : ℕ) (before after : List Event) : Type 0 where
  pub between : List Event
  pub full : WasSo k slot (FitsSight true) before between
  pub empty : WasSo k slot (FitsSight false) between after

-- during the call another pass emptied a slot of the range, or was met in the middle of a call
abbrev pub SawEmptying : Start → LastingPass → LastingPass → Type 0
SawEmptying k p p' = ((slot : ℕ) × IsInRange k slot
    × WasEmptied k slot (view_of p).front (view_of p').front) ⊎ HasMet k p p'

-- a slot of the range was empty at a moment of the call, during which another pass was there
abbrev pub LostSlot : Start → LastingPass → LastingPass → Type 0
LostSlot k p p' = (slot : ℕ) × IsInRange k slot
    × WasSo k slot (FitsSight false) (view_of p).front (view_of p').front × WasOvertaken k slot p p'

-- why a try over the range ends without a slot, though the range isn't full
abbrev pub GivesUp : Start → LastingPass → LastingPass → Type 0
GivesUp k p p' = SawEmptying k p p' ⊎ LostSlot k p p'

-- some steps after which the range wasn't seen to be full
abbrev pub FallsShort : Start → Sat → Sat → Type 0
FallsShort k m m' = HadGap k (pass_in m).front (pass_in m').front ⊎ MeetsOne m m'

-- why a slot that was seen to be empty doesn't get the file: it has one, or another pass was there
abbrev pub FailsToFill : Start → Sat → Sat → ℕ → Type 0
FailsToFill k m m' slot =
    WasSo k slot (FitsSight true) (pass_in m).front (pass_in m').front ⊎ WasOvertakenIn slot m m'

-- a try over the range that found no slot, and not that all are full
abbrev pub GivesUpFor : Start → LastingPass → TriedPut → LastingPass → Type 0
GivesUpFor k p (At slot) p' = Unit {0}
GivesUpFor k p (AllFull back) p' = Unit {0}
GivesUpFor k p (Again back) p' = GivesUp k p p'

-- a pass that looked for a slot without a file
abbrev pub LooksFor : Start → (most : ℕ) → Sat → Option ℕ → Sat → Type 0
LooksFor k most m (Some slot) m' = IsInRange k slot
    × WasSo k slot (FitsSight false) (pass_in m).front (pass_in m').front
    × Does m [] m.0.work most m'
LooksFor k most m None m' = Does m [] m.0.work most m'

-- a slot of the range was empty at a moment of the call; or all had a file; or neither was found,
-- and nothing was done
abbrev pub HasSearched : Start → LastingPass → FoundSlot → LastingPass → Type 0
HasSearched k p (found.At slot) p' =
    IsInRange k slot × PutsNothing k (view_of p) slot false (view_of p')
HasSearched k p found.Full p' =
    Adds (opening_of k) (view_of p) ([] ▷ Full) DoesNothing no_use (view_of p')
HasSearched k p found.Again p' =
    Adds (opening_of k) (view_of p) [] DoesNothing no_use (view_of p') × SawEmptying k p p'
