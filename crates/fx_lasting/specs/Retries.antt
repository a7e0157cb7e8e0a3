-- Calls that a pass makes again, since another pass changed the slot.
use Rattle.std.specs.Prelude.{◌≡◌, ◌+◌, ◌<◌, ◌≤◌, ◌⊎◌, ◌==◌, ◌&&◌, ◌∷◌}
use Rattle.fx_lasting.specs.Words.{ℕ, zero, suc, not, Bool, false, Option, Err, List, [], length}
use Rattle.fx_lasting.specs.Words.{count_by, Identity, IsSeenBy, Action, Put, Clear, Take, Allocate}
use Rattle.fx_lasting.specs.Words.{Event, Key, Missed, LastingPass, Start}
use Rattle.fx_lasting.specs.Laws.{IsInRange}
use Rattle.fx_lasting.specs.Passes.{range_at_start}
use Rattle.fx_lasting.specs.Tables.{opening_of, view_of, changes_at, meetings, MeetsMore}
use Rattle.fx_lasting.specs.range.Tries.{TriedSo}
use Rattle.fx_lasting.specs.slots.RemoveByKey.{TakesAlone}
use Rattle.fx_lasting.specs.slots.AtEmpty.{GivesUpFor, HasPutEmpty, HasSearched}
use Rattle.fx_lasting.specs.slots.ReplaceByKey.{PutsAlone}
use Rattle.fx_lasting.specs.slots.Watches.{HasReplaced}
use Rattle.fx_lasting.specs.declared.key_answers.KeyFault.TheVariants.{Again}
use Rattle.fx_lasting.specs.declared.answers.FoundSlot.TheVariants as found
use Rattle.fx_lasting.specs.declared.answers.PutEmpty.TheVariants as empty
use Rattle.fx_lasting.specs.declared.tried.TriedPut.TheVariants as put

-- the action fills the slot or empties it
abbrev pub replaces_at : ℕ → Action → Bool
replaces_at slot (Put s new found) = s == slot
replaces_at slot (Clear s found) = s == slot
replaces_at slot (Take s found) = s == slot
replaces_at slot (Allocate s new) = s == slot
replaces_at slot _ = false

-- the number of events with which other passes than this one filled the slot or emptied it
abbrev pub replaced_at : (slot number : ℕ) → List Event → ℕ
replaced_at slot number h =
    count_by (λ e. not (e.pass == number) && replaces_at slot e.action) h

-- the changes of others at the slot that the pass knows: it has seen the event, or has found the
-- slot's word changed. A look-up of a hot slot or of an empty one doesn't count
abbrev pub changes_known : (slot number : ℕ) → LastingPass → ℕ
changes_known slot number p = replaced_at slot number (view_of p).front + changes_at slot p

-- a call of a pass: the pass before it and after it
pub record Try : Type 0 where
  pub before : LastingPass
  pub after : LastingPass

-- a pass goes on: it has seen what it had seen, and found what it had found
abbrev pub GoesOn : ℕ → LastingPass → LastingPass → Type 0
GoesOn slot p p' = IsSeenBy (view_of p).front (view_of p').front
    × (changes_at slot p ≤ changes_at slot p')

-- a call of the pass of this number was overtaken at the slot: another pass filled the slot or
-- emptied it, or the pass found its word changed
pub record IsOvertakenTry (slot number : ℕ) (try : Try) : Type 0 where
  pub its_number : (view_of try.before).number ≡ number
  pub goes_on : GoesOn slot try.before try.after
  pub overtaken : HasReplaced slot number (view_of try.before).front (view_of try.after).front
      ⊎ (changes_at slot try.before < changes_at slot try.after)

-- calls of the pass, one after another, each of which was overtaken at the slot. Before them, after
-- them and between two of them the pass may make others
abbrev pub AllOvertaken : (slot number : ℕ) → LastingPass → List Try → LastingPass → Type 0
AllOvertaken slot number first [] last = GoesOn slot first last
AllOvertaken slot number first (try ∷ tries) last = GoesOn slot first try.before
    × IsOvertakenTry slot number try × AllOvertaken slot number try.after tries last

-- they are at most as many as the changes of others at the slot that the pass has learned of
abbrev pub EachHasItsChange : Type 0
EachHasItsChange =
    (slot number : ℕ) (first : LastingPass) (tries : List Try) (last : LastingPass)
    → AllOvertaken slot number first tries last
    → length tries + changes_known slot number first ≤ changes_known slot number last

-- an installation that lost an empty slot is such a call
abbrev pub LostCallsAreOvertaken : Type 0
LostCallsAreOvertaken = (k : Start) (p p' : LastingPass) (slot : ℕ) (file back : Identity)
    → HasPutEmpty k p slot file (empty.Again back) p'
    → IsOvertakenTry slot (view_of p).number (record { before = p; after = p' })

-- so is a removal by key that returns `Again`
abbrev pub RemovalsAreOvertaken : Type 0
RemovalsAreOvertaken = (k : Start) (p p' : LastingPass) (key : Key)
    (freed released : Option Identity)
    → TakesAlone k p key (Err Again) freed released p'
    → IsOvertakenTry key.slot (view_of p).number (record { before = p; after = p' })

-- and a replacement by key
abbrev pub ReplacementsAreOvertaken : Type 0
ReplacementsAreOvertaken = (k : Start) (p p' : LastingPass) (key : Key)
    (file back : Identity) (freed released : Option Identity)
    → PutsAlone k p key file (Missed Again back) freed released p'
    → IsOvertakenTry key.slot (view_of p).number (record { before = p; after = p' })

-- the changes of others that the pass knows at the first `n` slots of the allocation range
abbrev pub changes_among : Start → (number n : ℕ) → LastingPass → ℕ
changes_among k number zero p = 0
changes_among k number (suc n) p = changes_among k number n p
    + changes_known ((range_at_start k).0 + n) number p

-- those at all slots of the range, and the steps that met another pass
abbrev pub changes_in_range : Start → ℕ → LastingPass → ℕ
changes_in_range k number p = changes_among k number (range_at_start k).1 p + meetings p

-- a pass goes on: it has seen what it had seen, and met and found what it had
abbrev pub GoesOnInRange : LastingPass → LastingPass → Type 0
GoesOnInRange p p' = IsSeenBy (view_of p).front (view_of p').front × MeetsMore p p'

-- a call of the pass of this number was overtaken in the range: at a slot of the range, or the pass
-- met another one in the middle of a call
pub record IsOvertakenSearch (k : Start) (number : ℕ) (try : Try) : Type 0 where
  pub its_number : (view_of try.before).number ≡ number
  pub goes_on : GoesOnInRange try.before try.after
  pub overtaken : ((slot : ℕ) × IsInRange k slot × IsOvertakenTry slot number try)
      ⊎ (meetings try.before < meetings try.after)

-- such calls, one after another
abbrev pub AllSearchesOvertaken : Start → (number : ℕ) → LastingPass → List Try → LastingPass
    → Type 0
AllSearchesOvertaken k number first [] last = GoesOnInRange first last
AllSearchesOvertaken k number first (try ∷ tries) last = GoesOnInRange first try.before
    × IsOvertakenSearch k number try × AllSearchesOvertaken k number try.after tries last

-- they are at most as many as the changes of others in the range that the pass has learned of
abbrev pub EachSearchHasItsChange : Type 0
EachSearchHasItsChange =
    (k : Start) (number : ℕ) (first : LastingPass) (tries : List Try) (last : LastingPass)
    → AllSearchesOvertaken k number first tries last
    → length tries + changes_in_range k number first ≤ changes_in_range k number last

-- an installation at any slot that returns `Again` is such a call
abbrev pub InstallationsAreOvertaken : Type 0
InstallationsAreOvertaken = (k : Start) (p p' : LastingPass) (file back : Identity)
    → TriedSo (opening_of k) (view_of p) file (put.Again back) (view_of p')
    → GivesUpFor k p (put.Again back) p' → MeetsMore p p'
    → IsOvertakenSearch k (view_of p).number (record { before = p; after = p' })

-- so is a search that does
abbrev pub SearchesAreOvertaken : Type 0
SearchesAreOvertaken = (k : Start) (p p' : LastingPass)
    → HasSearched k p found.Again p' → MeetsMore p p'
    → IsOvertakenSearch k (view_of p).number (record { before = p; after = p' })
