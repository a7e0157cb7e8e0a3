-- The words that a pass watches: that of a slot, and its own bit in the question word.
use Rattle.std.specs.Prelude.{◌≡◌, ◌≢◌, ◌<◌, ◌⊎◌, ℕ, true, List, slice_index}
use Rattle.fx_lasting.specs.Words.{◌▷◌, IsSeenBy, Action, Look, Put, Clear, Take, Allocate, Event}
use Rattle.fx_lasting.specs.Words.{question_place, HasQuestionOf, Start, Watch}
use Rattle.fx_lasting.specs.life.Layout.{slot_place}
use Rattle.fx_lasting.specs.Fields.{heat_in}
use Rattle.fx_lasting.specs.Passes.{slots_of}

-- the action is one at the slot
abbrev pub ActsAt : ℕ → Action → Type 0
ActsAt slot (Look s found) = s ≡ slot
ActsAt slot (Put s new found) = s ≡ slot
ActsAt slot (Clear s found) = s ≡ slot
ActsAt slot (Take s found) = s ≡ slot
ActsAt slot (Allocate s new) = s ≡ slot
ActsAt slot _ = ⊥

-- the action fills the slot or empties it
abbrev pub ReplacesAt : ℕ → Action → Type 0
ReplacesAt slot (Put s new found) = s ≡ slot
ReplacesAt slot (Clear s found) = s ≡ slot
ReplacesAt slot (Take s found) = s ≡ slot
ReplacesAt slot (Allocate s new) = s ≡ slot
ReplacesAt slot _ = ⊥

-- after one history and within a later one, another pass than this one took such an action
pub record AnotherDid (Does : Action → Type 0) (number : ℕ) (before after : List Event)
    : Type 0 where
  pub history : List Event
  pub event : Event
  pub later : IsSeenBy before history
  pub seen : IsSeenBy (history ▷ event) after
  pub another : event.pass ≢ number
  pub there : Does event.action

-- another pass acted at the slot
abbrev pub HasActed : (slot number : ℕ) → (before after : List Event) → Type 0
HasActed slot number before after = AnotherDid (ActsAt slot) number before after

-- another pass filled the slot or emptied it
abbrev pub HasReplaced : (slot number : ℕ) → (before after : List Event) → Type 0
HasReplaced slot number before after = AnotherDid (ReplacesAt slot) number before after

-- another pass heated the slot: its look-up is under way, or held a file there
abbrev pub HasHeated : Start → ℕ → ℕ → Type 0
HasHeated k old word = (heat_in old < heat_in word) × (1 < k.passes)

-- the slot's word is the one that the pass saw, or another pass has acted at the slot since, or
-- heated it
abbrev pub IsAsSeen : Start → List Event → ℕ → Watch → ℕ → Type 0
IsAsSeen k h number o word = (word ≡ o.word)
    ⊎ (HasActed o.slot number o.front h ⊎ HasHeated k o.word word)

-- what the pass of this number watches
pub record WatchAgrees (k : Start) (h : List Event) (words : List ℕ) (number : ℕ) (o : Watch)
    : Type 0 where
  pub seen : IsSeenBy o.front h
  pub saw : o.slot < slots_of k → IsAsSeen k h number o (slice_index words (slot_place o.slot))
  -- only another pass may have cleared its bit
  pub asks : o.asks ≡ true
      → HasQuestionOf (slice_index words question_place) number ⊎ (1 < k.passes)

-- the slot is watched no more
abbrev pub without_slot : ℕ → Watch → Watch
without_slot no_slot o = record o { slot = no_slot }
