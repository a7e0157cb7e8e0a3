-- The exchanges that empty or replace a slot while its word names the node of a held file.
use Rattle.std.specs.Prelude.{◌≡◌, ◌≢◌, ◌+◌, ◌<◌, ◌⊎◌, ◌==◌, None}
use Rattle.fx_lasting.specs.Words.{ℕ, List, [], Option, Some, Result, Ok, Err, step, Allows}
use Rattle.fx_lasting.specs.Words.{IsSeenBy, Event, File, Retired, LastingPass, Miss, Start}
use Rattle.fx_lasting.specs.Ends.{Does}
use Rattle.fx_lasting.specs.Fields.{full_name_in, without_file}
use Rattle.fx_lasting.specs.Agrees.{Agrees}
use Rattle.fx_lasting.specs.Laws.{Kind}
use Rattle.fx_lasting.specs.life.Layout.{slot_place}
use Rattle.fx_lasting.specs.Passes.{Sat, node_of_number, state_after_all}
use Rattle.fx_lasting.specs.Tables.{view_of, changes_at, meetings}
use Rattle.fx_lasting.specs.Effects.{At, Sees, pass_in, FindsChange, MeetsOne, slot_of}
use Rattle.fx_lasting.specs.slots.Watches.{HasActed}
use Rattle.fx_lasting.specs.declared.answers.Miss.TheVariants.{Empty, Stale, Again}
use mathlib.Core.Option.{none}
use prog.Atomic.{either}

-- the file is on the node
abbrev pub IsOn : Start → ℕ → File → Type 0
IsOn k node f = node_of_number k f.number ≡ node

-- a slot with this content is left as it is, for this reason
abbrev pub FitsMiss : Start → ℕ → Miss → Option File → Type 0
FitsMiss k node Empty there = there ≡ None
FitsMiss k node Stale there = (f : File) × (there ≡ Some f) × (IsOn k node f → ⊥)
FitsMiss k node Again there = (f : File) × (there ≡ Some f) × IsOn k node f

-- the slot was so at a moment after what was seen before, and within what is seen after
pub record WasSo (k : Start) (slot : ℕ) (is : Option File → Type 0)
    (before after : List Event) : Type 0 where
  pub history : List Event
  pub later : IsSeenBy before history
  pub seen : IsSeenBy history after
  pub there : is ((state_after_all k history).at slot)

-- during a call the pass met another one in the middle of a call
abbrev pub HasMet : Start → LastingPass → LastingPass → Type 0
HasMet k p p' = (meetings p < meetings p') × (1 < k.passes)

-- during a call the pass found the slot's word changed: another pass acted at the slot, or was met
abbrev pub WasOvertaken : Start → ℕ → LastingPass → LastingPass → Type 0
WasOvertaken k slot p p' = (changes_at slot p < changes_at slot p')
    × (HasActed slot (view_of p).number (view_of p).front (view_of p').front ⊎ HasMet k p p')

-- a call leaves a file that is there only if another pass changed the slot's word during the call
abbrev pub HasTriedIf : Start → ℕ → Miss → LastingPass → LastingPass → Type 0
HasTriedIf k slot Again p p' = WasOvertaken k slot p p'
HasTriedIf k slot Empty p p' = Unit {0}
HasTriedIf k slot Stale p p' = Unit {0}

abbrev pub TriesTake : Start → ℕ → Result Retired Miss → LastingPass → LastingPass → Type 0
TriesTake k slot (Ok x) p p' = Unit {0}
TriesTake k slot (Err miss) p p' = HasTriedIf k slot miss p p'

-- a slot's word names the node, or says why the slot is left as it is
abbrev pub SaysIf : ℕ → ℕ → Result ℕ Miss → Type 0
SaysIf word node (Ok same) = (same ≡ word) × (full_name_in word ≡ node + 1)
SaysIf word node (Err Empty) = full_name_in word ≡ 0
SaysIf word node (Err Stale) = (full_name_in word ≢ 0) × (full_name_in word ≢ node + 1)
SaysIf word node (Err Again) = ⊥

-- the slot was so when a pass made some steps
abbrev pub WasIn : Start → ℕ → ℕ → Miss → Sat → Sat → Type 0
WasIn k slot node miss m m' =
    WasSo k slot (FitsMiss k node miss) (pass_in m).front (pass_in m').front

-- a pass that read a slot's word: it names the node, or the slot is left as it is
abbrev pub SawIf : Start → ℕ → ℕ → Sat → Result ℕ Miss → Sat → Type 0
SawIf k slot node m (Ok word) m' =
    (full_name_in word ≡ node + 1) × WasIn k slot node Again m m' × Does m [] m.0.work 1 m'
SawIf k slot node m (Err miss) m' =
    WasIn k slot node miss m m' × Does m [] m.0.work 1 m' × (miss ≢ Again)

-- in some steps the pass found the slot's word changed: another pass acted there, or was met
abbrev pub WasOvertakenIn : ℕ → Sat → Sat → Type 0
WasOvertakenIn slot m m' = FindsChange slot m m'
    × (HasActed slot (pass_in m).number (pass_in m).front (pass_in m').front ⊎ MeetsOne m m')

-- why the last of some tries failed; the first word was seen before
abbrev pub FailedIf : Start → ℕ → ℕ → Miss → Sat → Sat → Type 0
FailedIf k slot node Again m m' = WasOvertakenIn slot m m'
FailedIf k slot node Empty m m' = WasIn k slot node Empty m m'
FailedIf k slot node Stale m m' = WasIn k slot node Stale m m'

-- the word that an exchange puts at a slot: a new one, or else the old one without its file
abbrev pub word_put : Option ℕ → ℕ → ℕ
word_put (Some new) old = new
word_put None old = without_file old

-- a pass that does nothing else may make such exchanges while the slot's word names the node
abbrev pub MayExchange : Kind → Start → ℕ → ℕ → Option ℕ → Sat → Type 0
MayExchange kind k slot node new m = (slots id old tries : ℕ) (m' : Sat)
    → Does m [] m.0.work tries m' → m'.1 ≡ m.1 → full_name_in old ≡ node + 1
    → Allows (Agrees k) slots id m' (slot_place slot)
    (λ word. either (word == old) (word_put new old) word)
    (kind (step slots (slot_place slot) old (word_put new old) none) m')

-- an exchange that finds another word changes nothing
abbrev pub SeesIfLost : Kind → Type 0
SeesIfLost kind = (st : At) (m : Sat) (found : ℕ) (m' : Sat) → kind st m found m'
    → found ≢ st.first → Sees st m found m'

-- the last of some exchanges found the word that it expected
pub record WonExchange (kind : Kind) (slot node : ℕ) (new : Option ℕ) (m : Sat) (word : ℕ)
    (m' : Sat) : Type 0 where
  pub before : Sat
  pub st : At
  pub still : Does m [] m.0.work 3 before
  pub places : before.1 ≡ m.1
  pub here : slot_of st.word ≡ slot
  pub named : full_name_in word ≡ node + 1
  pub first : word ≡ st.first
  pub second : st.second ≡ word_put new word
  pub last : kind st before word m'

-- a pass that made such exchanges, at most four
abbrev pub TriedExchange : Kind → Start → ℕ → ℕ → Option ℕ → Sat → Result ℕ Miss → Sat → Type 0
TriedExchange kind k slot node new m (Ok word) m' = WonExchange kind slot node new m word m'
TriedExchange kind k slot node new m (Err miss) m' =
    FailedIf k slot node miss m m' × Does m [] m.0.work 4 m' × (m'.1 ≡ m.1)
