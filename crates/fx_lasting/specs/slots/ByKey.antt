-- Keys: the name of a file by its slot and the number of its mark, and the calls that take one.
use Rattle.std.specs.Prelude.{◌≡◌, ◌≢◌, ◌+◌, ◌*◌, ◌/◌, ◌%◌, ◌^◌, ◌<◌, ◌≤◌, ◌⊎◌, ◌==◌, if◌then◌else◌}
use Rattle.std.specs.Prelude.{None, ℕ, nat_lt, List, Contains, Option, Some, Result, Ok, Err}
use Rattle.fx_lasting.specs.Words.{Identity, Mark, Registered, Submitted, File, LookedUp}
use Rattle.fx_lasting.specs.Words.{ReleasesFile, PassView, Holding, Hold, Miss, Key, KeyFault}
use Rattle.fx_lasting.specs.Words.{LastingPass, Start}
use Rattle.fx_table.specs.declared.values.LookFault.TheVariants.{Empty as EmptySlot}
use Rattle.fx_lasting.specs.slots.ByNode.{HasMet, IsOn}
use Rattle.fx_lasting.specs.nodes.Labels.{number_of_mark}
use Rattle.fx_lasting.specs.Passes.{slots_of}
use Rattle.fx_lasting.specs.Tables.{opening_of, view_of, changes_at}
use Rattle.fx_lasting.specs.slots.Watches.{HasActed}
use Rattle.fx_lasting.specs.declared.key_answers.KeyFault.TheVariants.{NoSlot, Empty, Stale, Again}
use Rattle.fx_lasting.specs.declared.answers.Miss.TheVariants as miss

-- the key of a file with this mark at a slot
abbrev pub key_at : ℕ → Mark → Key
key_at slot mark = record { slot = slot; number = number_of_mark mark }

-- the key names the file: its number is that of the file's mark, and isn't 0
abbrev pub IsKeyOf : Key → File → Type 0
IsKeyOf key f = (key.number ≢ 0) × (number_of_mark f.identity.mark ≡ key.number)

-- the bits of a key with a slot below 4,096, and those of one with another slot
abbrev pub narrow_bits : Key → Option ℕ
narrow_bits key =
    if nat_lt key.number (2 ^ 51) then Some (key.number * 2 ^ 13 + key.slot * 2) else None

abbrev pub wide_bits : Key → Option ℕ
wide_bits key =
    if nat_lt key.number (2 ^ 43) then Some (key.number * 2 ^ 21 + key.slot * 2 + 1) else None

-- the bits of a key, if it has no more than 64
abbrev pub bits_of_key : Key → Option ℕ
bits_of_key key = if nat_lt key.slot 4096 then narrow_bits key else
    if nat_lt key.slot (2 ^ 20) then wide_bits key else None

-- the key of some bits
abbrev pub key_of_bits : ℕ → Key
key_of_bits bits =
    if bits % 2 == 0 then record { slot = bits / 2 % 4096; number = bits / 2 ^ 13 }
    else record { slot = bits / 2 % 2 ^ 20; number = bits / 2 ^ 21 }

-- the key of a key's bits is that key
abbrev pub KeysComeBack : Type 0
KeysComeBack = (key : Key) (bits : ℕ) → bits_of_key key ≡ Some bits → key_of_bits bits ≡ key

-- a mark whose numbers have 32 bits
abbrev pub HasShortNumber : Mark → Type 0
HasShortNumber (Registered k i) = i < 2 ^ 32
HasShortNumber (Submitted submission chain member entry) = Unit {0}

-- no two of the files have the same mark
abbrev pub HaveTheirOwnMarks : List File → Type 0
HaveTheirOwnMarks files = (f g : File) → Contains files f → Contains files g
    → f.identity.mark ≡ g.identity.mark → f ≡ g

-- if no two of some files have the same mark, a key names at most one of them
abbrev pub KeysAreOfOneFile : Type 0
KeysAreOfOneFile = (files : List File) (key : Key) (f g : File) → HaveTheirOwnMarks files
    → ((h : File) → Contains files h → HasShortNumber h.identity.mark)
    → Contains files f → Contains files g → IsKeyOf key f → IsKeyOf key g → f ≡ g

-- the pass looked the key's slot up, and holds the file there, which is on the hold's node
pub record HoldsAtKey (k : Start) (v : PassView) (key : Key) (f : File) (hold : Hold)
    (freed : Option Identity) (w : PassView) : Type 0 where
  pub looked : LookedUp (opening_of k) v key.slot (Ok hold) freed w
  pub holds : w.doing ≡ Holding f hold
  pub node : IsOn k hold.node f
  pub inside : key.slot < slots_of k

-- the key doesn't name the file at the slot: the pass held it, and released it at once
pub record WasOther (k : Start) (v : PassView) (key : Key) (freed released : Option Identity)
    (w : PassView) : Type 0 where
  pub file : File
  pub hold : Hold
  pub between : PassView
  pub other : IsKeyOf key file → ⊥
  pub held : HoldsAtKey k v key file hold freed between
  pub releases : ReleasesFile (opening_of k) between file released w

-- a look-up by key
abbrev pub LookedByKey : Start → PassView → Key → Result Hold KeyFault
    → (freed released : Option Identity) → PassView → Type 0
LookedByKey k v key (Ok hold) freed released w =
    (f : File) × IsKeyOf key f × HoldsAtKey k v key f hold freed w × (released ≡ None)
LookedByKey k v key (Err NoSlot) freed released w =
    (slots_of k ≤ key.slot) × (w ≡ v) × (freed ≡ None) × (released ≡ None)
LookedByKey k v key (Err Empty) freed released w =
    LookedUp (opening_of k) v key.slot (Err EmptySlot) freed w × (released ≡ None)
LookedByKey k v key (Err Stale) freed released w = WasOther k v key freed released w
LookedByKey k v key (Err Again) freed released w = ⊥

-- the holder looked the file of the key up, and released it after the call's change
pub record HeldByKey (k : Start) (v : PassView) (key : Key) (hold : Hold)
    (freed released : Option Identity) (w : PassView) : Type 0 where
  pub file : File
  pub between : PassView
  pub its_key : IsKeyOf key file
  pub held : HoldsAtKey k v key file hold freed between
  pub releases : ReleasesFile (opening_of k) between file released w

-- the reason why a call by key changed nothing, from that of its exchanges
abbrev pub fault_for : Miss → KeyFault
fault_for miss.Empty = Empty
fault_for miss.Stale = Stale
fault_for miss.Again = Again

-- the holder had found the file of the key, and during the call the pass of the call found the
-- slot's word changed: after the look-up another pass acted at the slot, or heated it
pub record OvertakenByKey (k : Start) (vh : PassView) (key : Key) (freed : Option Identity)
    (p p' : LastingPass) : Type 0 where
  pub file : File
  pub hold : Hold
  pub between : PassView
  pub its_key : IsKeyOf key file
  pub held : HoldsAtKey k vh key file hold freed between
  pub changed : changes_at key.slot p < changes_at key.slot p'
  pub overtaken : HasActed key.slot (view_of p).number between.front (view_of p').front
      ⊎ HasMet k p p'

-- a call by key leaves the file of the key only if another pass changed the slot's word during the
-- call
abbrev pub TriesKey : Start → PassView → Key → KeyFault → Option Identity
    → LastingPass → LastingPass → Type 0
TriesKey k vh key Again freed p p' = OvertakenByKey k vh key freed p p'
TriesKey k vh key NoSlot freed p p' = Unit {0}
TriesKey k vh key Empty freed p p' = Unit {0}
TriesKey k vh key Stale freed p p' = Unit {0}
