-- The replacement by a key that one pass makes: the pass places the new file, holds the file of the
-- key, and its hold ends with the step that puts the new file at the slot.
use Rattle.std.specs.Prelude.{◌≡◌, ◌+◌, ◌<◌, ◌≤◌, ◌⊎◌, ◌∷◌, None}
use Rattle.fx_lasting.specs.Words.{ℕ, true, false, [], Option, Some, Result, Ok, Err, is_some}
use Rattle.fx_lasting.specs.Words.{TableId, Identity, ◌▷◌, numbered, Close, Look, Put, Release}
use Rattle.fx_lasting.specs.Words.{File, Adds, IsHandedOut, no_use, one_number, Opening, PassView}
use Rattle.fx_lasting.specs.Words.{IsFileRemoval, Hold, Retired, Miss, Key, Replaced, Missed}
use Rattle.fx_lasting.specs.Words.{LastingPass, Outside, Glance, Cold, Hot, Placement, Start, Work}
use Rattle.fx_lasting.specs.Words.{Nearing, Placing}
use Rattle.fx_table.specs.declared.values.Doing.TheVariants.{Idle as DoesNothing}
use Rattle.fx_table.specs.declared.values.Doing.TheVariants.{Retiring as Retires}
use Rattle.fx_lasting.specs.slots.SlotAgrees.{Names}
use Rattle.fx_lasting.specs.Effects.{HasItsHold, IsOnList, as_swapped, leaving_work, pass_in}
use Rattle.fx_lasting.specs.Effects.{retiring_work}
use Rattle.fx_lasting.specs.Ends.{Does}
use Rattle.fx_lasting.specs.Fields.{full_name_in, most_carried}
use Rattle.fx_lasting.specs.Passes.{Sat, HoldsBesides, held_in, is_guarding, nodes_of}
use Rattle.fx_lasting.specs.Passes.{node_of_number}
use Rattle.fx_lasting.specs.Runs.{Runs}
use Rattle.fx_lasting.specs.Tables.{IsPassOf, IsSeatOf, opening_of, steps_taken, view_of}
use Rattle.fx_lasting.specs.nodes.Labels.{label_of, as_written}
use Rattle.fx_lasting.specs.nodes.Stocks.{IsInStock}
use Rattle.fx_lasting.specs.slots.RemoveByKey.{LeftAlone}
use Rattle.fx_lasting.specs.slots.ByKey.{HoldsAtKey, IsKeyOf, LookedByKey}
use Rattle.fx_lasting.specs.slots.ByNode.{FailedIf, WasIn}
use Rattle.fx_lasting.specs.declared.key_answers.PutOverKey.{PutOverKey}
use Rattle.fx_lasting.specs.declared.tried.Renewal.{Renewal}
use Rattle.fx_lasting.specs.declared.tried.Renewal.TheVariants.{Ends, Moved}
use Rattle.fx_lasting.specs.declared.tried.Taken.{Taken}
use Rattle.fx_lasting.specs.declared.view.Glance.TheVariants.{None as Nothing}
use Rattle.fx_lasting.specs.declared.view.Work.TheVariants.{Idle}
use mathlib.Core.Option.{some}
use lib.ListN.{get_elem?}
use Rattle.fx_lasting.specs.declared.tried.Taken.TheVariants as taken

-- a pass that is to take what a cold slot names, or to announce the node of a hot one
abbrev pub aim_at : ℕ → Option ℕ → Glance
aim_at slot None = Cold slot
aim_at slot (Some node) = Hot slot node

-- a pass that loaded a slot's word, to hold what the slot names, if it isn't empty
abbrev pub AimedAt : Start → ℕ → Sat → Option (Option ℕ) → Sat → Type 0
AimedAt k slot m None m' = Runs m ([] ▷ Look slot None) m.0.work Nothing m.0.change 1 m'
AimedAt k slot m (Some hot) m' = Runs m [] m.0.work (aim_at slot hot) m.0.change 1 m'

-- a pass that holds the file of the node compared its number with the key's
abbrev pub Compared : Start → Key → ℕ → File → Sat → Taken → Sat → Type 0
Compared k key node f m (taken.Its n) m' = (n ≡ node) × IsKeyOf key f
    × (node_of_number k f.number ≡ node) × Does m [] m.0.work 1 m'
Compared k key node f m (taken.Other n) m' = (n ≡ node) × (IsKeyOf key f → ⊥)
    × (node_of_number k f.number ≡ node) × Does m [] m.0.work 1 m'
Compared k key node f m _ m' = ⊥

-- a pass that has placed a file on its own node holds the slot's file on another node, by a take or
-- by its hold word
abbrev pub TakesOn : Start → (slot own : ℕ) → Placement → Option ℕ → File → ℕ → Sat → Sat → Type 0
TakesOn k slot own placement hot f node m m' = (node_of_number k f.number ≡ node)
    × (w : Work) × HoldsBesides w f node own placement × (is_guarding w ≡ is_some hot)
    × Runs m ([] ▷ Look slot (Some f)) w Nothing m.0.change 3 m'

-- a pass that has placed a file on its own node holds what the slot of the key names: the file of
-- the key, or another one, or none; or it has announced the node of a slot that has changed since
abbrev pub HoldsBeside : Start → Key → ℕ → Placement → Option ℕ → Sat → Taken → Sat → Type 0
HoldsBeside k key own placement hot m (taken.Its node) m' =
    (f : File) × IsKeyOf key f × TakesOn k key.slot own placement hot f node m m'
HoldsBeside k key own placement hot m taken.Nothing m' =
    Runs m ([] ▷ Look key.slot None) (Placing own placement) Nothing m.0.change 3 m'
HoldsBeside k key own placement hot m (taken.Other node) m' =
    (f : File) × (IsKeyOf key f → ⊥) × TakesOn k key.slot own placement hot f node m m'
HoldsBeside k key own placement hot m (taken.Moved node) m' = (hot ≡ Some node)
    × Runs m [] (Nearing node own placement) (Cold key.slot) m.0.change 2 m'

-- the seat's pass holds the file of the node, and has the place of its own node, whose word has
-- lost `lost` takes, with the file that it is about to install
pub record IsBeside (node own lost : ℕ) (file : Identity) (m : Sat) : Type 0 where
  pub held : File
  pub work : HoldsBesides m.0.work held node own (as_written lost (label_of file))
  pub few_lost : lost ≤ most_carried
  pub place : m.1 ≡ (own, Some file) ∷ []
  pub stocked : IsInStock (pass_in m).stock own

-- the file that the pass places is at the slot, and the file that it held is to be retired. The
-- slot's word was this
abbrev pub WonRenewal : Start → (slot node own : ℕ) → Identity → (ℕ → File → Work) → ℕ → Sat → ℕ
    → Sat → Type 0
WonRenewal k slot node own file leaves most m word m' = (f : File) × (held_in m.0.work ≡ Some f)
    × (full_name_in word ≡ node + 1) × (m'.1 ≡ []) × (node < nodes_of k)
    × Names (node_of_number k) word (Some f)
    × ((entry : ℕ) → get_elem? (pass_in m).stock entry ≡ some own
    → (number : ℕ) × (node_of_number k number ≡ own)
    × Runs (as_swapped entry node m) ([] ▷ Release f ▷ Put slot (numbered number file) (Some f))
    (leaves word f) m.0.glance Outside most m')

-- a pass that tried to put its file there, from a word that it saw
abbrev pub TriedReplaceHeld : Start → (slot node own : ℕ) → Identity → Sat → Result ℕ Miss → Sat
    → Type 0
TriedReplaceHeld k slot node own file m (Ok word) m' = HasItsHold (is_guarding m.0.work) word
    × WonRenewal k slot node own file (leaving_work k (is_guarding m.0.work)) 4 m word m'
TriedReplaceHeld k slot node own file m (Err miss) m' =
    FailedIf k slot node miss m m' × Does m [] m.0.work 4 m' × (m'.1 ≡ m.1)

-- a pass that saw the slot's word, and tried it. Its own take isn't in the word that is returned
abbrev pub TriedRenewal : Start → (slot node own : ℕ) → Identity → Sat → Result ℕ Miss → Sat
    → Type 0
TriedRenewal k slot node own file m (Ok word) m' =
    WonRenewal k slot node own file (λ word f. retiring_work k word (Some f)) 6 m word m'
TriedRenewal k slot node own file m (Err miss) m' = WasIn k slot node miss m m'
    × FailedIf k slot node miss m m' × Does m [] m.0.work 5 m' × (m'.1 ≡ m.1)

-- the pass looked the file of the key up, and replaced the file that it held
pub record RenewsAlone (k : Start) (p : LastingPass) (key : Key) (file : Identity) (x : Retired)
    (freed released : Option Identity) (p' : LastingPass) : Type 0 where
  pub old : File
  pub hold : Hold
  pub between : PassView
  pub its_key : IsKeyOf key old
  pub held : HoldsAtKey k (view_of p) key old hold freed between
  pub new : File
  pub is_new : new.identity ≡ file
  pub removal : IsFileRemoval (opening_of k) old x
  pub adds : Adds (opening_of k) between ([] ▷ Release old ▷ Put key.slot new (Some old))
      (Retires old x) one_number (view_of p')
  pub released_none : released ≡ None

-- a replacement by a key by one pass
abbrev pub PutsAlone : Start → LastingPass → Key → Identity → PutOverKey
    → (freed released : Option Identity) → LastingPass → Type 0
PutsAlone k p key file (Replaced x) freed released p' =
    RenewsAlone k p key file x freed released p'
PutsAlone k p key file (Missed fault back) freed released p' = (back ≡ file)
    × (LookedByKey k (view_of p) key (Err fault) freed released (view_of p')
    ⊎ LeftAlone k p key fault freed released p')

-- a pass that announced a node in vain: it may have got a removed file, to be closed
abbrev pub FreesFirst : Opening → PassView → Option Identity → PassView → Type 0
FreesFirst o v None w = Adds o v [] DoesNothing no_use w
FreesFirst o v (Some file) w =
    (f : File) × IsHandedOut f file × Adds o v ([] ▷ Close f) DoesNothing no_use w

-- a pass that announced the node of its slot in vain is to take what the slot names now
pub record HasMoved (id : TableId) (k : Start) (p : LastingPass) (slot : ℕ)
    (freed : Option Identity) (p' : LastingPass) : Type 0 where
  pub seated : IsSeatOf id k p'
  pub idle : p'.idle ≡ true
  pub unkept : p'.keeps ≡ false
  pub works : p'.seat.me.0.work ≡ Idle
  pub listed : IsOnList p'.seat.me
  pub cold : p'.seat.me.0.glance ≡ Cold slot
  pub number : p'.number ≡ p.number
  pub frees : FreesFirst (opening_of k) (view_of p) freed (view_of p')
  pub steps : steps_taken p' ≤ steps_taken p + (k.passes + 9)

-- a try to replace the file of a key, at a slot at which the pass has aimed
abbrev pub Renews : TableId → Start → LastingPass → Key → Option ℕ → Identity → Renewal
    → LastingPass → Type 0
Renews id k p key hot file (Ends put released) p' =
    IsPassOf id k p' × PutsAlone k p key file put None released p'
Renews id k p key hot file (Moved back freed) p' =
    (back ≡ file) × (is_some hot ≡ true) × HasMoved id k p key.slot freed p'
