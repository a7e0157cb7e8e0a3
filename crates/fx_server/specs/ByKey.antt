-- The exports by key, which is the slot of a file and its number: what each number that C gets
-- means, and what is written to `out`.
use Rattle.std.specs.Prelude.{◌≡◌, ◌⊎◌, ℕ, ℤ, Option, Result, Ok, Err}
use Rattle.fx_server.specs.Words.{Identity, Hold, Retired, LookedByKey, view_of, Key, KeyFault}
use Rattle.fx_server.specs.Words.{LastingPass, CoreOutcome, NO_OUTCOME, DONE, Held}
use Rattle.fx_lasting.specs.slots.RemoveByKey.{TakesAlone}
use Rattle.fx_lasting.specs.slots.ReplaceByKey.{PutsAlone}
use Rattle.fx_lasting.specs.declared.key_answers.PutOverKey.{PutOverKey}
use Rattle.fx_lasting.specs.declared.key_answers.PutOverKey.TheVariants.{Replaced, Missed}
use Rattle.fx_server.specs.Files.{file_with}
use Rattle.fx_server.specs.Outcomes.{LastUses, fault_code}
use Rattle.fx_server.specs.Workers.{DrawsNone, HasFound, HasFoundNone, IsBusy, IsGood, IsRefused}
use Rattle.fx_server.specs.Workers.{RetiresAs, UsesNumber, hold_in, its_opening, its_pass}
use Rattle.fx_server.specs.Workers.{its_start}
use Rattle.fx_server.specs.Worker.{TableWorker}

-- the key of a slot and a number
abbrev pub key_of : (slot number : ℕ) → Key
key_of slot number = record { slot = slot; number = number }

-- the worker's pass looked the key up
pub record LooksKey (w : TableWorker) (key : Key) (found : Result Hold KeyFault)
    (out : CoreOutcome) (w' : TableWorker) : Type 0 where
  pub freed : Option Identity
  pub released : Option Identity
  pub tags : LastUses out freed released
  pub looked : LookedByKey (its_start w) (its_pass w) key found freed released (its_pass w')

-- the worker found no file of the key
pub record FindsNoKey (w : TableWorker) (key : Key) (answer : ℤ) (out : CoreOutcome)
    (w' : TableWorker) : Type 0 where
  pub why : KeyFault
  pub its_answer : answer ≡ fault_code why
  pub nothing : HasFoundNone w' out
  pub looks : LooksKey w key (Err why) out w'

-- a look-up by key
pub record GetsAs (w : TableWorker) (key : Key) (answer : ℤ) (out : CoreOutcome)
    (w' : TableWorker) : Type 0 where
  pub good : IsGood w
  pub table : w'.shared ≡ w.shared
  pub numbers : DrawsNone w w'
  pub found : ((held : Held) × (answer ≡ DONE) × HasFound w' held out
      × LooksKey w key (Ok (hold_in held)) out w')
      ⊎ FindsNoKey w key answer out w'
      ⊎ ((w' ≡ w) × (out ≡ NO_OUTCOME) × IsBusy w answer)

-- a removal by key by the worker's pass alone, which is `p` afterwards
pub record TakesKeyAlone (w : TableWorker) (key : Key) (taken : Result Retired KeyFault)
    (out : CoreOutcome) (p : LastingPass) : Type 0 where
  pub freed : Option Identity
  pub released : Option Identity
  pub tags : LastUses out freed released
  pub takes : TakesAlone (its_start w) w.pass key taken freed released p

-- the file of the key was removed from its slot by the worker's pass alone, and retired
pub record RemovesByOne (w : TableWorker) (key : Key) (answer : ℤ) (out : CoreOutcome)
    (w' : TableWorker) : Type 0 where
  pub retired : Retired
  pub between : LastingPass
  pub takes : TakesKeyAlone w key (Ok retired) out between
  pub retires : RetiresAs (its_opening w) (view_of between) retired answer out.tag (its_pass w')

-- the slot was left as it was: `AGAIN` only if the slot's word changed during the call
pub record LeavesAlone (w : TableWorker) (key : Key) (answer : ℤ) (out : CoreOutcome)
    (w' : TableWorker) : Type 0 where
  pub why : KeyFault
  pub its_answer : answer ≡ fault_code why
  pub no_tag : out.tag ≡ 0
  pub takes : TakesKeyAlone w key (Err why) out w'.pass

-- a removal by key
pub record RemovesAs (w : TableWorker) (key : Key) (answer : ℤ) (out : CoreOutcome)
    (w' : TableWorker) : Type 0 where
  pub good : IsGood w
  pub table : w'.shared ≡ w.shared
  pub numbers : DrawsNone w w'
  pub held : w'.held ≡ w.held
  pub no_number : out.number ≡ 0
  pub removed : RemovesByOne w key answer out w' ⊎ LeavesAlone w key answer out w'
      ⊎ ((w' ≡ w) × (out ≡ NO_OUTCOME) × IsRefused w answer)

-- a replacement by key by the worker's pass alone, which is `p` afterwards
pub record PutsKeyAlone (w : TableWorker) (key : Key) (file : Identity) (put : PutOverKey)
    (out : CoreOutcome) (p : LastingPass) : Type 0 where
  pub freed : Option Identity
  pub released : Option Identity
  pub tags : LastUses out freed released
  pub puts : PutsAlone (its_start w) w.pass key file put freed released p

-- the file of the key was replaced by the worker's pass alone by one with this tag and the worker's
-- next number, and retired
pub record ReplacesByOne (w : TableWorker) (key : Key) (tag : ℕ) (answer : ℤ) (out : CoreOutcome)
    (w' : TableWorker) : Type 0 where
  pub uses : UsesNumber w out.number w'
  pub retired : Retired
  pub between : LastingPass
  pub puts : PutsKeyAlone w key (file_with tag w.numbers.next) (Replaced retired) out between
  pub retires : RetiresAs (its_opening w) (view_of between) retired answer out.tag (its_pass w')

-- the slot was left as it was: `AGAIN` only if the slot's word changed during the call
pub record KeepsAlone (w : TableWorker) (key : Key) (tag : ℕ) (answer : ℤ) (out : CoreOutcome)
    (w' : TableWorker) : Type 0 where
  pub why : KeyFault
  pub its_answer : answer ≡ fault_code why
  pub draws : DrawsNone w w'
  pub no_number : out.number ≡ 0
  pub no_tag : out.tag ≡ 0
  pub puts : let file = file_with tag w.numbers.next in
      PutsKeyAlone w key file (Missed why file) out w'.pass

-- a replacement by key
pub record ReplacesAs (w : TableWorker) (key : Key) (tag : ℕ) (answer : ℤ) (out : CoreOutcome)
    (w' : TableWorker) : Type 0 where
  pub good : IsGood w
  pub table : w'.shared ≡ w.shared
  pub held : w'.held ≡ w.held
  pub placed : ReplacesByOne w key tag answer out w' ⊎ KeepsAlone w key tag answer out w'
      ⊎ ((w' ≡ w) × (out ≡ NO_OUTCOME) × IsRefused w answer)
