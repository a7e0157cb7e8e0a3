-- The result of each kind of step for the pass that makes it.
use Rattle.std.specs.Prelude.{◌≡◌, ◌≢◌, ◌+◌, ◌<◌, if◌then◌else◌, ◌∷◌}
use Rattle.fx_counted.specs.Words.{ℕ, zero, suc, nat_lt, List, [], Option, Some, None, Step, rest}
use Rattle.fx_counted.specs.Words.{Identity, ◌▷◌, numbered, File, Action, Look, Release, Put}
use Rattle.fx_counted.specs.Words.{Allocate, Full, Close, Use, no_use, one_look, one_number, Adds}
use Rattle.fx_counted.specs.Words.{Draws, retiring, range_of, next_number, takes_in, full_word_of}
use Rattle.fx_counted.specs.Words.{if_full, Change, Outside, Same, More, Less, Log, Start, Work}
use Rattle.fx_counted.specs.Words.{Between, Placing, Emptying, Idle, Holding, Retiring}
use Rattle.fx_counted.specs.Agrees.{Names}
use Rattle.fx_counted.specs.Layout.{slot_of, home_place}
use Rattle.fx_counted.specs.Passes.{Sat, opening_of, slots_of, IsNumber, state_after_all, pass_of}
use Rattle.fx_counted.specs.Passes.{steps_of, doing_in}

-- a step of a table whose places have an open file or none
abbrev pub At : Type 0
At = Step (Option Identity)

-- the number that a pass works with is one of the table's
abbrev pub IsInside : Start → Work → Type 0
IsInside k (Between Idle) = Unit {0}
IsInside k (Placing number) = IsNumber k number
IsInside k (Between (Holding f)) = IsNumber k f.number
IsInside k (Between (Retiring f takes)) = IsNumber k f.number
IsInside k (Emptying number) = IsNumber k number

-- One step of a seat with one pass: it took these actions, used these numbers and look-ups, and now
-- has this work
pub record Stepped (m : Sat) (actions : List Action) (used : Use) (w : Work) (c : Change)
    (m' : Sat) : Type 0 where
  pub one : (x : Log) × (m'.0.logs ≡ x ∷ [])
  pub adds : Adds (opening_of m.0.start) (pass_of m.0) actions (doing_in w) used (pass_of m'.0)
  pub work : m'.0.work ≡ w
  pub inside : IsInside m.0.start w
  pub change : m'.0.change ≡ c
  pub start : m'.0.start ≡ m.0.start
  pub steps : steps_of m'.0 ≡ steps_of m.0 + 1

-- the work of a pass that found this file
abbrev pub holds_now : Option File → Work
holds_now None = Between Idle
holds_now (Some f) = Between (Holding f)

-- the difference that a pass has to report if a slot had `old` files and now has `new`, each 0 or 1
abbrev pub changed : (old new : ℕ) → Change
changed zero zero = Same
changed zero (suc new) = More
changed (suc old) zero = Less
changed (suc old) (suc new) = Same

-- a pass reports changes of slots in the range only
abbrev pub turned : Change → (old new : ℕ) → Change
turned Outside old new = Outside
turned Same old new = changed old new
turned More old new = More
turned Less old new = Less

-- Birth: the pass has the place of its next number
pub record Births (st : At) (m : Sat) (found : ℕ) (m' : Sat) : Type 0 where
  pub stepped : let next = next_number (opening_of m.0.start) (pass_of m.0) in
      Stepped m [] no_use (Placing next) m.0.change m'
  pub carried : let next = next_number (opening_of m.0.start) (pass_of m.0) in
      m'.1 ≡ (home_place (slots_of m.0.start) next, None) ∷ m.1

-- Look: the word that was found names the file that was there
pub record Looks (st : At) (m : Sat) (found : ℕ) (m' : Sat) : Type 0 where
  pub file : Option File
  pub names : Names found file
  pub stepped : Stepped m ([] ▷ Look (slot_of st.word) file) one_look (holds_now file) m.0.change m'
  pub carried : m'.1 ≡ m.1

-- Swap, to the word of the file that the pass places: the word that was found names the file that
-- it replaced
pub record Installs (st : At) (m : Sat) (found : ℕ) (m' : Sat) : Type 0 where
  pub replaced : Option File
  pub names : Names found replaced
  pub stepped : (n : ℕ) (file : Identity) → m.0.work ≡ Placing n
      → m.1 ≡ (home_place (slots_of m.0.start) n, Some file) ∷ []
      → Stepped m ([] ▷ Put (slot_of st.word) (numbered n file) replaced) one_number
      (Between (retiring replaced (takes_in found))) (turned m.0.change (if_full replaced) 1) m'
  pub carried : m'.1 ≡ rest m.1

-- Swap, to an empty slot's word: the word that was found names the file that was removed, by a
-- clear or by a take
pub record Removes (action : ℕ → Option File → Action)
    (st : At) (m : Sat) (found : ℕ) (m' : Sat) : Type 0 where
  pub file : Option File
  pub names : Names found file
  pub stepped : Stepped m ([] ▷ action (slot_of st.word) file) no_use
      (Between (retiring file (takes_in found))) (turned m.0.change (if_full file) 0) m'
  pub carried : m'.1 ≡ m.1

-- the pass's file is closed, and the pass has it
pub record TakesOut (m : Sat) (actions : List Action) (f : File) (m' : Sat) : Type 0 where
  pub stepped : Stepped m (actions ▷ Close f) no_use (Emptying f.number) m.0.change m'
  pub carried : m'.1 ≡ (home_place (slots_of m.0.start) f.number, Some f.identity) ∷ m.1

-- the pass's file stays open, and the pass is idle
pub record LetsGo (m : Sat) (actions : List Action) (m' : Sat) : Type 0 where
  pub stepped : Stepped m actions no_use (Between Idle) m.0.change m'
  pub carried : m'.1 ≡ m.1

-- Retire: if the word equals what was subtracted, the file has no holds
pub record Retires (st : At) (m : Sat) (found : ℕ) (m' : Sat) : Type 0 where
  pub waits : (f : File) (takes : ℕ) → m.0.work ≡ Between (Retiring f takes) → found ≢ st.first
      → LetsGo m [] m' × (0 < (state_after_all m.0.start (pass_of m'.0).front).holds f.number)
  pub closes : (f : File) (takes : ℕ) → m.0.work ≡ Between (Retiring f takes) → found ≡ st.first
      → TakesOut m [] f m'

-- Release: if the word was 1, it was the last hold of a retired file
pub record Releases (st : At) (m : Sat) (found : ℕ) (m' : Sat) : Type 0 where
  pub waits : (f : File) → m.0.work ≡ Between (Holding f) → found ≢ 1 → LetsGo m ([] ▷ Release f) m'
  pub closes : (f : File) → m.0.work ≡ Between (Holding f) → found ≡ 1
      → TakesOut m ([] ▷ Release f) f m'

-- Rest: the place is home, and empty
pub record Rests (st : At) (m : Sat) (found : ℕ) (m' : Sat) : Type 0 where
  pub stepped : Stepped m [] no_use (Between Idle) m.0.change m'
  pub carried : m'.1 ≡ rest m.1

-- a step that leaves the pass at its work: Begin, End and Load
pub record GoesOn (change : Change) (st : At) (m : Sat) (found : ℕ) (m' : Sat) : Type 0 where
  pub stepped : Stepped m [] no_use m.0.work change m'
  pub carried : m'.1 ≡ m.1

-- Answer: if the word says so, every slot of the range was full
pub record SaysFull (st : At) (m : Sat) (found : ℕ) (m' : Sat) : Type 0 where
  pub full : found ≡ full_word_of (range_of (opening_of m.0.start)).1
      → Stepped m ([] ▷ Full) no_use m.0.work Outside m'
  pub not_full : found ≢ full_word_of (range_of (opening_of m.0.start)).1
      → Stepped m [] no_use m.0.work Outside m'
  pub carried : m'.1 ≡ m.1

-- Exchange: the file that the pass places is at the slot, which was empty; or nothing changed
pub record Exchanges (st : At) (m : Sat) (found : ℕ) (m' : Sat) : Type 0 where
  pub wins : (n : ℕ) (file : Identity) → m.0.work ≡ Placing n
      → m.1 ≡ (home_place (slots_of m.0.start) n, Some file) ∷ [] → found ≡ st.first
      → Stepped m ([] ▷ Allocate (slot_of st.word) (numbered n file))
      one_number (Between Idle) More m'
      × (m'.1 ≡ rest m.1)
  pub loses : found ≢ st.first → Stepped m [] no_use m.0.work m.0.change m' × (m'.1 ≡ m.1)

-- the chain that a draw which found this word returns
abbrev pub chain_given : (chains found : ℕ) → Option ℕ
chain_given chains found = if nat_lt found chains then Some (found + 1) else None

-- Draw: the pass gets the next chain, or `None`
pub record DrawsChain (st : At) (m : Sat) (found : ℕ) (m' : Sat) : Type 0 where
  pub one : (x : Log) × (m'.0.logs ≡ x ∷ [])
  pub draws : Draws (opening_of m.0.start) (pass_of m.0) (chain_given m.0.start.chains found)
      (pass_of m'.0)
  -- a table's only pass found the number of its last chain
  pub alone : m.0.start.passes ≡ 1 → found ≡ (pass_of m.0).chain
  pub same : (m'.0.work ≡ m.0.work) × (m'.0.change ≡ m.0.change) × (m'.0.start ≡ m.0.start)
      × (m'.1 ≡ m.1)
  pub steps : steps_of m'.0 ≡ steps_of m.0 + 1
