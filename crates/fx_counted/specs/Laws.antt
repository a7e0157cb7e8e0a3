-- Laws: each kind of step keeps the rule, whatever the table and the other passes are. The place of
-- a step's word is a premise.
use Rattle.std.specs.Prelude.{◌≡◌, ◌+◌, ◌-◌, ◌%◌, ◌^◌, ◌<◌, ◌≤◌, ◌==◌, ◌⊎◌, ◌∷◌}
use Rattle.fx_counted.specs.Words.{ℕ, false, [], Some, None, step, Splits, Joins, Allows, Identity}
use Rattle.fx_counted.specs.Words.{File, Clear, Take, range_of, name_in, born, one_change}
use Rattle.fx_counted.specs.Words.{slot_word_of, retire_amount_of, without_first, first_alone}
use Rattle.fx_counted.specs.Words.{joined, spent, Change, Outside, Same, Log, Start, View, Between}
use Rattle.fx_counted.specs.Words.{Placing, Emptying, Idle, Holding, Retiring}
use Rattle.fx_counted.specs.Agrees.{Agrees}
use Rattle.fx_counted.specs.Control.{in_change, added, removed_by}
use Rattle.fx_counted.specs.Cuts.{seats}
use Rattle.fx_counted.specs.Layout.{control_place, draw_place, slot_place, node_place, home_place}
use Rattle.fx_counted.specs.Passes.{Sat, opening_of, slots_of, next_in}
use Rattle.fx_counted.specs.Effects.{Births, Looks, Installs, Removes, Retires, Releases, Rests}
use Rattle.fx_counted.specs.Effects.{GoesOn, SaysFull, Exchanges, DrawsChain}
use mathlib.Core.Option.{none}
use prog.Atomic.{either}

-- the seat has one pass of the table
abbrev pub HasPass : Start → Sat → Log → Type 0
HasPass k m x = (m.0.start ≡ k) × (m.0.logs ≡ x ∷ [])

-- the place of a number's word
abbrev pub word_of : Start → ℕ → ℕ
word_of k number = node_place (slots_of k) number

-- the place of a number's open file
abbrev pub place_of : Start → ℕ → ℕ
place_of k number = home_place (slots_of k) number

-- the slot is in the allocation range
abbrev pub IsInRange : Start → ℕ → Type 0
IsInRange k slot = let range = range_of (opening_of k) in
    (range.0 ≤ slot) × (slot < range.0 + range.1)

-- the slot is outside the allocation range
abbrev pub IsOutOfRange : Start → ℕ → Type 0
IsOutOfRange k slot = let range = range_of (opening_of k) in
    (slot < range.0) ⊎ (range.0 + range.1 ≤ slot)

-- a pass is in a change if the slot is in the range, and in none otherwise
abbrev pub MayChange : Start → ℕ → Change → Type 0
MayChange k slot change =
    (IsInRange k slot × (change ≡ Same)) ⊎ (IsOutOfRange k slot × (change ≡ Outside))

-- the first pass of an idle seat goes to a seat of its own
abbrev pub SplitsKeep : Type 0
SplitsKeep = (k : Start) (id : ℕ) (v : View) → v.work ≡ Between Idle → v.change ≡ Outside
    → Splits (Agrees k) id v (without_first seats v) (first_alone seats v)

-- an idle seat takes in the passes of another
abbrev pub JoinsKeep : Type 0
JoinsKeep = (k : Start) (id : ℕ) (v : View)
    → v.start ≡ k → v.work ≡ Between Idle → v.change ≡ Outside
    → (other : ℕ) (w : View) → w.work ≡ Between Idle → w.change ≡ Outside
    → Joins (Agrees k) id v other w (joined seats v w) (spent seats)

-- an idle pass stores 2^32 in the word of its next number
abbrev pub BirthsKeep : Type 0
BirthsKeep = (k : Start) (slots id i : ℕ) (m : Sat) (x : Log) → HasPass k m x
    → m.0.work ≡ Between Idle → 0 < x.numbers_left → i ≡ word_of k (next_in k x)
    → Allows (Agrees k) slots id m i (λ _. born) (λ _. Births (step slots i born 0 none) m born)

-- an idle pass adds 1 to a slot's word
abbrev pub LooksKeep : Type 0
LooksKeep = (k : Start) (slots id i slot : ℕ) (m : Sat) (x : Log) → HasPass k m x
    → m.0.work ≡ Between Idle → 0 < x.looks_left → slot < slots_of k → i ≡ slot_place slot
    → Allows (Agrees k) slots id m i (λ word. (word + 1) % 2 ^ 64) (Looks (step slots i 1 0 none) m)

-- a pass swaps the word of the file that it places into a slot
abbrev pub InstallsKeep : Type 0
InstallsKeep = (k : Start) (slots id i slot n new : ℕ) (file : Identity) (m : Sat) (x : Log)
    → HasPass k m x → m.0.work ≡ Placing n → m.1 ≡ (place_of k n, Some file) ∷ []
    → file.entry < 2 ^ 8 → slot < slots_of k → MayChange k slot m.0.change
    → i ≡ slot_place slot → new ≡ slot_word_of n file.entry
    → Allows (Agrees k) slots id m i (λ _. new) (Installs (step slots i new 0 none) m)

-- an idle pass swaps 0 into a slot's word, for an update
abbrev pub ClearsKeep : Type 0
ClearsKeep = (k : Start) (slots id i slot : ℕ) (m : Sat) (x : Log) → HasPass k m x
    → m.0.work ≡ Between Idle → slot < slots_of k → MayChange k slot m.0.change
    → i ≡ slot_place slot
    → Allows (Agrees k) slots id m i (λ _. 0) (Removes Clear (step slots i 0 0 none) m)

-- an idle pass swaps 0 into a slot's word, for a close
abbrev pub TakesKeep : Type 0
TakesKeep = (k : Start) (slots id i slot : ℕ) (m : Sat) (x : Log) → HasPass k m x
    → m.0.work ≡ Between Idle → slot < slots_of k → MayChange k slot m.0.change
    → i ≡ slot_place slot
    → Allows (Agrees k) slots id m i (λ _. 0) (Removes Take (step slots i 0 0 none) m)

-- a pass subtracts 2^32 minus the takes from the word of the file that it removed
abbrev pub RetiresKeep : Type 0
RetiresKeep = (k : Start) (slots id i amount takes : ℕ) (f : File) (m : Sat) (x : Log)
    → HasPass k m x → m.0.work ≡ Between (Retiring f takes) → i ≡ word_of k f.number
    → amount ≡ retire_amount_of takes
    → Allows (Agrees k) slots id m i (λ word. (word + (2 ^ 64 - amount)) % 2 ^ 64)
    (Retires (step slots i amount 0 none) m)

-- a pass subtracts 1 from the word of the file that it holds
abbrev pub ReleasesKeep : Type 0
ReleasesKeep = (k : Start) (slots id i : ℕ) (f : File) (m : Sat) (x : Log) → HasPass k m x
    → m.0.work ≡ Between (Holding f) → i ≡ word_of k f.number
    → Allows (Agrees k) slots id m i (λ word. (word + (2 ^ 64 - 1)) % 2 ^ 64)
    (Releases (step slots i 1 0 none) m)

-- a pass stores 0 in the word of a number whose file is closed, or was never installed
abbrev pub RestsKeep : Type 0
RestsKeep = (k : Start) (slots id i n : ℕ) (m : Sat) (x : Log) → HasPass k m x
    → (m.0.work ≡ Emptying n) ⊎ (m.0.work ≡ Placing n) → m.1 ≡ (place_of k n, None) ∷ []
    → i ≡ word_of k n
    → Allows (Agrees k) slots id m i (λ _. 0) (λ _. Rests (step slots i 0 0 none) m 0)

-- a pass outside a change adds 2^32 to the control word
abbrev pub BeginsKeep : Type 0
BeginsKeep = (k : Start) (slots id i : ℕ) (m : Sat) (x : Log) → HasPass k m x
    → m.0.change ≡ Outside → i ≡ control_place
    → Allows (Agrees k) slots id m i (λ word. (word + one_change) % 2 ^ 64)
    (GoesOn Same (step slots i one_change 0 none) m)

-- a pass in a change subtracts 2^32 minus its difference from the control word
abbrev pub EndsKeep : Type 0
EndsKeep = (k : Start) (slots id i amount : ℕ) (m : Sat) (x : Log) → HasPass k m x
    → in_change m.0.change ≡ 1 → amount + added m.0.change ≡ one_change + removed_by m.0.change
    → i ≡ control_place
    → Allows (Agrees k) slots id m i (λ word. (word + (2 ^ 64 - amount)) % 2 ^ 64)
    (GoesOn Outside (step slots i amount 0 none) m)

-- a pass in a change subtracts 2^32 from the control word, and reads whether every slot of the
-- range is full
abbrev pub AnswersKeep : Type 0
AnswersKeep = (k : Start) (slots id i : ℕ) (m : Sat) (x : Log) → HasPass k m x
    → m.0.change ≡ Same → i ≡ control_place
    → Allows (Agrees k) slots id m i (λ word. (word + (2 ^ 64 - one_change)) % 2 ^ 64)
    (SaysFull (step slots i one_change 0 none) m)

-- a pass in a change loads a word
abbrev pub LoadsKeep : Type 0
LoadsKeep = (k : Start) (slots id i : ℕ) (m : Sat) (x : Log) → HasPass k m x → m.0.change ≡ Same
    → Allows (Agrees k) slots id m i (λ word. word) (GoesOn Same (step slots i 0 0 none) m)

-- a pass in a change exchanges a word that names no file, at a slot of the range, for the word of
-- the file that it places
abbrev pub ExchangesKeep : Type 0
ExchangesKeep = (k : Start) (slots id i slot n old new : ℕ) (file : Identity) (m : Sat) (x : Log)
    → HasPass k m x → m.0.work ≡ Placing n → m.1 ≡ (place_of k n, Some file) ∷ []
    → file.entry < 2 ^ 8 → m.0.change ≡ Same → IsInRange k slot → i ≡ slot_place slot
    → name_in old ≡ 0 → new ≡ slot_word_of n file.entry
    → Allows (Agrees k) slots id m i (λ word. either (word == old) new word)
    (Exchanges (step slots i old new none) m)

-- an idle pass that hasn't got `None` adds 1 to the draw word
abbrev pub DrawsKeep : Type 0
DrawsKeep = (k : Start) (slots id i : ℕ) (m : Sat) (x : Log) → HasPass k m x
    → m.0.work ≡ Between Idle → x.no_chains_left ≡ false → i ≡ draw_place
    → Allows (Agrees k) slots id m i (λ word. (word + 1) % 2 ^ 64)
    (DrawsChain (step slots i 1 0 none) m)
