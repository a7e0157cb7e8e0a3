-- The kinds of step keep the rule, whatever the table and the other passes are. A law takes the
-- place of its word as a premise.
use Rattle.std.specs.Prelude.{◌≡◌, ◌≢◌, ◌+◌, ◌-◌, ◌*◌, ◌%◌, ◌^◌, ◌<◌, ◌≤◌, ◌==◌, ◌⊎◌, ◌∷◌, None}
use Rattle.fx_lasting.specs.Words.{ℕ, true, false, [], Some, bit_and, step, Splits, Joins, Allows}
use Rattle.fx_lasting.specs.Words.{Identity, File, is_in, question_place, group_place, groups_in}
use Rattle.fx_lasting.specs.Words.{group_of, uncounted, bit_of, lowered, raised, with_question}
use Rattle.fx_lasting.specs.Words.{MOST_INSTALLING, Covered, Change, Outside, Lowered, Inside, Hot}
use Rattle.fx_lasting.specs.Words.{Cold, Heating, Log, Placement, Round, Start, View, Work}
use Rattle.fx_lasting.specs.Words.{Announced, Counted, Guarded, Owing, Yielding, Searching, Placing}
use Rattle.fx_lasting.specs.Words.{Emptying, Keeping, Written, Nothing as Unlabelled, Tag}
use Rattle.fx_lasting.specs.Agrees.{Agrees}
use Rattle.fx_lasting.specs.holds.HoldsAgree.{IsIdleIn}
use Rattle.fx_lasting.specs.nodes.Labels.{label_of, as_written}
use Rattle.fx_lasting.specs.life.Layout.{list_place, slot_place}
use Rattle.fx_lasting.specs.Fields.{heat_unit, birth_word, announced, charge, retirement_amount}
use Rattle.fx_lasting.specs.Fields.{full_name_in, file_word_of, without_file, name_mask}
use Rattle.fx_lasting.specs.Fields.{empty_word_of}
use Rattle.fx_lasting.specs.Passes.{Sat, HasNoFile, slots_of, range_at_start, word_of, alone_in}
use Rattle.fx_lasting.specs.Passes.{held_in, hold_word_of, HoldsAlone, HoldsBesides, HoldsOn}
use Rattle.fx_lasting.specs.Passes.{number_word_of, tag_word_of}
use Rattle.fx_lasting.specs.nodes.Stocks.{IsInStock}
use Rattle.fx_lasting.specs.Effects.{At, HasAnnounced}
use Rattle.table_range.specs.declared.views.Survey.TheVariants.{None as NotAsked}
use Rattle.fx_lasting.specs.declared.view.Glance.TheVariants.{None as Nothing}
use Rattle.fx_lasting.specs.declared.view.Work.TheVariants.{Idle, Retiring}
use mathlib.Core.Option.{none}
use prog.Atomic.{either}

-- the effect of a kind of step on its pass
abbrev pub Kind : Type 1
Kind = At → Sat → ℕ → Sat → Type 0

-- the seat has one pass of the table
abbrev pub HasPass : Start → Sat → Log → Type 0
HasPass k m x = (m.0.start ≡ k) × (m.0.logs ≡ x ∷ [])

-- the pass has no file, and looks nothing up
abbrev pub DoesNothing : Sat → Type 0
DoesNothing m = HasNoFile m.0.work × (m.0.glance ≡ Nothing)

-- the pass is about to let the file of the node go
abbrev pub HasToLetGo : Work → ℕ → Type 0
HasToLetGo w node = (w ≡ Owing node)
    ⊎ (((f : File) × (w ≡ Yielding f node)) ⊎ ((f : File) × (w ≡ Counted f node)))

-- a pass loads a slot's word, to look it up
abbrev pub GlancesKeep : Kind → Type 0
GlancesKeep tells = (k : Start) (slots id i slot : ℕ) (m : Sat) (x : Log) → HasPass k m x
    → DoesNothing m → slot < slots_of k → i ≡ slot_place slot
    → Allows (Agrees k) slots id m i (λ word. word) (tells (step slots i 0 0 none) m)

-- the pass does nothing, or has placed a file
abbrev pub MayAnnounce : Work → Type 0
MayAnnounce w = (w ≡ Idle) ⊎ ((own : ℕ) × (placement : Placement) × (w ≡ Placing own placement))

-- a listed pass that saw a hot slot stores its node's name in its hold word
abbrev pub AnnouncesKeep : Kind → Type 0
AnnouncesKeep tells = (k : Start) (slots id i slot node : ℕ) (m : Sat) (x : Log) → HasPass k m x
    → x.listed ≡ true → MayAnnounce m.0.work → m.0.glance ≡ Hot slot node
    → i ≡ hold_word_of k x.number
    → Allows (Agrees k) slots id m i (λ _. announced node)
    (λ _. tells (step slots i (announced node) 0 none) m (announced node))

-- a pass that isn't listed adds its bit to the list
abbrev pub ListsKeep : Kind → Type 0
ListsKeep tells = (k : Start) (slots id i : ℕ) (m : Sat) (x : Log) → HasPass k m x
    → x.listed ≡ false → i ≡ list_place x.number
    → Allows (Agrees k) slots id m i (λ word. (word + 2 ^ bit_of x.number) % 2 ^ 64)
    (tells (step slots i (2 ^ bit_of x.number) 0 none) m)

-- it loads the slot's word again
abbrev pub ConfirmsKeep : Kind → Type 0
ConfirmsKeep tells = (k : Start) (slots id i slot node : ℕ) (m : Sat) (x : Log) → HasPass k m x
    → HasAnnounced m.0.work node → m.0.glance ≡ Hot slot node → i ≡ slot_place slot
    → Allows (Agrees k) slots id m i (λ word. word) (tells (step slots i 0 0 none) m)

-- it swaps its announcement for 0
abbrev pub WithdrawsKeep : Kind → Type 0
WithdrawsKeep tells = (k : Start) (slots id i node : ℕ) (m : Sat) (x : Log) → HasPass k m x
    → m.0.work ≡ Announced node → i ≡ hold_word_of k x.number
    → Allows (Agrees k) slots id m i (λ _. 0) (tells (step slots i 0 0 none) m)

-- a listed pass adds a take to the word of a slot
abbrev pub TakesOnceKeep : Kind → Type 0
TakesOnceKeep tells = (k : Start) (slots id i slot : ℕ) (m : Sat) (x : Log) → HasPass k m x
    → x.listed ≡ true → m.0.work ≡ Idle → m.0.glance ≡ Cold slot → i ≡ slot_place slot
    → Allows (Agrees k) slots id m i (λ word. (word + 1) % 2 ^ 64) (tells (step slots i 1 0 none) m)

-- a pass that holds no file and looks nothing up loads a slot's word, to take what a cold slot
-- names
abbrev pub AimsKeep : Kind → Type 0
AimsKeep tells = (k : Start) (slots id i slot : ℕ) (m : Sat) (x : Log) → HasPass k m x
    → held_in m.0.work ≡ None → m.0.glance ≡ Nothing → slot < slots_of k → i ≡ slot_place slot
    → Allows (Agrees k) slots id m i (λ word. word) (tells (step slots i 0 0 none) m)

-- a listed pass that has placed a file adds a take to the word of a slot
abbrev pub TakesBesideKeep : Kind → Type 0
TakesBesideKeep tells = (k : Start) (slots id i slot own : ℕ) (placement : Placement) (m : Sat)
    (x : Log) → HasPass k m x → x.listed ≡ true → m.0.work ≡ Placing own placement
    → m.0.glance ≡ Cold slot → i ≡ slot_place slot
    → Allows (Agrees k) slots id m i (λ word. (word + 1) % 2 ^ 64) (tells (step slots i 1 0 none) m)

-- a listed pass that took at a slot with its takes heats the slot
abbrev pub HeatsKeep : Kind → Type 0
HeatsKeep tells = (k : Start) (slots id i slot : ℕ) (m : Sat) (x : Log) → HasPass k m x
    → x.listed ≡ true → m.0.glance ≡ Heating slot → i ≡ slot_place slot
    → Allows (Agrees k) slots id m i (λ word. (word + heat_unit) % 2 ^ 64)
    (tells (step slots i heat_unit 0 none) m)

-- a pass swaps 0 for the name of the node whose file it holds
abbrev pub StepsDownKeep : Kind → Type 0
StepsDownKeep tells = (k : Start) (slots id i node : ℕ) (f : File) (m : Sat) (x : Log)
    → HasPass k m x → m.0.work ≡ Guarded f node → i ≡ hold_word_of k x.number
    → Allows (Agrees k) slots id m i (λ _. 0) (tells (step slots i 0 0 none) m)

-- a pass subtracts the charge that it owes, or the take by which it holds a file
abbrev pub LettingGoKeeps : Kind → Type 0
LettingGoKeeps tells = (k : Start) (slots id i node : ℕ) (m : Sat) (x : Log) → HasPass k m x
    → HasToLetGo m.0.work node → i ≡ word_of k node
    → Allows (Agrees k) slots id m i (λ word. (word + (2 ^ 64 - 1)) % 2 ^ 64)
    (tells (step slots i 1 0 none) m)

-- a pass loads the word of a node of its stock, to find a free one
abbrev pub SeeksKeep : Kind → Type 0
SeeksKeep tells = (k : Start) (slots id i node : ℕ) (m : Sat) (x : Log) → HasPass k m x
    → HasNoFile m.0.work → x.number ≤ k.installing → IsInStock x.stock node → i ≡ word_of k node
    → Allows (Agrees k) slots id m i (λ word. word) (tells (step slots i 0 0 none) m)

-- a pass stores the first word of a file in that of a node that is free
abbrev pub BirthsKeep : Kind → Type 0
BirthsKeep tells = (k : Start) (slots id i node : ℕ) (m : Sat) (x : Log) → HasPass k m x
    → m.0.work ≡ Searching node → i ≡ word_of k node
    → Allows (Agrees k) slots id m i (λ _. birth_word)
    (λ _. tells (step slots i birth_word 0 none) m birth_word)

-- a pass loads the tag that the node's word for it has, before it stores one
abbrev pub RecallsTagKeep : Kind → Type 0
RecallsTagKeep tells = (k : Start) (slots id i node lost : ℕ) (m : Sat) (x : Log) → HasPass k m x
    → m.0.work ≡ Placing node (as_written lost Unlabelled) → i ≡ tag_word_of k node
    → Allows (Agrees k) slots id m i (λ word. word) (tells (step slots i 0 0 none) m)

-- a pass stores the tag of its file in the node's word for it
abbrev pub TagsKeep : Kind → Type 0
TagsKeep tells = (k : Start) (slots id i node lost tag : ℕ) (written : Written) (m : Sat) (x : Log)
    → HasPass k m x → m.0.work ≡ Placing node (as_written lost written) → i ≡ tag_word_of k node
    → Allows (Agrees k) slots id m i (λ _. tag) (λ _. tells (step slots i tag 0 none) m tag)

-- and then the number
abbrev pub NumbersKeep : Kind → Type 0
NumbersKeep tells = (k : Start) (slots id i node lost tag number : ℕ) (m : Sat) (x : Log)
    → HasPass k m x → m.0.work ≡ Placing node (as_written lost (Tag tag))
    → i ≡ number_word_of k node
    → Allows (Agrees k) slots id m i (λ _. number)
    (λ _. tells (step slots i number 0 none) m number)

-- a pass loads the tag of the file that it holds
abbrev pub ReadsTagKeep : Kind → Type 0
ReadsTagKeep tells = (k : Start) (slots id i node : ℕ) (f : File) (m : Sat) (x : Log)
    → HasPass k m x → HoldsOn m.0.work f node → i ≡ tag_word_of k node
    → Allows (Agrees k) slots id m i (λ word. word) (tells (step slots i 0 0 none) m)

-- or the number
abbrev pub ReadsNumberKeep : Kind → Type 0
ReadsNumberKeep tells = (k : Start) (slots id i node : ℕ) (f : File) (m : Sat) (x : Log)
    → HasPass k m x → HoldsOn m.0.work f node → i ≡ number_word_of k node
    → Allows (Agrees k) slots id m i (λ word. word) (tells (step slots i 0 0 none) m)

-- the node's place is with the pass, whose file is closed or was not installed
abbrev pub HasItsPlace : Work → ℕ → Type 0
HasItsPlace w node =
    (w ≡ Emptying node) ⊎ ((placement : Placement) × (alone_in w ≡ Placing node placement))

-- a pass stores 0 in the word of a node whose file is closed or was not installed
abbrev pub RestsKeep : Kind → Type 0
RestsKeep tells = (k : Start) (slots id i n : ℕ) (m : Sat) (x : Log) → HasPass k m x
    → HasItsPlace m.0.work n → m.1 ≡ (n, None) ∷ [] → i ≡ word_of k n
    → Allows (Agrees k) slots id m i (λ _. 0) (λ _. tells (step slots i 0 0 none) m 0)

-- a pass loads the word of a node of its stock whose file is closed, to keep the node
abbrev pub ParksKeep : Kind → Type 0
ParksKeep tells = (k : Start) (slots id i n : ℕ) (m : Sat) (x : Log) → HasPass k m x
    → m.0.work ≡ Emptying n → IsInStock x.stock n → m.1 ≡ (n, None) ∷ [] → i ≡ word_of k n
    → Allows (Agrees k) slots id m i (λ word. word) (tells (step slots i 0 0 none) m)

-- a pass loads the word of the node that it keeps, to place a file there
abbrev pub ResumesKeep : Kind → Type 0
ResumesKeep tells = (k : Start) (slots id i n lost : ℕ) (m : Sat) (x : Log) → HasPass k m x
    → m.0.work ≡ Keeping n lost → i ≡ word_of k n
    → Allows (Agrees k) slots id m i (λ word. word) (tells (step slots i 0 0 none) m)

-- a pass stores 0 in the word of the node that it keeps
abbrev pub SettlesKeep : Kind → Type 0
SettlesKeep tells = (k : Start) (slots id i n lost : ℕ) (m : Sat) (x : Log) → HasPass k m x
    → m.0.work ≡ Keeping n lost → i ≡ word_of k n
    → Allows (Agrees k) slots id m i (λ _. 0) (λ _. tells (step slots i 0 0 none) m 0)

-- a pass stores 0 in its hold word, which names the node whose file it has removed
abbrev pub EndsItsHoldKeep : Kind → Type 0
EndsItsHoldKeep tells = (k : Start) (slots id i node takes charges : ℕ) (round : Round) (f : File)
    (m : Sat) (x : Log) → HasPass k m x → m.0.work ≡ Retiring f node takes round charges
    → round.guarded ≡ true → i ≡ hold_word_of k x.number
    → Allows (Agrees k) slots id m i (λ _. 0) (λ _. tells (step slots i 0 0 none) m 0)

-- the pass is the one that retires a file, or one that the round needn't visit
abbrev pub IsPassed : ℕ → Round → ℕ → Type 0
IsPassed number round pass = (pass ≡ number) ⊎ IsIdleIn round pass

-- a pass that removed a hot file loads a word of the list, after it has visited the passes of the
-- words before it
abbrev pub SkimsKeep : Kind → Type 0
SkimsKeep tells = (k : Start) (slots id i node takes charges index : ℕ) (round : Round) (f : File)
    (m : Sat) (x : Log) → HasPass k m x → m.0.work ≡ Retiring f node takes round charges
    → round.guarded ≡ false → index < 16 → round.next ≤ 64 * index + 1
    → ((p : ℕ) → round.next ≤ p → p ≤ 64 * index → IsPassed x.number round p) → i ≡ 6 + index
    → Allows (Agrees k) slots id m i (λ word. word) (tells (step slots i 0 0 none) m)

-- a pass that removed a hot file loads the hold word of the next pass that it has to visit
abbrev pub VisitsKeep : Kind → Type 0
VisitsKeep tells = (k : Start) (slots id i node takes charges pass : ℕ) (round : Round) (f : File)
    (m : Sat) (x : Log) → HasPass k m x → m.0.work ≡ Retiring f node takes round charges
    → round.guarded ≡ false → round.next ≤ pass → pass ≤ k.passes → pass ≢ x.number
    → ((p : ℕ) → round.next ≤ p → p < pass → IsPassed x.number round p) → i ≡ hold_word_of k pass
    → Allows (Agrees k) slots id m i (λ word. word) (tells (step slots i 0 0 none) m)

-- it charges the hold word of that pass, if it names the node still
abbrev pub ChargesKeep : Kind → Type 0
ChargesKeep tells = (k : Start) (slots id i node takes charges pass : ℕ) (round : Round) (f : File)
    (m : Sat) (x : Log) → HasPass k m x → m.0.work ≡ Retiring f node takes round charges
    → round.guarded ≡ false → round.next ≤ pass → pass ≤ k.passes → pass ≢ x.number
    → ((p : ℕ) → round.next ≤ p → p < pass → IsPassed x.number round p) → i ≡ hold_word_of k pass
    → Allows (Agrees k) slots id m i
    (λ word. either (word == announced node) (announced node + charge) word)
    (tells (step slots i (announced node) (announced node + charge) none) m)

-- it loads the node's word, when it has visited all passes that it has to
abbrev pub FinishesKeep : Kind → Type 0
FinishesKeep tells = (k : Start) (slots id i node takes charges : ℕ) (round : Round) (f : File)
    (m : Sat) (x : Log) → HasPass k m x → m.0.work ≡ Retiring f node takes round charges
    → round.guarded ≡ false
    → ((p : ℕ) → round.next ≤ p → p ≤ k.passes → IsPassed x.number round p) → i ≡ word_of k node
    → Allows (Agrees k) slots id m i (λ word. word) (tells (step slots i 0 0 none) m)

-- it subtracts 2^32 less the takes and the charges, when it has visited all passes that it has to
abbrev pub RetiresKeep : Kind → Type 0
RetiresKeep tells = (k : Start) (slots id i node takes charges amount : ℕ) (round : Round)
    (f : File) (m : Sat) (x : Log) → HasPass k m x → m.0.work ≡ Retiring f node takes round charges
    → round.guarded ≡ false
    → ((p : ℕ) → round.next ≤ p → p ≤ k.passes → IsPassed x.number round p) → i ≡ word_of k node
    → amount ≡ retirement_amount takes charges
    → Allows (Agrees k) slots id m i (λ word. (word + (2 ^ 64 - amount)) % 2 ^ 64)
    (tells (step slots i amount 0 none) m)

-- the slot is in the allocation range
abbrev pub IsInRange : Start → ℕ → Type 0
IsInRange k slot = let range = range_at_start k in (range.0 ≤ slot) × (slot < range.0 + range.1)

-- the slot is off the count, if it is in the range
abbrev pub IsOffCount : Start → ℕ → Change → Type 0
IsOffCount k slot change = let range = range_at_start k in
    change ≡ uncounted (is_in range slot) true (group_of range slot)

-- the first pass of an idle seat goes to a seat of its own
abbrev pub SplitsKeep : (View → View) → (View → View) → Type 0
SplitsKeep left right = (k : Start) (id : ℕ) (v : View)
    → v.work ≡ Idle → v.glance ≡ Nothing → v.change ≡ Outside
    → Splits (Agrees k) id v (left v) (right v)

-- an idle seat takes in the passes of another
abbrev pub JoinsKeep : (View → View → View) → View → Type 0
JoinsKeep both spent = (k : Start) (id : ℕ) (v : View)
    → v.start ≡ k → HasNoFile v.work → v.glance ≡ Nothing → v.change ≡ Outside
    → (other : ℕ) (w : View) → HasNoFile w.work → w.glance ≡ Nothing → w.change ≡ Outside
    → Joins (Agrees k) id v other w (both v w) spent

-- the group is one of the range
abbrev pub IsGroup : Start → ℕ → Type 0
IsGroup k group = group < groups_in (range_at_start k).1

-- a pass subtracts 1 from a group's word
abbrev pub LowersKeep : Kind → Type 0
LowersKeep tells = (k : Start) (slots id i group : ℕ) (m : Sat) (x : Log) → HasPass k m x
    → m.0.change ≡ Outside → IsGroup k group → i ≡ group_place group
    → Allows (Agrees k) slots id m i lowered (tells (step slots i 1 0 none) m)

-- then it loads the question word
abbrev pub ChecksKeep : Kind → Type 0
ChecksKeep tells = (k : Start) (slots id i group : ℕ) (m : Sat) (x : Log) → HasPass k m x
    → m.0.change ≡ Lowered group → i ≡ question_place
    → Allows (Agrees k) slots id m i (λ word. word) (tells (step slots i 0 0 none) m)

-- and swaps 0 into it
abbrev pub BreaksKeep : Kind → Type 0
BreaksKeep tells = (k : Start) (slots id i group : ℕ) (m : Sat) (x : Log) → HasPass k m x
    → m.0.change ≡ Lowered group → i ≡ question_place
    → Allows (Agrees k) slots id m i (λ _. 0) (tells (step slots i 0 0 none) m)

-- a pass adds the slot that the group's word counts too few on its account
abbrev pub RaisesKeep : Kind → Type 0
RaisesKeep tells = (k : Start) (slots id i group : ℕ) (m : Sat) (x : Log) → HasPass k m x
    → m.0.change ≡ Inside group → IsGroup k group → i ≡ group_place group
    → Allows (Agrees k) slots id m i raised (tells (step slots i 1 0 none) m)

-- a pass that installs files loads the question word, before it asks
abbrev pub BeginsKeep : Kind → Type 0
BeginsKeep tells = (k : Start) (slots id i : ℕ) (m : Sat) (x : Log) → HasPass k m x
    → x.number ≤ MOST_INSTALLING → i ≡ question_place
    → Allows (Agrees k) slots id m i (λ word. word) (tells (step slots i 0 0 none) m)

-- it adds its bit to the question word, which doesn't have it
abbrev pub AsksKeep : Kind → Type 0
AsksKeep tells = (k : Start) (slots id i : ℕ) (m : Sat) (x : Log) → HasPass k m x
    → x.number ≤ MOST_INSTALLING → x.asked ≡ NotAsked → i ≡ question_place
    → Allows (Agrees k) slots id m i (with_question x.number)
    (tells (step slots i (2 ^ bit_of x.number) 0 none) m)

-- it loads the word of the next group
abbrev pub CountsKeep : Kind → Type 0
CountsKeep tells = (k : Start) (slots id i group : ℕ) (m : Sat) (x : Log) → HasPass k m x
    → x.asked ≡ Covered group → IsGroup k group → i ≡ group_place group
    → Allows (Agrees k) slots id m i (λ word. word) (tells (step slots i 0 0 none) m)

-- it loads the question word, after it has visited all groups
abbrev pub DecidesKeep : Kind → Type 0
DecidesKeep tells = (k : Start) (slots id i : ℕ) (m : Sat) (x : Log) → HasPass k m x
    → x.number ≤ MOST_INSTALLING → x.asked ≡ Covered (groups_in (range_at_start k).1)
    → i ≡ question_place
    → Allows (Agrees k) slots id m i (λ word. word) (tells (step slots i 0 0 none) m)

-- a pass that asks nothing loads the word of a group
abbrev pub PeeksKeep : Kind → Type 0
PeeksKeep tells = (k : Start) (slots id i group : ℕ) (m : Sat) (x : Log) → HasPass k m x
    → IsGroup k group → i ≡ group_place group
    → Allows (Agrees k) slots id m i (λ word. word) (tells (step slots i 0 0 none) m)

-- a pass swaps the word of the file that it places into a slot. The word begins with the takes that
-- the node's word has lost
abbrev pub InstallsKeep : Kind → Type 0
InstallsKeep tells = (k : Start) (slots id i slot n lost new : ℕ) (file : Identity) (m : Sat)
    (x : Log) → HasPass k m x → m.0.work ≡ Placing n (as_written lost (label_of file))
    → m.1 ≡ (n, Some file) ∷ [] → file.entry < 2 ^ 8 → slot < slots_of k → m.0.change ≡ Outside
    → i ≡ slot_place slot → new ≡ file_word_of n file.entry + lost
    → Allows (Agrees k) slots id m i (λ _. new) (tells (step slots i new 0 none) m)

-- an idle pass leaves of a slot's word the name alone
abbrev pub TakesOutKeep : Kind → Type 0
TakesOutKeep tells = (k : Start) (slots id i slot : ℕ) (m : Sat) (x : Log) → HasPass k m x
    → HasNoFile m.0.work → slot < slots_of k → IsOffCount k slot m.0.change → i ≡ slot_place slot
    → Allows (Agrees k) slots id m i (λ word. bit_and word name_mask)
    (tells (step slots i name_mask 0 none) m)

-- an idle pass swaps the word of an empty slot that names a node of its stock into a slot
abbrev pub SwapsOutKeep : Kind → Type 0
SwapsOutKeep tells = (k : Start) (slots id i slot n new : ℕ) (m : Sat) (x : Log) → HasPass k m x
    → HasNoFile m.0.work → slot < slots_of k → IsOffCount k slot m.0.change → IsInStock x.stock n
    → i ≡ slot_place slot → new ≡ empty_word_of n
    → Allows (Agrees k) slots id m i (λ _. new) (tells (step slots i new 0 none) m)

-- a pass exchanges the word of an empty slot of the range for the word of the file that it places
abbrev pub ExchangesKeep : Kind → Type 0
ExchangesKeep tells = (k : Start) (slots id i slot n lost old new : ℕ) (file : Identity) (m : Sat)
    (x : Log) → HasPass k m x → m.0.work ≡ Placing n (as_written lost (label_of file))
    → m.1 ≡ (n, Some file) ∷ [] → file.entry < 2 ^ 8 → m.0.change ≡ Outside → IsInRange k slot
    → i ≡ slot_place slot → full_name_in old ≡ 0 → new ≡ file_word_of n file.entry + lost
    → Allows (Agrees k) slots id m i (λ word. either (word == old) new word)
    (tells (step slots i old new none) m)

-- a pass loads a slot's word, and learns what is at the slot
abbrev pub SeesKeep : Kind → Type 0
SeesKeep tells = (k : Start) (slots id i slot : ℕ) (m : Sat) (x : Log) → HasPass k m x
    → slot < slots_of k → i ≡ slot_place slot
    → Allows (Agrees k) slots id m i (λ word. word) (tells (step slots i 0 0 none) m)

-- a pass that holds the file of a node exchanges the word of a slot that it saw, which names the
-- node, for the word of an empty slot that names a node of its stock
abbrev pub SwapsHeldKeep : Kind → Type 0
SwapsHeldKeep tells = (k : Start) (slots id i slot n old new node : ℕ) (f : File) (m : Sat)
    (x : Log) → HasPass k m x → HoldsAlone m.0.work f node → full_name_in old ≡ node + 1
    → slot < slots_of k → IsOffCount k slot m.0.change → IsInStock x.stock n
    → i ≡ slot_place slot → new ≡ empty_word_of n
    → Allows (Agrees k) slots id m i (λ word. either (word == old) new word)
    (tells (step slots i old new none) m)

-- or for its name alone
abbrev pub TakesHeldKeep : Kind → Type 0
TakesHeldKeep tells = (k : Start) (slots id i slot old new node : ℕ) (f : File) (m : Sat)
    (x : Log) → HasPass k m x → HoldsAlone m.0.work f node → full_name_in old ≡ node + 1
    → slot < slots_of k → IsOffCount k slot m.0.change → i ≡ slot_place slot
    → new ≡ without_file old
    → Allows (Agrees k) slots id m i (λ word. either (word == old) new word)
    (tells (step slots i old new none) m)

-- a pass that holds the file of a node, and has placed another one, exchanges the word of a slot
-- that it saw, which names the node, for the word of the file that it places
abbrev pub ReplacesHeldKeep : Kind → Type 0
ReplacesHeldKeep tells = (k : Start) (slots id i slot n lost old new node : ℕ) (file : Identity)
    (f : File) (m : Sat) (x : Log) → HasPass k m x
    → HoldsBesides m.0.work f node n (as_written lost (label_of file)) → m.1 ≡ (n, Some file) ∷ []
    → file.entry < 2 ^ 8 → full_name_in old ≡ node + 1 → slot < slots_of k → m.0.change ≡ Outside
    → i ≡ slot_place slot → new ≡ file_word_of n file.entry + lost
    → Allows (Agrees k) slots id m i (λ word. either (word == old) new word)
    (tells (step slots i old new none) m)
