-- Passes, as views show them.
use Rattle.std.specs.Prelude.{◌-◌, ◌*◌, ◌==◌, ◌∷◌, if◌then◌else◌}
use Rattle.fx_counted.specs.Words.{ℕ, false, List, [], Option, Some, None, sum_by, count_by, Me}
use Rattle.fx_counted.specs.Words.{Identity, part_of_pass, File, Event, Opening, state_at, size_of}
use Rattle.fx_counted.specs.Words.{numbers_up_to, PassView, PASS_LOOKS, activity_of, Log, Start}
use Rattle.fx_counted.specs.Words.{View, Work, Between, Placing, Holding}
use Rattle.atomic_table.specs.Table.{State as TableState}
use Rattle.fx_plain.specs.State.{State}
use Rattle.fx_table.specs.declared.values.Doing.{Doing}
use Rattle.fx_counted.specs.Layout.{HasNode}
use Rattle.fx_table.specs.declared.values.Doing.TheVariants as doing

-- the table as steps see it: a place has an open file or none
abbrev pub Shared : Type 0
Shared = TableState (Option Identity) View

-- a seat's view, and the places that it has
abbrev pub Sat : Type 0
Sat = Me (Option Identity) View

-- the opening of the table, as the contract of all shared tables shows it
abbrev pub opening_of : Start → Opening
opening_of k = record {
  contents = k.plain.value;
  chains = k.chains;
  passes = k.passes;
  numbers = k.numbers;
  lasts = false;
}

-- the number of slots
abbrev pub slots_of : Start → ℕ
slots_of k = size_of (opening_of k)

-- the number of file numbers of all chains together
abbrev pub chain_numbers : Start → ℕ
chain_numbers k = k.numbers * k.chains

-- the number is that of a slot or of a chain
abbrev pub IsNumber : Start → ℕ → Type 0
IsNumber k number = HasNode (slots_of k) (chain_numbers k) number

-- the state that a history leads to
abbrev pub state_after_all : Start → List Event → State
state_after_all k h = state_at (opening_of k) h

-- the head of a list, or `n` for an empty list
abbrev pub first_or : ℕ → List ℕ → ℕ
first_or n [] = n
first_or n (m ∷ ms) = m

-- the chain that a pass drew last, or 0
abbrev pub chain_in : Log → ℕ
chain_in x = first_or 0 x.drawn

-- the number after the last one of the pass's chain
abbrev pub end_in : Start → Log → ℕ
end_in k x = numbers_up_to k.numbers (chain_in x)

-- the number that the next installation uses
abbrev pub next_in : Start → Log → ℕ
next_in k x = end_in k x - x.numbers_left

-- the activity of a pass between two calls, as the contract of all shared tables shows it
abbrev pub doing_in : Work → Doing
doing_in (Between task) = activity_of task
doing_in _ = doing.Idle

-- a pass, as the contract of all shared tables shows it
abbrev pub shown : Log → Work → PassView
shown x work = record {
  number = x.number;
  front = x.front;
  own = part_of_pass x.number x.front;
  chain = chain_in x;
  drawn = x.drawn;
  no_chains_left = x.no_chains_left;
  numbers_left = x.numbers_left;
  looks_left = x.looks_left;
  doing = doing_in work;
}

-- a pass that has seen and made no event
abbrev pub new_log : ℕ → Log
new_log p = record {
  number = p;
  front = [];
  drawn = [];
  no_chains_left = false;
  numbers_left = 0;
  looks_left = PASS_LOOKS;
  steps = 0;
}

-- the only pass of a seat
abbrev pub first_log : List Log → Log
first_log [] = new_log 0
first_log (x ∷ xs) = x

-- that pass, as the contract of all shared tables shows it
abbrev pub pass_of : View → PassView
pass_of v = shown (first_log v.logs) v.work

-- the number of atomic steps that it has made
abbrev pub steps_of : View → ℕ
steps_of v = (first_log v.logs).steps

-- the file that the pass holds
abbrev pub held_in : Work → Option File
held_in (Between (Holding f)) = Some f
held_in _ = None

-- 1 if the pass is about to install a file, otherwise 0
abbrev pub placing : Work → ℕ
placing (Placing number) = 1
placing _ = 0

-- 1 if the pass holds the file of the number, otherwise 0
abbrev pub holding : ℕ → Work → ℕ
holding n (Between (Holding f)) = if f.number == n then 1 else 0
holding n _ = 0

-- the number of times that they drew the chain
abbrev pub drawn_of : ℕ → View → ℕ
drawn_of c v = sum_by (λ x. count_by (λ d. d == c) x.drawn) v.logs

-- the number of them that got `None`
abbrev pub ended_of : View → ℕ
ended_of v = count_by (λ x. x.no_chains_left) v.logs

-- the look-ups that they have left
abbrev pub looks_of : View → ℕ
looks_of v = sum_by (λ x. x.looks_left) v.logs

-- 1 if a view's pass holds the file of the number, otherwise 0
abbrev pub held_of : ℕ → View → ℕ
held_of n v = holding n v.work
