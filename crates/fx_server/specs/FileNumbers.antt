-- The numbers of the files that workers install.
use Rattle.std.specs.Prelude.{◌≡◌, ◌≢◌, ◌==◌, ◌+◌, ◌*◌, ◌^◌, ◌≤◌, if◌then◌else◌}
use Rattle.fx_server.specs.Words.{ℕ, zero, suc, nat_lt, List, map, MOST_INSTALLING, FileNumbers}
use Rattle.std.specs.List.{range_with_len}

-- the number after one of a worker: no addition overflows, and the number after 0 is 0
abbrev pub number_after : (step number : ℕ) → ℕ
number_after step number = if number == 0 then 0
    else if nat_lt (number + step) (2 ^ 64) then number + step else 0

-- a worker's numbers, after the next one was drawn
abbrev pub after_draw : FileNumbers → FileNumbers
after_draw numbers = record numbers { next = number_after numbers.step numbers.next }

-- the same, and the number is kept for a file that is not installed yet
abbrev pub after_keep : FileNumbers → FileNumbers
after_keep numbers = record (after_draw numbers) { kept = numbers.next }

-- no number is kept
abbrev pub without_kept : FileNumbers → FileNumbers
without_kept numbers = record numbers { kept = 0 }

-- the numbers of a new worker, by its place from 1
abbrev pub first_numbers : (installing place : ℕ) → FileNumbers
first_numbers installing place = record {
  next = if nat_lt installing place then 0 else place;
  step = installing;
  kept = 0;
}

-- those of the first `workers` workers, in their order
abbrev pub numbers_of_all : (installing workers : ℕ) → List FileNumbers
numbers_of_all installing workers = map (first_numbers installing) (range_with_len 1 workers)

-- the numbers after some draws, and the number that a worker draws next, by its place from 1
abbrev pub after_draws : FileNumbers → ℕ → FileNumbers
after_draws numbers zero = numbers
after_draws numbers (suc draws) = after_draw (after_draws numbers draws)

abbrev pub number_drawn : (installing worker draws : ℕ) → ℕ
number_drawn installing worker draws = (after_draws (first_numbers installing worker) draws).next

-- No number but 0 is drawn twice, so that no key names two files: one that two draws return was
-- drawn by one worker, in one draw
abbrev pub NumbersAreDrawnOnce : Type 0
NumbersAreDrawnOnce = (installing worker other draws others : ℕ)
    → installing ≤ MOST_INSTALLING → 1 ≤ worker → 1 ≤ other
    → number_drawn installing worker draws ≢ 0
    → number_drawn installing worker draws ≡ number_drawn installing other others
    → (worker ≡ other) × (draws ≡ others)

-- a worker that installs draws its numbers below 2^64, and then only 0
abbrev pub NumbersLast : Type 0
NumbersLast = (installing worker draws : ℕ) → installing ≤ MOST_INSTALLING → 1 ≤ worker
    → worker ≤ installing → number_drawn installing worker draws
    ≡ (if nat_lt (worker + draws * installing) (2 ^ 64) then worker + draws * installing else 0)
