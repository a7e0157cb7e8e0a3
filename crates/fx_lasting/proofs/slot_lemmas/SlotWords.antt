-- The words of slots, full and empty: what is read of a word that was made.
use Rattle.std.proofs.Common.{◌≡◌, ◌≢◌, ℕ, ◌+◌, ◌-◌, ◌/◌, ◌%◌, ◌^◌, ◌<◌, ◌≤◌, ap, ◌∙◌, arith, cond, eqb, eq-eqb, ne_eqb}
use Rattle.std.specs.Prelude.{bit_and}
use Rattle.std.proofs.lemmas.Nat.Bits.{and_high_mask}
use Rattle.fx_words.specs.Words.{name_in, entry_in}
use Rattle.fx_lasting.specs.Fields.{full_name_in, file_word_of, empty_word_of, without_file, name_mask, count_in, heat_in, cold_takes, most_carried}

-- the bit of a word that says that the slot is full
abbrev pub full_bit : ℕ → ℕ
full_bit word = word / 2 ^ 20 % 2

pub when_full : (word : ℕ) → full_bit word ≡ 1 → full_name_in word ≡ name_in word
when_full word is = ap (λ b. cond b (name_in word) 0) (eq-eqb (full_bit word) 1 is)

pub when_empty : (word : ℕ) → full_bit word ≢ 1 → full_name_in word ≡ 0
when_empty word is = ap (λ b. cond b (name_in word) 0) (ne_eqb (full_bit word) 1 is)

-- a word that names a file names its node
pub name_of_file : (word n : ℕ) → full_name_in word ≡ n + 1 → name_in word ≡ n + 1
name_of_file word n is = grind (arith, when_full, when_empty)

-- words that agree in the name and in that bit
pub same_full_name : (new old : ℕ) → name_in new ≡ name_in old → full_bit new ≡ full_bit old → full_name_in new ≡ full_name_in old
same_full_name new old name bit = λ i. cond (eqb (bit i) 1) (name i) 0

-- one take less, and nothing else
pub one_less : (word : ℕ) → 0 < count_in word → (full_name_in (word - 1) ≡ full_name_in word) × (heat_in (word - 1) ≡ heat_in word)
    × (count_in (word - 1) + 1 ≡ count_in word) × (entry_in (word - 1) ≡ entry_in word)
one_less word some = (same_full_name (word - 1) word (omega arith) (omega arith), omega arith, omega arith, omega arith)

-- the word of a slot with a file, if it begins with some takes
pub name_carried : (node entry lost : ℕ) → entry < 2 ^ 8 → lost ≤ most_carried → name_in (file_word_of node entry + lost) ≡ node + 1
name_carried node entry lost small few = omega arith

pub full_name_carried : (node entry lost : ℕ) → entry < 2 ^ 8 → lost ≤ most_carried → full_name_in (file_word_of node entry + lost) ≡ node + 1
full_name_carried node entry lost small few = when_full (file_word_of node entry + lost) (omega arith) ∙ name_carried node entry lost small few

pub entry_carried : (node entry lost : ℕ) → entry < 2 ^ 8 → lost ≤ most_carried → entry_in (file_word_of node entry + lost) ≡ entry
entry_carried node entry lost small few = omega arith

pub takes_carried : (node entry lost : ℕ) → lost ≤ most_carried → count_in (file_word_of node entry + lost) ≡ lost
takes_carried node entry lost few = omega arith

pub heat_carried : (node entry lost : ℕ) → lost ≤ most_carried → heat_in (file_word_of node entry + lost) ≡ 0
heat_carried node entry lost few = omega arith

-- a slot whose word begins with some takes is cold
pub takes_are_few : (passes lost : ℕ) → lost ≤ most_carried → lost ≤ cold_takes passes
takes_are_few passes lost few = grind arith

-- the word of an empty slot
pub empty_name_made : (node : ℕ) → name_in (empty_word_of node) ≡ node + 1
empty_name_made node = omega arith

pub empty_file_made : (node : ℕ) → full_name_in (empty_word_of node) ≡ 0
empty_file_made node = when_empty (empty_word_of node) (λ bad. omega (arith, bad))

pub empty_takes_made : (node : ℕ) → (count_in (empty_word_of node) ≡ 0) × (heat_in (empty_word_of node) ≡ 0)
empty_takes_made node = (omega arith, omega arith)

-- the word of a slot whose file was removed
pub name_left : (word : ℕ) → name_in (without_file word) ≡ name_in word
name_left word = omega arith

pub no_file_left : (word : ℕ) → full_name_in (without_file word) ≡ 0
no_file_left word = when_empty (without_file word) (λ bad. omega (arith, bad))

pub no_takes_left : (word : ℕ) → (count_in (without_file word) ≡ 0) × (heat_in (without_file word) ≡ 0)
no_takes_left word = (omega arith, omega arith)

pub mask_leaves_name : (word : ℕ) → word < 2 ^ 64 → bit_and word name_mask ≡ without_file word
mask_leaves_name word fits = and_high_mask 64 40 (omega arith) word fits
