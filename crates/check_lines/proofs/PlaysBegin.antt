-- The output of a play begins with no line of a closed file or of a tag.
use Rattle.check_lines.proofs.{Instruction, SubmitsAll, either_case, either_option, ◌≡◌, ℕ, zero, suc, ◌/◌, ◌%◌, ◌==◌, true, false, List, [], ◌∷◌}
use Rattle.check_lines.proofs.{◌++◌, refl, sym, ap, ◌∙◌, arith, if◌then◌else◌, codes, decimal, nat_tests, is_digit, HasNoCloses, ◌≤◌, nat_le, length}
use Rattle.check_lines.proofs.{drop, subst, ℤ, append_assoc, FileEntry, Closed, Event, Completed, Asked, Reported, completion_lines, result_line}
use Rattle.check_lines.proofs.{Contains, nil_from_length, length_permutation, fault_of, RingContents, IsOneHistory, MOST_SUBMISSIONS, Prints}
use Rattle.check_lines.proofs.{PrintsReport, PlaysBeginWithNoClose, closes_text, too_many_line, digit_glyph, digits_onto, each_request}
use Rattle.std.specs.Fmt.{digits}
use Rattle.check_lines.proofs.Calls.{answers, tail_of}

-- a text with another first byte
pub by_first : {b : ℕ} (rest : List ℕ) → (b == 99) ≡ false → (b == 116) ≡ false → HasNoCloses (b ∷ rest)
by_first rest no_c no_t = grind arith

pub by_teardown : (rest : List ℕ) → HasNoCloses (codes "teardown\n" ++ rest)
by_teardown rest = grind arith

pub by_nothing : HasNoCloses []
by_nothing = record { no_closed = λ starts. cc starts; no_tag = λ starts. cc starts }

-- whatever the number, its first digit is one
last_digit : (n : ℕ) → is_digit (digit_glyph false (n % 10)) ≡ true
last_digit n = grind arith

abbrev pub BeginsWithDigit : List ℕ → Type 0
BeginsWithDigit text = (d : ℕ) × (more : List ℕ) × (text ≡ d ∷ more) × (is_digit d ≡ true)

onto : (k n d : ℕ) (acc : List ℕ) → is_digit d ≡ true → BeginsWithDigit (digits_onto k 10 false n (d ∷ acc))
onto zero n d acc is = (d, acc, refl, is)
onto (suc k) n d acc is = elim (n / 10 == 0) as (λ b. BeginsWithDigit
    (if b then digit_glyph false (n % 10) ∷ d ∷ acc else digits_onto k 10 false (n / 10) (digit_glyph false (n % 10) ∷ d ∷ acc))) [
      | true ↦ (digit_glyph false (n % 10), d ∷ acc, refl, last_digit n)
      | false ↦ onto k (n / 10) (digit_glyph false (n % 10)) (d ∷ acc) (last_digit n)
    ]

pub begins_with_digit : (n : ℕ) → BeginsWithDigit (decimal n)
unfolding digits
begins_with_digit n = elim (n / 10 == 0) as (λ b. BeginsWithDigit
    (if b then digit_glyph false (n % 10) ∷ [] else digits_onto 63 10 false (n / 10) (digit_glyph false (n % 10) ∷ []))) [
      | true ↦ (digit_glyph false (n % 10), [], refl, last_digit n)
      | false ↦ onto 63 (n / 10) (digit_glyph false (n % 10)) [] (last_digit n)
    ]

-- no other byte is the first of a number
pub digit_first : (n b : ℕ) (rest others : List ℕ) → is_digit b ≡ false → b ∷ rest ≡ decimal n ++ others → ⊥
digit_first n b rest others none same = grind (arith, begins_with_digit n)

pub no_letter : (d : ℕ) → is_digit d ≡ true → ((d == 99) ≡ false) × ((d == 116) ≡ false)
no_letter d is = (grind (arith, nat_tests), grind (arith, nat_tests))

-- The output of a play begins with no line of a closed file or of a tag.

-- no events of no chains
no_events : (history : List Event) → ((e : Event) → Contains history e → (1 ≤ e.chain) × (e.chain ≤ 0)) → history ≡ []
no_events [] of_chains = refl
no_events (e ∷ history) of_chains = let (low, high) = of_chains e (0, omega arith, refl) in absurd (omega arith)

-- a report that has no completions closed no files
no_closes : {old : RingContents} {asked : List Asked} {report : Reported} {new : RingContents} → IsOneHistory old asked report new
    → report.completions ≡ [] → report.closes.files ≡ []
no_closes {old} {asked} {report} {new} one empty =
    let none : asked ≡ [] = nil_from_length asked (sym (each_request old asked report new one) ∙ ap length empty) in
    let nothing = no_events one.history (λ e has. let (low, high) = one.chains e has in (low, rw none at high)) in
    nil_from_length report.closes.files (length_permutation [] report.closes.files (rw nothing at one.closed.same_files))

-- the lines of a report, and the text after them
report_begins : (catalogue : List FileEntry) (completions : List Completed) {files : List Closed} {others : List ℕ}
    → (completions ≡ [] → files ≡ []) → HasNoCloses others
    → HasNoCloses ((completion_lines completions ++ closes_text catalogue files) ++ others)
report_begins catalogue [] none behind = rw (none refl) behind
report_begins catalogue (c ∷ cs) {files} {others} none behind =
    let place : List ℕ = codes "." ++ (decimal c.place.chain ++ (codes "." ++ decimal c.place.member)) in
    grind (arith, no_letter, by_first, c.res, c.got, begins_with_digit c.place.submission)

submission_begins : {old : RingContents} {asked : List Asked} {new : RingContents} {line others : List ℕ} → PrintsReport old asked new line
    → HasNoCloses others → HasNoCloses (line ++ others)
submission_begins {old} (report, one, is) behind = rw is (report_begins old.catalogue report.completions (no_closes one) behind)

-- the line of a command
abbrev IsWord : List ℕ → Type 0
IsWord word = (rest : List ℕ) → HasNoCloses (word ++ rest)

word_with : {b : ℕ} (more : List ℕ) → (b == 99) ≡ false → (b == 116) ≡ false → IsWord (b ∷ more)
word_with {b} more no_c no_t rest = by_first (more ++ rest) no_c no_t

line_begins : (word : List ℕ) (res : ℤ) (rest : List ℕ) → IsWord word → HasNoCloses (result_line word res ++ rest)
line_begins word res rest is_word = rw append_assoc (is_word _)

module _ (old new : RingContents) (line others : List ℕ) (behind : HasNoCloses others) where
  abbrev Begins : Type 0
  Begins = HasNoCloses (line ++ others)

  result_begins : (word : List ℕ) (res : ℤ) → IsWord word → line ≡ result_line word res → Begins
  result_begins word res is_word is = rw is (line_begins word res others is_word)

  submitted_begins : (asked : List Asked) → Prints old (SubmitsAll asked) new line → Begins
  submitted_begins asked = either_option (fault_of asked)
      (λ _. either_case (nat_le MOST_SUBMISSIONS old.submissions) (λ many. rw many.1 (word_with (drop 1 too_many_line) refl refl others))
      (λ report. submission_begins report behind))
      (λ cut refused. grind (arith, word_with))

  begins : (command : Instruction) → Prints old command new line → Begins
  begins (SubmitsAll asked) prints = submitted_begins asked prints
  begins command prints = grind (arith, word_with, result_begins, tail_of, line_begins, answers)

pub command_begins : (old : RingContents) (command : Instruction) (new : RingContents) (line : List ℕ) {others : List ℕ} → Prints old command new line
    → HasNoCloses others → HasNoCloses (line ++ others)
command_begins old command new line {others} prints behind = begins old new line others behind command prints

pub plays_begin : PlaysBeginWithNoClose
plays_begin ring [] text ends = grind (arith, by_nothing, by_teardown)
plays_begin ring (command ∷ commands) text (next, line, others, prints, is, more) =
    subst HasNoCloses (sym is) (command_begins ring command next line prints (plays_begin next commands others more))
