-- The calls between submissions: the rings that they leave, and their lines.
use Rattle.check_lines.proofs.{Instruction, SetsRange, SubmitsAll, RingSlots, Slots, after_call, call_of, unless_refused, IsCall, append_assoc}
use Rattle.check_lines.proofs.{both_options, List, None, Option, Some, [], ap, arith, subst, sym, ℕ, ◌∙◌, ◌≡◌, ◌≤◌, FileEntry, inl, inr, Errno}
use Rattle.check_lines.proofs.{registered_rings, updated_rings, counted_still, none_rings, Table, ring_with_slots, table_of_slots, IsRing, RingState}
use Rattle.check_lines.proofs.{HasClosed, RingContents, ring_of, MOST_REGISTRATIONS, AreInRange, ◌<◌, ◌^◌, pos, ◌++◌, All, IfSome, unwrap_or, ⊎_elim}
use Rattle.check_lines.proofs.{◌↔◌, ◌⊎◌, append-nil, nil_from_length, length_permutation, CloseListView, ENOMEM, Closed, negated, closes_text}
use Rattle.check_lines.proofs.{result_line, MatchOption, fault_of, MOST_SLOTS, IsCallRefused, Prints, none_holds, inside_of, IsAtOne, all_in_order}
use Rattle.check_lines.proofs.{all_removed, closes_printed, one_result}
use Rattle.check_lines.proofs.Words.{memory_word}
pub use Rattle.check_lines.specs.Calls.{AnswersFound, Call, IsLineOf, IsNoSubmission, YieldsCall as Tells, YieldsClosed}

-- so it holds of it if it holds of the ring before the call, and of what the call leaves that isn't
-- refused
pub still : (P : RingState → Type 0) {ring : RingState} (command : Instruction) → P ring
    → ((call_of ring command).refusal ≡ None → P (call_of ring command).left) → P (after_call ring command)
still P command so goes = grind arith

-- the files of a copy, and of slots without files, are in range

pub same_in_range : (copy old : Slots) → table_of_slots copy ≡ table_of_slots old → AreInRange (table_of_slots old).at
    → AreInRange (table_of_slots copy).at
same_in_range copy old same = subst (λ (t : Table). AreInRange t.at) (sym same)

pub copy_in_range : (copy ring : RingSlots) → ((catalogue : List FileEntry) → ring_with_slots catalogue copy ≡ ring_with_slots catalogue ring)
    → AreInRange (table_of_slots ring.slots).at → AreInRange (table_of_slots copy.slots).at
copy_in_range copy ring same = subst AreInRange (sym (ap (λ (r : RingState). r.at) (same [])))

pub none_in_range : (slots : Slots) {n : ℕ} → table_of_slots slots ≡ record { size = n; range = (0, n); at = λ _. None }
    → AreInRange (table_of_slots slots).at
none_in_range slots none slot file is = let e : None ≡ Some file = sym (ap (λ (t : Table). t.at slot) none) ∙ is in cc

-- what every ring has

ranged : {ring : RingState} (range : ℕ × ℕ) → IsRing ring → IsRing (record ring { range = range })
ranged range is = grind (arith, counted_still)

pub called_ring : {ring : RingState} (command : Instruction) → IsRing ring → IsRing (after_call ring command)
called_ring command is = grind (arith, still, none_rings, registered_rings, none_holds, ranged, updated_rings)

-- a call counts no submission, and is refused where no registration is counted any more
pub called_submissions : (ring : RingState) (command : Instruction) → (after_call ring command).submissions ≡ ring.submissions
called_submissions ring command = grind (arith, still)

pub called_registrations : (ring : RingState) (command : Instruction) → ring.registrations ≤ MOST_REGISTRATIONS
    → (after_call ring command).registrations ≤ MOST_REGISTRATIONS
called_registrations ring command few = grind (arith, still, none_holds)

-- The calls between submissions: their lines, and what a failed allocation leaves.

-- the calls that allocate: a range allocates nothing, and a submission isn't such a call
abbrev pub TakesMemory : Instruction → Type 0
TakesMemory (SetsRange off len) = ⊥
TakesMemory (SubmitsAll asked) = ⊥
TakesMemory _ = Unit {0}

-- an accepted call prints its result, and the lines of the files that it closes, if any
pub told_closed : (ring : RingState) (head : List ℕ) (closed : Option (List Closed)) {closes : CloseListView} {line : List ℕ}
    → HasClosed (unwrap_or closed []) closes → line ≡ head ++ closes_text ring.catalogue closes.files → YieldsClosed ring head closed line
told_closed ring head None {closes} has is =
    rw (nil_from_length closes.files (length_permutation [] closes.files has.same_files), append-nil) at is
told_closed ring head (Some files) {closes} has is = (closes, has, is)

-- the line of an accepted call is its result, and the lines of the files that it closes
pub accepted_line : (ring : RingState) (command : Instruction) (files : List Closed) (closes : CloseListView) (first line : List ℕ)
    → IsNoSubmission command → (call_of ring command).refusal ≡ None → files ≡ unwrap_or (call_of ring command).closed [] → HasClosed files closes
    → first ≡ result_line (call_of ring command).word (pos (call_of ring command).res) → line ≡ first ++ closes_text ring.catalogue closes.files
    → IsLineOf ring command line
accepted_line ring (SubmitsAll asked) files closes first line none accepted are has is_first is = absurd none
accepted_line ring command files closes first line none accepted are has is_first is =
    let call = call_of ring command in
    subst (λ (x : Option Errno). AnswersFound x call.word (Tells ring call) line) (sym accepted)
    (told_closed ring (result_line call.word (pos call.res)) call.closed (subst (λ (l : List Closed). HasClosed l closes) are has)
    (is ∙ ap (λ (l : List ℕ). l ++ closes_text ring.catalogue closes.files) is_first))

-- the files that it closes are at slots
there : (ring : RingState) (command : Instruction) → IfSome (call_of ring command).closed (All (IsAtOne ring.at))
there ring command = grind (arith, all_in_order, all_removed)

-- so success has one line
one_told : (ring : RingState) (head : List ℕ) (closed : Option (List Closed)) (a b : List ℕ) → IsRing ring → IfSome closed (All (IsAtOne ring.at))
    → YieldsClosed ring head closed a → YieldsClosed ring head closed b → a ≡ b
one_told ring head None a b is_ring all first second = first ∙ sym second
one_told ring head (Some files) a b is_ring all (closes, has, is) second =
    is ∙ sym (closes_printed ring files closes head b is_ring all has second)

-- and it isn't the line of an allocation failure
pub tail_of : (ring : RingState) (head : List ℕ) (closed : Option (List Closed)) (line : List ℕ) → YieldsClosed ring head closed line
    → (tail : List ℕ) × (line ≡ head ++ tail)
tail_of ring head None line tells = ([], tells ∙ sym (append-nil head))
tail_of ring head (Some files) line (closes, has, is) = (closes_text ring.catalogue closes.files, is)

pub not_refused : (ring : RingState) (word : List ℕ) (n : ℕ) (closed : Option (List Closed)) (line behind more : List ℕ) → n < 2 ^ 31
    → YieldsClosed ring (result_line word (pos n)) closed line → line ++ behind ≡ result_line word (negated ENOMEM) ++ more → ⊥
not_refused ring word n closed line behind more few tells same =
    let (tail, is) = tail_of ring (result_line word (pos n)) closed line tells in
    cc (one_result word (pos n) (negated ENOMEM) (tail ++ behind) more few (omega arith)
    (rw (is, append_assoc (result_line word (pos n)) tail behind) at same)).0

-- A call between submissions, or a refused submission, leaves one ring and prints one line, or
-- finds no memory.

-- what it leaves and prints
abbrev pub Answers : RingState → Instruction → RingState → List ℕ → Type 0
Answers old command new line = (new ≡ after_call old command) × IsLineOf old command line

-- where it finds no memory
abbrev FailsAt : Option Errno → RingState → RingState → List ℕ → List ℕ → Type 0
FailsAt x old new word line = (x ≡ None) × (new ≡ old) × (line ≡ result_line word (negated ENOMEM))

abbrev pub Fails : RingState → Instruction → RingState → List ℕ → Type 0
Fails old command new line =
    TakesMemory command × FailsAt (call_of old command).refusal old new (call_of old command).word line

both_parts : (x : Option Errno) (old new : RingState) (call : Call) (line : List ℕ)
    → MatchOption x ((new ≡ call.left) × Tells old call line) (IsCallRefused old new call.word line)
    ↔ ((new ≡ unless_refused x old call.left) × AnswersFound x call.word (Tells old call) line)
both_parts x old new call line = grind arith

-- only calls that take memory fail
found_alone : {P A F : Type 0} → P ↔ A → P ↔ (A ⊎ (⊥ × F))
found_alone one = ((λ p. inl (one.0 p)), ⊎_elim one.1 (λ f. absurd f.0))

found_or_not : {P A F : Type 0} → P ↔ (A ⊎ F) → P ↔ (A ⊎ (Unit {0} × F))
found_or_not one = ((λ p. ⊎_elim inl (λ f. inr (tt, f)) (one.0 p)), (λ q. one.1 (⊎_elim inl (λ f. inr f.1) q)))

pub answers : (old next : RingContents) (command : Instruction) (line : List ℕ) → IsCall old.submissions command
    → Prints old command next line ↔ (Answers (ring_of old) command (ring_of next) line ⊎ Fails (ring_of old) command (ring_of next) line)
answers old next command line counts = grind (arith, found_alone, both_parts, found_or_not)

-- no two lines are that of a call

either_line : (x : Option Errno) (word : List ℕ) (prints : List ℕ → Type 0) {a b : List ℕ} → (prints a → prints b → a ≡ b)
    → AnswersFound x word prints a → AnswersFound x word prints b → a ≡ b
either_line x word prints one first second = grind arith

pub one_line_of : {ring : RingState} (command : Instruction) {a b : List ℕ} → IsRing ring → IsLineOf ring command a → IsLineOf ring command b → a ≡ b
one_line_of (SubmitsAll asked) is_ring =
    both_options (fault_of asked) (λ first second. first ∙ sym second) (λ fault first second. first ∙ sym second)
one_line_of {ring} command {a} {b} is_ring =
    let call = call_of ring command in
    grind (arith, there, either_line call.refusal call.word (Tells ring call), one_told ring (result_line call.word (pos call.res)) call.closed a b is_ring (there ring command))

-- nor is the line of a call that finds memory that of one that finds none

pub few_told : (ring : RingState) (command : Instruction) → ring.size ≤ MOST_SLOTS → (call_of ring command).refusal ≡ None
    → (call_of ring command).res < 2 ^ 31
few_told ring command few none = grind (arith, inside_of)

told_of : (ring : RingState) (command : Instruction) (line : List ℕ) → TakesMemory command → (call_of ring command).refusal ≡ None
    → IsLineOf ring command line → Tells ring (call_of ring command) line
told_of ring command line takes none told = grind arith

pub not_failed : (ring : RingState) (command : Instruction) (line behind more : List ℕ) → ring.size ≤ MOST_SLOTS → TakesMemory command
    → (call_of ring command).refusal ≡ None → IsLineOf ring command line
    → line ++ behind ≡ result_line (call_of ring command).word (negated ENOMEM) ++ more → ⊥
not_failed ring command line behind more few takes none told = grind (arith, not_refused, few_told, told_of)

-- the word of a call that may fail
pub may_fail : (ring : RingState) (command : Instruction) {word : List ℕ} → memory_word ring command ≡ Some word
    → TakesMemory command × ((call_of ring command).refusal ≡ None) × (word ≡ (call_of ring command).word)
may_fail ring command is = grind arith

pub never_fails : (ring : RingState) (command : Instruction) → memory_word ring command ≡ None → TakesMemory command
    → (call_of ring command).refusal ≡ None → ⊥
never_fails ring command is takes none = grind arith
