-- The calls between submissions, and refused submissions, where they find memory (this project's
-- own).
use Rattle.std.specs.Prelude.{◌≡◌, ◌+◌, if◌then◌else◌}
use Rattle.check_lines.specs.Words.{ℕ, pos, nat_le, false, List, [], codes, length, Option, Some}
use Rattle.check_lines.specs.Words.{None, list_any, MatchOption, MOST_ENTRIES, Closed, is_bad_entry}
use Rattle.check_lines.specs.Words.{negated, fault_of, range_refusal, register_refusal, registered}
use Rattle.check_lines.specs.Words.{removed_from, registered_sparse, sparse_refusal}
use Rattle.check_lines.specs.Words.{unregister_refusal, update_refusal, updated, RingState}
use Rattle.check_lines.specs.Words.{files_of_ring, without_table, tags_given, MOST_SUBMISSIONS}
use Rattle.check_lines.specs.Words.{Instruction, MakesSparse, RegistersList, Unregisters, SetsRange}
use Rattle.check_lines.specs.Words.{UpdatesRing, SubmitsAll, refused_line, result_line}
use Rattle.check_lines.specs.Words.{too_many_line, PrintsClosed}
use Rattle.fx_base.specs.declared.errno.Errno.{Errno}
use Rattle.fx_chain.specs.declared.fault.CutFault.{CutFault}

-- a call at a ring: its word, and its refusal, if any; otherwise the ring that it leaves, its
-- result, and the files that it lists as closed. A submission isn't such a call: its ring stays
pub record Call : Type 0 where
  pub word : List ℕ
  pub refusal : Option Errno
  pub left : RingState
  pub res : ℕ
  pub closed : Option (List Closed)

abbrev pub call_of : RingState → Instruction → Call
call_of ring (MakesSparse n) = record {
  word = codes "sparse";
  refusal = sparse_refusal ring n;
  left = registered_sparse ring n;
  res = 0;
  closed = None;
}
call_of ring (RegistersList list tags) = record {
  word = codes "register";
  refusal = register_refusal ring list (tags_given list tags);
  left = registered ring list (tags_given list tags);
  res = 0;
  closed = None;
}
call_of ring Unregisters = record {
  word = codes "unregister";
  refusal = unregister_refusal ring;
  left = without_table ring;
  res = 0;
  closed = Some (files_of_ring ring);
}
call_of ring (SetsRange off len) = record {
  word = codes "range";
  refusal = range_refusal ring off len;
  left = record ring { range = (off, len) };
  res = 0;
  closed = None;
}
call_of ring (UpdatesRing off list tags) = record {
  word = codes "regupdate";
  refusal = update_refusal ring off list (tags_given list tags);
  left = updated ring off list (tags_given list tags);
  res = length list;
  closed = Some (removed_from ring.at off list);
}
call_of ring (SubmitsAll asked) =
    record { word = []; refusal = None; left = ring; res = 0; closed = None }

-- what a call leaves that may be refused
abbrev pub unless_refused : Option Errno → RingState → RingState → RingState
unless_refused (Some errno) old new = old
unless_refused None old new = new

-- what a call between submissions leaves where it finds memory
abbrev pub after_call : RingState → Instruction → RingState
after_call ring command =
    unless_refused (call_of ring command).refusal ring (call_of ring command).left

-- what a call answers that finds memory: its refusal, if there is one, and else what it may print
abbrev pub AnswersFound : Option Errno → List ℕ → (List ℕ → Type 0) → List ℕ → Type 0
AnswersFound (Some errno) word accepted line = line ≡ result_line word (negated errno)
AnswersFound None word accepted line = accepted line

-- the line of a result, and the lines of the files, if the call lists them
abbrev pub YieldsClosed : RingState → List ℕ → Option (List Closed) → List ℕ → Type 0
YieldsClosed ring head None line = line ≡ head
YieldsClosed ring head (Some files) line = PrintsClosed ring files head line

abbrev pub YieldsCall : RingState → Call → List ℕ → Type 0
YieldsCall ring call line =
    YieldsClosed ring (result_line call.word (pos call.res)) call.closed line

-- the line of a call between submissions, or of a refused submission, where it finds memory
abbrev pub IsLineOf : RingState → Instruction → List ℕ → Type 0
IsLineOf ring (SubmitsAll asked) line =
    MatchOption (fault_of asked) (line ≡ too_many_line) (λ fault. line ≡ refused_line fault)
IsLineOf ring command line =
    AnswersFound (call_of ring command).refusal (call_of ring command).word
    (YieldsCall ring (call_of ring command)) line

-- the word of a call that isn't refused
abbrev pub word_unless : Option Errno → List ℕ → Option (List ℕ)
word_unless (Some errno) word = None
word_unless None word = Some word

-- the word of a call that may find no memory; it then prints the word and -12, and leaves its ring
abbrev pub memory_word : RingState → Instruction → Option (List ℕ)
memory_word ring (SetsRange off len) = None
memory_word ring (SubmitsAll asked) = None
memory_word ring command = word_unless (call_of ring command).refusal (call_of ring command).word

-- the count of accepted submissions after requests, by their first fault
abbrev pub accepted_following : ℕ → Option CutFault → ℕ
accepted_following count (Some fault) = count
accepted_following count None = if nat_le MOST_SUBMISSIONS count then count else count + 1

-- after `count` accepted submissions the command isn't accepted as a further one
abbrev pub IsCall : ℕ → Instruction → Type 0
IsCall count (SubmitsAll asked) = accepted_following count (fault_of asked) ≡ count
IsCall count _ = Unit {0}

-- the command isn't a submission
abbrev pub IsNoSubmission : Instruction → Type 0
IsNoSubmission (SubmitsAll asked) = ⊥
IsNoSubmission _ = Unit {0}

-- the list of the command, if it has one, has no entry that no catalogue has
abbrev pub HasEntries : Instruction → Type 0
HasEntries (RegistersList list tags) = list_any (is_bad_entry MOST_ENTRIES) list ≡ false
HasEntries (UpdatesRing off list tags) = list_any (is_bad_entry MOST_ENTRIES) list ≡ false
HasEntries _ = Unit {0}
