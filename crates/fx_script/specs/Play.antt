-- The texts that a script may print: the answers of a ring to its commands, one after another (this
-- project's own).
use Rattle.std.specs.Prelude.{◌≡◌, ◌⊎◌, ◌∷◌, ◌++◌}
use Rattle.fx_script.specs.Words.{ℕ, pos, nat_le, List, [], codes, length, Option, Some, None}
use Rattle.fx_script.specs.Words.{MatchOption, negated, Asked, HasClosed, RingContents, RingState}
use Rattle.fx_script.specs.Words.{files_of_ring, new_ring, ring_of, without_table, IsOneHistory}
use Rattle.fx_script.specs.Words.{Reported, Instruction, MakesSparse, RegistersList, Unregisters}
use Rattle.fx_script.specs.Words.{SetsRange, UpdatesRing, SubmitsAll, Meaning, result_line}
use Rattle.fx_script.specs.Words.{closes_text, refused_line, teardown_text, too_many_line}
use Rattle.std.specs.Bool.{MatchBool}
use Rattle.fx_base.specs.CloseListView.{CloseListView}
use Rattle.fx_base.specs.declared.errno.Errno.{Errno}
use Rattle.fx_base.specs.declared.errno.Errno.TheVariants.{ENOMEM}
use Rattle.fx_base.specs.declared.open_file.Closed.{Closed}
use Rattle.fx_chain.specs.Faults.{fault_of}
use Rattle.fx_ring.specs.Registration.{range_refusal, register_refusal, registered}
use Rattle.fx_ring.specs.Registration.{registered_sparse, removed_from, sparse_refusal}
use Rattle.fx_ring.specs.Registration.{unregister_refusal, update_refusal, updated}
use Rattle.fx_ring.specs.Tags.{tags_given}
use Rattle.fx_ring.specs.declared.ring.TheConstants.{MOST_SUBMISSIONS}
use Rattle.fx_script.specs.Text.{report_text}

-- the answer of a call that allocates: its refusal, if there is one, otherwise success or an
-- allocation failure
abbrev pub CallAnswers : Option Errno → Type 0 → (Errno → Type 0) → Type 0
CallAnswers (Some errno) accepted refused = refused errno
CallAnswers None accepted refused = accepted ⊎ refused ENOMEM

-- a refused call: the ring stays, and the line has the negated error
abbrev pub IsCallRefused : RingState → RingState → List ℕ → List ℕ → Errno → Type 0
IsCallRefused old new word text errno = (new ≡ old) × (text ≡ result_line word (negated errno))

-- an accepted call that closed these files: its line, and the files' lines, in order of mark
abbrev pub PrintsClosed : RingState → List Closed → List ℕ → List ℕ → Type 0
PrintsClosed ring files line text =
    (closes : CloseListView) × HasClosed files closes
    × (text ≡ line ++ closes_text ring.catalogue closes.files)

-- an accepted submission: its completions, and the files that it closed, come from one legal
-- history
abbrev pub PrintsReport : RingContents → List Asked → RingContents → List ℕ → Type 0
PrintsReport old asked new text =
    (report : Reported) × IsOneHistory old asked report new
    × (text ≡ report_text old.catalogue report)

-- a command leads from one ring to another, and prints this text. The first case that applies
-- counts
abbrev pub Prints : RingContents → Instruction → RingContents → List ℕ → Type 0
Prints old (MakesSparse n) new text =
    CallAnswers (sparse_refusal (ring_of old) n)
    ((ring_of new ≡ registered_sparse (ring_of old) n)
    × (text ≡ result_line (codes "sparse") (pos 0)))
    (IsCallRefused (ring_of old) (ring_of new) (codes "sparse") text)
Prints old (RegistersList list tags) new text =
    CallAnswers (register_refusal (ring_of old) list (tags_given list tags))
    ((ring_of new ≡ registered (ring_of old) list (tags_given list tags))
    × (text ≡ result_line (codes "register") (pos 0)))
    (IsCallRefused (ring_of old) (ring_of new) (codes "register") text)
Prints old Unregisters new text =
    CallAnswers (unregister_refusal (ring_of old))
    ((ring_of new ≡ without_table (ring_of old))
    × PrintsClosed (ring_of old) (files_of_ring (ring_of old))
    (result_line (codes "unregister") (pos 0)) text)
    (IsCallRefused (ring_of old) (ring_of new) (codes "unregister") text)
Prints old (SetsRange off len) new text =
    MatchOption (range_refusal (ring_of old) off len)
    ((ring_of new ≡ record (ring_of old) { range = (off, len) })
    × (text ≡ result_line (codes "range") (pos 0)))
    (IsCallRefused (ring_of old) (ring_of new) (codes "range") text)
Prints old (UpdatesRing off list tags) new text =
    CallAnswers (update_refusal (ring_of old) off list (tags_given list tags))
    ((ring_of new ≡ updated (ring_of old) off list (tags_given list tags))
    × PrintsClosed (ring_of old) (removed_from (ring_of old).at off list)
    (result_line (codes "regupdate") (pos (length list))) text)
    (IsCallRefused (ring_of old) (ring_of new) (codes "regupdate") text)
Prints old (SubmitsAll asked) new text =
    MatchOption (fault_of asked)
    (MatchBool (nat_le MOST_SUBMISSIONS old.submissions)
    ((ring_of new ≡ ring_of old) × (text ≡ too_many_line))
    (PrintsReport old asked new text))
    (λ fault. (ring_of new ≡ ring_of old) × (text ≡ refused_line fault))

-- at the end of the script: the lines of the files that are left, in order of mark
abbrev pub PrintsEnd : RingState → List ℕ → Type 0
PrintsEnd ring text =
    (closes : CloseListView) × HasClosed (files_of_ring ring) closes
    × (text ≡ teardown_text ring.catalogue closes.files)

-- the commands may print this, one after another, and then the end of the script
abbrev pub PrintsAll : RingContents → List Instruction → List ℕ → Type 0
PrintsAll ring [] text = PrintsEnd (ring_of ring) text
PrintsAll ring (command ∷ commands) text =
    (next : RingContents) × (line : List ℕ) × (others : List ℕ)
    × Prints ring command next line × (text ≡ line ++ others) × PrintsAll next commands others

-- some first commands, perhaps none, may print this
abbrev pub PrintsFirst : RingContents → List Instruction → List ℕ → Type 0
PrintsFirst ring [] text = text ≡ []
PrintsFirst ring (command ∷ commands) text =
    (text ≡ []) ⊎ ((next : RingContents) × (line : List ℕ) × (others : List ℕ)
    × Prints ring command next line × (text ≡ line ++ others) × PrintsFirst next commands others)

-- a ring with the script's files and without a table
abbrev pub IsNewRing : Meaning → RingContents → Type 0
IsNewRing meaning ring = ring_of ring ≡ new_ring meaning.catalogue

-- the script may print this
abbrev pub IsText : Meaning → List ℕ → Type 0
IsText meaning text =
    (ring : RingContents) × IsNewRing meaning ring × PrintsAll ring meaning.commands text

-- the first commands of the script may print this
abbrev pub IsTextOfFirst : Meaning → List ℕ → Type 0
IsTextOfFirst meaning text =
    (ring : RingContents) × IsNewRing meaning ring × PrintsFirst ring meaning.commands text
