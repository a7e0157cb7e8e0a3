-- The answers that a request may get, by the steps that it made on a table of the given size
-- (io_uring_enter(2), io_uring_prep_openat(3), io_uring_prep_close(3), io_uring_register_files(3)).
use Rattle.std.specs.Prelude.{◌≡◌, ◌⊎◌, ℕ, zero, suc, ◌+◌, ◌<◌, ℤ, pos, negsuc, List, [], ◌∷◌}
use Rattle.std.specs.Prelude.{length, Option, Some, None, MatchOption}
use Rattle.fx_base.specs.declared.errno.Errno.{Errno}
use Rattle.fx_base.specs.declared.errno.Errno.TheVariants.{EBADF, ENOMEM, ENFILE}
use Rattle.fx_base.specs.declared.mark.Mark.TheVariants.{Submitted}
use Rattle.fx_base.specs.Identity.{Identity}
use Rattle.fx_base.specs.Catalogue.{FileEntry, name_at, bytes_at}
use Rattle.fx_plain.specs.declared.event.File.{File}
use Rattle.fx_plain.specs.declared.event.Action.{Action}
use Rattle.fx_plain.specs.declared.event.Action.TheVariants.{Look, Release, Put, Clear, Take}
use Rattle.fx_plain.specs.declared.event.Action.TheVariants.{Allocate, Full, Close}
use Rattle.fx_plain.specs.History.{◌▷◌, ◌▷▷◌}
use Rattle.fx_chain.specs.Completed.{Completed, completed, refusal}
use Rattle.fx_chain.specs.Operation.{Operation, Opens, Reads, Closes, Updates}
use Rattle.fx_chain.specs.Refusal.{refusal_of}
use Rattle.fx_chain.specs.declared.completion.Place.{Place}
use Rattle.fx_chain.specs.declared.request.Target.{Target}
use Rattle.fx_chain.specs.declared.request.Target.TheVariants.{Slot, Any}
pub use Rattle.fx_chain.specs.Refusal.{is_bad_entry}

-- the identity of a file that a request installs: the position in the list is that of an update's
-- entry, and 0 for an open; it has no tag
abbrev pub installed : Place → ℕ → ℕ → Identity
installed place in_list entry = record {
  mark = Submitted place.submission place.chain place.member in_list;
  entry = entry;
  tag = 0;
}

-- the request makes no step and fails
abbrev pub Refuses : Place → Errno → List Action → Completed → Type 0
Refuses place errno events c = (events ≡ []) × (c ≡ refusal place errno)

-- after these steps the removed file is closed at once, or is not closed here
abbrev pub MayClose : List Action → Option File → List Action → Type 0
MayClose steps None events = events ≡ steps
MayClose steps (Some removed) events = (events ≡ steps) ⊎ (events ≡ steps ▷ Close removed)

-- an open of a catalogue entry
abbrev pub OpensAt : Place → ℕ → Target → List Action → Completed → Type 0
OpensAt place entry (Slot slot) events c =
    (f : File) × (replaced : Option File) × (f.identity ≡ installed place 0 entry)
    × MayClose ([] ▷ Put slot f replaced) replaced events × (c ≡ completed place (pos 0) [])
OpensAt place entry Any events c =
    ((slot : ℕ) × (f : File) × (f.identity ≡ installed place 0 entry)
    × (events ≡ [] ▷ Allocate slot f) × (c ≡ completed place (pos slot) []))
    ⊎ ((events ≡ [] ▷ Full) × (c ≡ refusal place ENFILE))

-- a read of some bytes at a slot: no memory for them, or a look-up, and the bytes of the file that
-- it found
abbrev pub ReadsAt : List FileEntry → Place → ℕ → ℕ → ℕ → List Action → Completed → Type 0
ReadsAt catalogue place slot off len events c =
    ((0 < len) × Refuses place ENOMEM events c)
    ⊎ ((events ≡ [] ▷ Look slot None) × (c ≡ refusal place EBADF))
    ⊎ ((f : File) × MayClose ([] ▷ Look slot (Some f) ▷ Release f) (Some f) events
    × (c ≡ completed place (pos (length (bytes_at catalogue f.identity.entry off len)))
    (bytes_at catalogue f.identity.entry off len)))

-- a close of a slot
abbrev pub TakesAt : Place → ℕ → List Action → Completed → Type 0
TakesAt place slot events c =
    ((events ≡ [] ▷ Take slot None) × (c ≡ refusal place EBADF))
    ⊎ ((removed : File) × MayClose ([] ▷ Take slot (Some removed)) (Some removed) events
    × (c ≡ completed place (pos 0) []))

-- one entry of an update: its position in the list, and its slot. -1 empties the slot, a number of
-- 0 or more installs that catalogue entry, and any other number leaves the slot
abbrev pub AppliesEntry : Place → ℕ → ℕ → ℤ → List Action → Type 0
AppliesEntry place in_list slot (pos entry) events =
    (f : File) × (replaced : Option File) × (f.identity ≡ installed place in_list entry)
    × MayClose ([] ▷ Put slot f replaced) replaced events
AppliesEntry place in_list slot (negsuc zero) events =
    (removed : Option File) × MayClose ([] ▷ Clear slot removed) removed events
AppliesEntry place in_list slot (negsuc (suc n)) events = events ≡ []

-- the entries of an update from a position of its list on, one after another
abbrev pub AppliesList : Place → ℕ → ℕ → List ℤ → List Action → Type 0
AppliesList place in_list slot [] events = events ≡ []
AppliesList place in_list slot (entry ∷ list) events =
    (own : List Action) × (others : List Action) × (events ≡ own ▷▷ others)
    × AppliesEntry place in_list slot entry own
    × AppliesList place (in_list + 1) (slot + 1) list others

-- an update of the slots from `off` on
abbrev pub AppliesAt : Place → ℕ → List ℤ → List Action → Completed → Type 0
AppliesAt place off list events c =
    AppliesList place 0 off list events × (c ≡ completed place (pos (length list)) [])

-- the request, which isn't refused, makes these steps and gets this answer
abbrev pub AnswersAtTable : List FileEntry → Place → Operation → List Action → Completed → Type 0
AnswersAtTable catalogue place (Opens name target) events c =
    (entry : ℕ) × (name_at catalogue entry ≡ Some name) × OpensAt place entry target events c
AnswersAtTable catalogue place (Reads slot off len) events c =
    ReadsAt catalogue place slot off len events c
AnswersAtTable catalogue place (Closes slot) events c = TakesAt place slot events c
AnswersAtTable catalogue place (Updates off list) events c = AppliesAt place off list events c

-- the request may get this answer, having made these steps
abbrev pub Answers : List FileEntry → ℕ → Place → Operation → List Action → Completed → Type 0
Answers catalogue size place operation events c =
    MatchOption (refusal_of catalogue size operation)
    (AnswersAtTable catalogue place operation events c)
    (λ errno. Refuses place errno events c)
