-- The events of a beginning by their positions, and the marks of files.
use Rattle.check_certificate.specs.Words.{ℕ, Bool, true, false, List, length, slice_get, Option}
use Rattle.check_certificate.specs.Words.{Some, None, option_and_then, list_any, FileEntry}
use Rattle.check_certificate.specs.Words.{Identity, Mark, Registered, Submitted, Completed}
use Rattle.check_certificate.specs.Words.{Happening, Called, Answered, LookCalled, LookAnswered}
use Rattle.check_certificate.specs.Words.{Freed, FileClosed, AllSettled, all_happenings}
use Rattle.check_certificate.specs.Words.{happening_of, LogEvent, Slots}
use Rattle.std.specs.Prelude.{◌==◌}
use Rattle.fx_base.specs.contracts.open_file.ClosedPartialEq.TheImpl.{eq-value as equality}
use Rattle.check_certificate.specs.declared.beginning.LogBeginning.{LogBeginning}

-- what a certificate is about: a catalogue, the slots before a log, and its first events
pub record Given : Type 0 where
  pub catalogue : List FileEntry
  pub slots : Slots
  pub events : List LogEvent

abbrev pub given_of : LogBeginning → Given
given_of b = record { catalogue = b.catalogue.now; slots = b.slots.now; events = b.events.now }

abbrev pub slots_of : Given → ℕ
slots_of g = length g.slots.at.items

-- one step after another, as long as there is a result
infixl 10 ◌>>=◌
abbrev pub ◌>>=◌ : {A B : Type 0} → Option A → (A → Option B) → Option B
found >>= next = option_and_then next found

-- a result on a condition
abbrev pub only_if : {A : Type 0} → Bool → A → Option A
only_if true result = Some result
only_if false result = None

-- two files are equal
abbrev pub same_file : Identity → Identity → Bool
same_file = equality.it

-- the call that may install a file, by its mark
abbrev pub call_of_mark : Mark → Option ℕ
call_of_mark (Submitted id chain member entry) = Some id
call_of_mark (Registered k i) = None

abbrev pub call_of : Identity → Option ℕ
call_of file = call_of_mark file.mark

-- the call that an event begins
abbrev pub called_by : Happening → Option ℕ
called_by (Called id requests) = Some id
called_by (LookCalled id slot) = Some id
called_by event = None

-- the answer of a request
abbrev pub answered_by : Happening → Option Completed
answered_by (Answered id c) = Some c
answered_by event = None

-- the look that an event answers, and the file that it found
abbrev pub found_by : Happening → Option (ℕ × Identity)
found_by (LookAnswered id (Some file)) = Some (id, file)
found_by event = None

-- the file that an event says to be closed
abbrev pub closed_by : Happening → Option Identity
closed_by (FileClosed file) = Some file
closed_by event = None

-- the event says that all was settled
abbrev pub is_settled : Option Happening → Bool
is_settled (Some AllSettled) = true
is_settled event = false

module _ (g : Given) (at : ℕ) where
  -- the event at a position, and what it says
  abbrev pub event_at : Option Happening
  event_at = slice_get (all_happenings g.events) at

  abbrev pub call_at : Option ℕ
  call_at = event_at >>= called_by

  abbrev pub done_at : Option Completed
  done_at = event_at >>= answered_by

  abbrev pub found_at : Option (ℕ × Identity)
  found_at = event_at >>= found_by

  abbrev pub close_at : Option Identity
  close_at = event_at >>= closed_by

-- the event closes the file
abbrev pub closes_file : Identity → Happening → Bool
closes_file file (FileClosed other) = same_file other file
closes_file file event = false

-- the event ends the hold of the look
abbrev pub frees_look : ℕ → Happening → Bool
frees_look look (Freed id) = id == look
frees_look look event = false

-- one of the events does
abbrev pub was_closed : List LogEvent → Identity → Bool
was_closed events file = list_any (λ event. closes_file file (happening_of event)) events

abbrev pub was_freed : List LogEvent → ℕ → Bool
was_freed events look = list_any (λ event. frees_look look (happening_of event)) events
