-- The bytes that a read answers: a file of other bytes isn't the one that it finds.
use Rattle.check_certificate.specs.Words.{ℕ, Bool, false, not, List, Option, FileEntry, Identity}
use Rattle.check_certificate.specs.Words.{Completed, bytes_read, is_read, is_count, Asked, Holding}
use Rattle.check_certificate.specs.Words.{Evidence, Sees}
use Rattle.std.specs.Prelude.{◌==◌, ◌&&◌}
use Rattle.std.specs.Str.{bytes_eq}
use Rattle.check_certificate.specs.Cut.{asked_by}
use Rattle.check_certificate.specs.Made.{made}
use Rattle.check_certificate.specs.Said.{◌>>=◌, Given, event_at, done_at, only_if}

-- an access with this evidence finds some file at the slot
abbrev pub is_seen : Evidence → ℕ → Bool
is_seen (Sees own) slot = own == slot
is_seen evidence slot = false

-- the request read bytes that the file doesn't have
abbrev pub reads_others : List FileEntry → Asked → Completed → Identity → Bool
reads_others catalogue request c file =
    is_read request.operation && is_count c.res
    && not (bytes_eq (bytes_read catalogue request.operation file.entry) c.got)

unfoldable pub other_read : Given → Holding → Identity → Option Identity
other_read g h file = do
  begins ← event_at g h.call
  c ← done_at g h.answer
  request ← asked_by begins c
  evidence ← made g h.call h.answer h.access
  only_if (is_seen evidence h.slot && reads_others g.catalogue request c file) file
