-- The error of a request that a table of the given size refuses, whatever is at its slots. The
-- first case that applies counts (io_uring_enter(2), io_uring_prep_openat(3),
-- io_uring_prep_close(3), io_uring_register_files(3); the order of the cases is this project's
-- own).
use Rattle.std.specs.Prelude.{ℕ, ◌+◌, ℤ, pos, negsuc, ◌==◌, ◌||◌, nat_le, nat_lt, Bool, List}
use Rattle.std.specs.Prelude.{length, Option, Some, None, if◌then◌else◌}
use Rattle.std.specs.List.{list_any}
use Rattle.fx_base.specs.declared.errno.Errno.{Errno}
use Rattle.fx_base.specs.declared.errno.Errno.TheVariants.{ENOENT, ENXIO, EBADF, EINVAL, ENFILE}
use Rattle.fx_base.specs.Catalogue.{FileEntry}
use Rattle.fx_base.specs.AddFault.{has_name}
use Rattle.fx_chain.specs.Operation.{Operation, Opens, Reads, Closes, Updates}
use Rattle.fx_chain.specs.declared.request.Target.{Target}
use Rattle.fx_chain.specs.declared.request.Target.TheVariants.{Slot, Any}

-- an entry that is below -2 or past the catalogue
abbrev pub is_bad_entry : ℕ → ℤ → Bool
is_bad_entry entries (pos entry) = nat_le entries entry
is_bad_entry entries (negsuc n) = nat_lt 1 n

-- of a slot that an open fills or a close empties
abbrev pub slot_refusal : ℕ → ℕ → Option Errno
slot_refusal size slot =
    if size == 0 then Some ENXIO
    else if nat_le size slot then Some EINVAL
    else None

-- of an open of a catalogue entry
abbrev pub target_refusal : ℕ → Target → Option Errno
target_refusal size (Slot slot) = slot_refusal size slot
target_refusal size Any = if size == 0 then Some ENFILE else None

-- of an update of the slots from `off` on
abbrev pub list_refusal : ℕ → ℕ → ℕ → List ℤ → Option Errno
list_refusal entries size off list =
    if size == 0 then Some ENXIO
    else if length list == 0 || nat_lt size (off + length list) then Some EINVAL
    else if list_any (is_bad_entry entries) list then Some EBADF
    else None

abbrev pub refusal_of : List FileEntry → ℕ → Operation → Option Errno
refusal_of catalogue size (Opens name target) =
    if has_name name catalogue then target_refusal size target else Some ENOENT
refusal_of catalogue size (Reads slot off len) = if nat_le size slot then Some EBADF else None
refusal_of catalogue size (Closes slot) = slot_refusal size slot
refusal_of catalogue size (Updates off list) = list_refusal (length catalogue) size off list
