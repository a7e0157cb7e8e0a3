-- The refusals of the calls between submissions, and the rings that they leave
-- (io_uring_register(2); the order of the refusals is this project's own).
use Rattle.std.specs.Prelude.{ℕ, zero, suc, ◌+◌, ◌-◌, ◌==◌, ◌||◌, nat_le, nat_lt, Bool, ℤ, pos}
use Rattle.std.specs.Prelude.{negsuc}
use Rattle.std.specs.Prelude.{List, [], ◌∷◌, ◌++◌, length, slice_get, Option, Some, None}
use Rattle.std.specs.Prelude.{if◌then◌else◌, ◌≡◌, Result, IfOk, OnOk, OnErr}
use Rattle.std.specs.List.{list_any}
use Rattle.std.specs.Option.{option_to_list}
use Rattle.fx_base.specs.Catalogue.{FileEntry}
use Rattle.fx_base.specs.declared.errno.Errno.{Errno}
use Rattle.fx_base.specs.declared.errno.Errno.TheVariants.{ENXIO, EBADF, EAGAIN, EBUSY, EINVAL}
use Rattle.fx_base.specs.declared.errno.Errno.TheVariants.{EMFILE, ENOMEM}
use Rattle.fx_base.specs.declared.mark.Mark.{Mark}
use Rattle.fx_base.specs.declared.mark.Mark.TheVariants.{Registered}
use Rattle.fx_base.specs.CloseListView.{CloseListView}
use Rattle.fx_base.specs.Identity.{Identity}
use Rattle.fx_base.specs.declared.open_file.Closed.{Closed}
use Rattle.fx_chain.specs.Answers.{is_bad_entry}
use Rattle.fx_plain.specs.declared.table.TheConstants.{MOST_SLOTS}
use Rattle.fx_ring.specs.Calls.{FailsOnlyAs, ListsFiles}
use Rattle.fx_ring.specs.Ring.{RingContents, RingState, new_ring, ring_of}
use Rattle.fx_ring.specs.Tags.{are_bad_tags, tag_at}
use Rattle.fx_ring.specs.declared.ring.TheConstants.{MOST_REGISTRATIONS}

-- a number of a registration that is neither an empty slot nor an entry of the catalogue
abbrev pub is_bad_file : ℕ → ℤ → Bool
is_bad_file entries (pos entry) = nat_le entries entry
is_bad_file entries (negsuc n) = nat_lt 0 n

-- a ring with this catalogue, this many slots and this many registrations: on nothing else does it
-- depend why a call is refused
abbrev pub counted_ring : List FileEntry → ℕ → ℕ → RingState
counted_ring catalogue size registrations =
    record (new_ring catalogue) { size = size; registrations = registrations }

-- the reason to refuse a registration, memory aside
abbrev pub register_refusal : RingState → List ℤ → List ℕ → Option Errno
register_refusal ring list tags =
    if nat_lt 0 ring.size then Some EBUSY
    else if length list == 0 || are_bad_tags list tags then Some EINVAL
    else if nat_lt MOST_SLOTS (length list) then Some EMFILE
    else if list_any (is_bad_file (length ring.catalogue)) list then Some EBADF
    else if nat_le MOST_REGISTRATIONS ring.registrations then Some EAGAIN
    else None

-- the reason to refuse a registration of `n` empty slots, memory aside
abbrev pub sparse_refusal : RingState → ℕ → Option Errno
sparse_refusal ring n =
    if nat_lt 0 ring.size then Some EBUSY
    else if n == 0 then Some EINVAL
    else if nat_lt MOST_SLOTS n then Some EMFILE
    else None

-- the reason not to unregister a ring's table, memory aside
abbrev pub unregister_refusal : RingState → Option Errno
unregister_refusal ring = if ring.size == 0 then Some ENXIO else None

-- the reason to refuse an allocation range
abbrev pub range_refusal : RingState → ℕ → ℕ → Option Errno
range_refusal ring off len = if nat_lt ring.size (off + len) then Some EINVAL else None

-- the reason to refuse an update, memory aside
abbrev pub update_refusal : RingState → ℕ → List ℤ → List ℕ → Option Errno
update_refusal ring off list tags =
    if ring.size == 0 then Some ENXIO
    else if length list == 0 || (nat_lt ring.size (off + length list) || are_bad_tags list tags)
    then Some EINVAL
    else if list_any (is_bad_entry (length ring.catalogue)) list then Some EBADF
    else if nat_le MOST_REGISTRATIONS ring.registrations then Some EAGAIN
    else None

-- what a number of a list leaves at its slot: -1 empties the slot, one of 0 or more installs that
-- entry of the catalogue with its tag, and the others leave what was there
abbrev pub file_after : Mark → ℕ → ℤ → Option Identity → Option Identity
file_after mark tag (pos entry) before = Some (record { mark = mark; entry = entry; tag = tag })
file_after mark tag (negsuc zero) before = None
file_after mark tag (negsuc (suc n)) before = before

-- what the k-th list leaves at the slot of its place i; where the list has no such place, what was
-- there
abbrev pub file_listed : ℕ → ℕ → ℕ → Option ℤ → Option Identity → Option Identity
file_listed k i tag None before = before
file_listed k i tag (Some number) before = file_after (Registered k i) tag number before

-- the file at each slot, once the k-th list was applied from a slot on
abbrev pub files_after : ℕ → (ℕ → Option Identity) → ℕ → List ℤ → List ℕ → ℕ → Option Identity
files_after k at off list tags slot =
    if nat_lt slot off then at slot
    else file_listed k (slot - off) (tag_at tags (slot - off)) (slice_get list (slot - off))
    (at slot)

-- the file that a number of a list removes from its slot
abbrev pub removed_by_number : ℤ → Option Identity → List Closed
removed_by_number (pos entry) before = option_to_list before
removed_by_number (negsuc zero) before = option_to_list before
removed_by_number (negsuc (suc n)) before = []

-- the files that a list removes, applied from a slot on
abbrev pub removed_from : (ℕ → Option Identity) → ℕ → List ℤ → List Closed
removed_from at slot [] = []
removed_from at slot (number ∷ list) =
    removed_by_number number (at slot) ++ removed_from at (slot + 1) list

-- the ring once the list was registered with its tags
abbrev pub registered : RingState → List ℤ → List ℕ → RingState
registered ring list tags = record ring {
  size = length list;
  range = (0, length list);
  at = files_after (ring.registrations + 1) (λ _. None) 0 list tags;
  registrations = ring.registrations + 1;
}

-- the ring once `n` empty slots were registered
abbrev pub registered_sparse : RingState → ℕ → RingState
registered_sparse ring n = record ring { size = n; range = (0, n); at = λ _. None }

-- the ring once its slots were updated by the list with its tags
abbrev pub updated : RingState → ℕ → List ℤ → List ℕ → RingState
updated ring off list tags = record ring {
  at = files_after (ring.registrations + 1) ring.at off list tags;
  registrations = ring.registrations + 1;
}

-- a call registers the list with its tags, or fails and leaves the ring as it was
pub record Registers (old : RingContents) (list : List ℤ) (tags : List ℕ)
    (result : Result (Unit {0}) Errno) (new : RingContents) : Type 0 where
  pub failure : FailsOnlyAs (register_refusal (ring_of old) list tags) ENOMEM result
  pub ok : OnOk result (ring_of new ≡ registered (ring_of old) list tags)
  pub err : OnErr result (new ≡ old)

-- a call updates the slots from `off` on by the list with its tags, and returns the list's length
-- and the files that it closed; or it fails and leaves the ring as it was
pub record Updates (old : RingContents) (off : ℕ) (list : List ℤ) (tags : List ℕ)
    (result : Result (ℕ × CloseListView) Errno) (new : RingContents) : Type 0 where
  pub failure : FailsOnlyAs (update_refusal (ring_of old) off list tags) ENOMEM result
  pub ok : OnOk result (ring_of new ≡ updated (ring_of old) off list tags)
  pub count : IfOk result (λ answer. answer.0 ≡ length list)
  pub closes : IfOk result (λ answer.
      ListsFiles (ring_of old) (removed_from (ring_of old).at off list) answer.1)
  pub err : OnErr result (new ≡ old)
