-- The files that may be at a slot just before an access, by the known orders and by the answers of
-- the members that install them.
use Rattle.check_certificate.specs.Words.{ℕ, zero, suc, nat_lt, nat_le, Bool, true, false, not}
use Rattle.check_certificate.specs.Words.{List, length, slice_index_or, Option, Some, None}
use Rattle.check_certificate.specs.Words.{list_any, is_some, Identity, Mark, Registered, Submitted}
use Rattle.check_certificate.specs.Words.{Place, Intent, Allocate, Holding, OnlyFile, Nothing}
use Rattle.check_certificate.specs.Words.{PutBefore, GoneAfter, PointOrder, Event, Gone, Evidence}
use Rattle.check_certificate.specs.Words.{Full, Installs, Removes, Sees, MemberAccess}
use Rattle.std.specs.Prelude.{◌+◌, ◌-◌, ◌==◌, ◌&&◌, ◌||◌, if◌then◌else◌}
use Rattle.std.specs.Option.{is_none}
use Rattle.fx_chain.specs.contracts.completion.PlacePartialEq.TheImpl.{eq-value as equality}
use Rattle.fx_chain.specs.declared.intent.Intent.TheVariants.{Put as Install}
use Rattle.check_certificate.specs.Absent.{is_negative}
use Rattle.check_certificate.specs.Contents.{other_read}
use Rattle.check_certificate.specs.Made.{made}
use Rattle.check_certificate.specs.Rules.{before, not_after, same_point, joined, events_in_order}
use Rattle.check_certificate.specs.Rules.{begins, ends, installs, empties}
use Rattle.check_certificate.specs.Said.{◌>>=◌, Given, slots_of, only_if, same_file, call_of}
use Rattle.check_certificate.specs.Said.{done_at}
use Rattle.check_certificate.specs.declared.certificate.Point.TheVariants.{Access, Put}

-- two places are equal
abbrev pub same_place : Place → Place → Bool
same_place = equality.it

-- a result, and it is so of that
abbrev pub is_some_so : {A : Type 0} → Option A → (A → Bool) → Bool
is_some_so None test = false
is_some_so (Some result) test = test result

-- an access with this evidence finds a file at the slot
abbrev pub finds_file : Given → Evidence → ℕ → Bool
finds_file g (Removes own) slot = own == slot
finds_file g (Sees own) slot = own == slot
finds_file g Full slot =
    nat_lt slot (slots_of g) && nat_le g.slots.range.0 slot
    && nat_lt slot (g.slots.range.0 + g.slots.range.1)
finds_file g evidence slot = false

-- the slot is empty before the log
abbrev pub is_empty_at_first : Given → ℕ → Bool
is_empty_at_first g slot = is_none (slice_index_or g.slots.at.items slot None)

-- the file is the one that the access may find
abbrev pub is_held : OnlyFile → Identity → Bool
is_held Nothing file = false
is_held (PutBefore own) file = same_file own file
is_held (GoneAfter own) file = same_file own file

-- by an order the file isn't at the slot just before the access: it is installed later, or gone
abbrev pub is_later : PointOrder → Holding → Identity → Bool
is_later order h file =
    same_point order.from (Access h.answer h.access) && same_point order.to (Put file)

abbrev pub is_gone : PointOrder → Holding → Identity → Bool
is_gone order h file =
    order.strict && same_point order.from (Gone file h.slot)
    && same_point order.to (Access h.answer h.access)

abbrev pub shows_absent : PointOrder → Holding → Identity → Bool
shows_absent order h file = is_later order h file || is_gone order h file

-- the mark is that of a member of a call
abbrev pub is_mark_of : Place → Mark → Bool
is_mark_of place (Submitted submission chain member entry) =
    (submission == place.submission) && (chain == 1) && (member == place.member)
is_mark_of place (Registered k i) = false

-- a file that is installed at another slot is gone at the event
abbrev pub by_other_slot : ℕ → ℕ → Evidence → Option PointOrder
by_other_slot slot event (Installs own file) = do
  call ← call_of file
  only_if (not (own == slot)) (not_after (Gone file slot) (Event event))
by_other_slot slot event evidence = None

module _ (g : Given) where
  -- the event is the answer of the member at a place
  abbrev pub is_answered_at : ℕ → Place → Bool
  is_answered_at at place = is_some_so (done_at g at) (λ c. same_place c.place place)

  -- the first one among `count` events from a position on that is
  abbrev pub first_answer : Place → ℕ → ℕ → Option ℕ
  first_answer place zero at = None
  first_answer place (suc count) at =
      if is_answered_at at place then Some at else first_answer place count (at + 1)

  -- the position of the answer of a member, from that of its call on
  unfoldable pub answer_of : ℕ → Place → Option ℕ
  answer_of call place = first_answer place (length g.events - call) call

  -- the file of a member that fails is never installed, so not before the event
  unfoldable pub fails : ℕ → ℕ → Identity → Option PointOrder
  fails event own file = do
    c ← done_at g own
    only_if (is_negative c.res && nat_lt event (length g.events) && is_mark_of c.place file.mark)
        (before (Event event) (Put file))

  unfoldable pub elsewhere : ℕ → ℕ → ℕ → ℕ → ℕ → Option PointOrder
  elsewhere call answer access slot event =
      made g call answer access >>= by_other_slot slot event

  -- a file that is installed before the access that `since` names, which leaves the slot without it
  unfoldable pub replaced : Holding → ℕ → ℕ → ℕ → Option PointOrder
  replaced h call answer access = do
    installed ← installs g call answer access
    next ← events_in_order g answer h.since.0
    begin ← begins g h.since.0 h.since.1 h.since.2
    first ← joined installed next
    known ← joined first begin
    gone ← empties g h.since.0 h.since.1 h.since.2 known
    end ← ends g h.since.0 h.since.1 h.since.2
    past ← events_in_order g h.since.1 h.call
    second ← joined gone end
    joined second past

  -- by the member's answer at `answer`: where it was installed
  abbrev pub by_slot :
      Holding → MemberAccess → ℕ → PointOrder → Option PointOrder → Option PointOrder
  by_slot h by answer begin (Some other) = joined other begin
  by_slot h by answer begin None = do
    gone ← replaced h by.call answer by.access
    joined gone begin

  -- or that it wasn't installed
  abbrev pub by_failure :
      Holding → MemberAccess → ℕ → PointOrder → Option PointOrder → Option PointOrder
  by_failure h by answer end (Some failed) = joined end failed
  by_failure h by answer end None = do
    begin ← begins g h.call h.answer h.access
    by_slot h by answer begin (elsewhere by.call answer by.access h.slot h.call)

  -- the order by which the file of an access isn't at the slot, by the answer of its member
  unfoldable pub absence : Holding → MemberAccess → Identity → Option PointOrder
  absence h by file = do
    answer ← answer_of by.call by.place
    end ← ends g h.call h.answer h.access
    by_failure h by answer end (fails h.answer answer file)

  -- the file of an access isn't at the slot, or is the one that is found
  unfoldable pub is_absent : Holding → List PointOrder → MemberAccess → Identity → Bool
  is_absent h known by file =
      is_held h.found file || list_any (λ order. shows_absent order h file) known
      || is_some (other_read g h file)
      || is_some_so (absence h by file) (λ order. shows_absent order h file)

  -- an access that is intended installs no file at the slot but absent ones
  abbrev pub installs_none : Holding → List PointOrder → MemberAccess → Intent → Bool
  installs_none h known by (Install slot file) = not (slot == h.slot) || is_absent h known by file
  installs_none h known by (Allocate file) = is_absent h known by file
  installs_none h known by intent = true
