-- The accesses that don't take a file from its slot: by the slot, by a known order, or by the
-- answer of their member.
use Rattle.check_certificate.specs.Words.{ℕ, Bool, true, not, List, Option, Some, None, list_any}
use Rattle.check_certificate.specs.Words.{is_some, option_eq, Identity, Place, Intent, Point, Event}
use Rattle.check_certificate.specs.Words.{Gone, PointOrder, Leaving, MemberAccess}
use Rattle.std.specs.Prelude.{◌==◌, ◌&&◌, ◌||◌, if◌then◌else◌}
use Rattle.fx_chain.specs.declared.intent.Intent.TheVariants.{Put as Install}
use Rattle.check_certificate.specs.Absent.{is_negative}
use Rattle.check_certificate.specs.Holds.{answer_of, is_answered_at, is_some_so, same_place}
use Rattle.check_certificate.specs.Made.{made}
use Rattle.check_certificate.specs.Rules.{before, same_point, joined, events_in_order, ends}
use Rattle.check_certificate.specs.Rules.{installs}
use Rattle.check_certificate.specs.Said.{◌>>=◌, Given, same_file, call_at, done_at}
use Rattle.check_certificate.specs.Taken.{slot_taken}
use Rattle.check_certificate.specs.declared.certificate.Point.TheVariants.{Access, Put}

-- an order says that a point comes before another one, at another time
abbrev pub says : PointOrder → Point → Point → Bool
says order from to = order.strict && same_point order.from from && same_point order.to to

-- it says that two points are at different times
abbrev pub is_apart : PointOrder → Point → Point → Bool
is_apart order one other = says order one other || says order other one

-- one of the known orders does
abbrev pub is_known : List PointOrder → Point → Point → Bool
is_known known from to = list_any (λ order. says order from to) known

abbrev pub are_apart : List PointOrder → Point → Point → Bool
are_apart known one other = list_any (λ order. is_apart order one other) known

-- the time at which the file leaves its slot
abbrev pub gone : Leaving → Point
gone l = Gone l.file l.slot

-- a point isn't at that time, by a known order, or is that of the access that may take the file
unfoldable pub is_no_other : List PointOrder → Leaving → Point → Bool
is_no_other known l point =
    option_eq same_point l.taker (Some point) || are_apart known point (gone l)

-- the event is the answer of a member that failed
abbrev pub is_failed_at : Given → ℕ → Place → Bool
is_failed_at g answer place =
    is_some_so (done_at g answer) (λ c. same_place c.place place && is_negative c.res)

module _ (g : Given) (l : Leaving) (known : List PointOrder) where
  -- the file leaves its slot after a point that comes before the event at `answer`, as the file
  -- isn't gone yet at that event or at a later one
  unfoldable pub left_later : PointOrder → ℕ → Option PointOrder
  left_later answered answer =
      if not (is_known known (Event l.since) (gone l)) then None
      else if answer == l.since then joined answered (before (Event l.since) (gone l))
      else (do
        later ← events_in_order g answer l.since
        second ← joined later (before (Event l.since) (gone l))
        joined answered second)

  unfoldable pub is_before : PointOrder → ℕ → Point → Bool
  is_before answered answer point =
      is_some_so (left_later answered answer) (λ order. is_apart order point (gone l))

  -- an access comes before its answer, and the file leaves its slot later
  unfoldable pub is_early : MemberAccess → ℕ → Bool
  is_early by answer =
      is_some_so (ends g by.call answer by.access)
      (λ end. is_before end answer (Access answer by.access))

  -- the access of a first member
  unfoldable pub is_first_ruled_out : MemberAccess → ℕ → Bool
  is_first_ruled_out by answer =
      (by.place.member == 1) && is_answered_at g answer by.place
      && is_some (made g by.call answer by.access)
      && (is_no_other known l (Access answer by.access) || is_early by answer)

  unfoldable pub is_by_answer : MemberAccess → Bool
  is_by_answer by =
      is_some_so (answer_of g by.call by.place)
      (λ answer. is_failed_at g answer by.place || is_first_ruled_out by answer)

  -- an access, whatever it is: its call begins later, or its answer shows it
  unfoldable pub is_other_time : MemberAccess → Bool
  is_other_time by =
      is_some_so (call_at g by.call) (λ id. (id == by.place.submission)
      && (is_known known (gone l) (Event by.call) || is_by_answer by))

  -- a file was installed before an answer, and the other one leaves its slot later
  unfoldable pub is_put_early : MemberAccess → Identity → Bool
  is_put_early by file =
      is_some_so (answer_of g by.call by.place) (λ answer.
      is_some_so (installs g by.call answer by.access) (λ put.
      is_before put answer (Put file)))

  -- an access that installs a file at the slot
  unfoldable pub put_takes_none : MemberAccess → Identity → Bool
  put_takes_none by file =
      same_file file l.file || is_no_other known l (Put file) || is_put_early by file
      || is_other_time by

  -- an access that is intended at the slot
  abbrev pub takes_none_there : MemberAccess → Intent → Bool
  takes_none_there by (Install slot file) = put_takes_none by file
  takes_none_there by intent = is_other_time by

  -- an access that is intended
  abbrev pub takes_none_at : MemberAccess → Intent → Option ℕ → Bool
  takes_none_at by intent None = true
  takes_none_at by intent (Some slot) = not (slot == l.slot) || takes_none_there by intent

  unfoldable pub takes_none : MemberAccess → Intent → Bool
  takes_none by intent = takes_none_at by intent (slot_taken intent)
