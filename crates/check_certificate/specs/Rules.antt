-- The rules of certificates, but those that look at all accesses: the order that each adds. A rule
-- whose premises don't hold adds none.
use Rattle.check_certificate.specs.Words.{ℕ, nat_lt, nat_le, Bool, true, false, not, length, take}
use Rattle.check_certificate.specs.Words.{Option, Some, None, option_map, option_eq, Identity}
use Rattle.check_certificate.specs.Words.{Point, Event, Gone, PointOrder, Evidence, Installs, Never}
use Rattle.std.specs.Prelude.{◌==◌, ◌&&◌, ◌||◌}
use Rattle.check_certificate.specs.Evidence.{left_at}
use Rattle.check_certificate.specs.Made.{made}
use Rattle.check_certificate.specs.Said.{◌>>=◌, Given, slots_of, only_if, same_file, call_of}
use Rattle.check_certificate.specs.Said.{event_at, call_at, close_at, found_at, is_settled}
use Rattle.check_certificate.specs.Said.{was_closed, was_freed}
use Rattle.check_certificate.specs.contracts.certificate.PointPartialEq.TheImpl.{eq-value as same}
use Rattle.check_certificate.specs.declared.certificate.Point.TheVariants.{Access, Put}
use Rattle.check_certificate.specs.declared.evidence.Evidence.TheVariants.{Finds}

-- two points are equal
abbrev pub same_point : Point → Point → Bool
same_point = same.it

-- a point comes before another one
abbrev pub before : Point → Point → PointOrder
before from to = record { from = from; to = to; strict = true }

-- or doesn't come after it
abbrev pub not_after : Point → Point → PointOrder
not_after from to = record { from = from; to = to; strict = false }

-- a contradiction
abbrev pub never : ℕ → PointOrder
never at = before (Event at) (Event at)

-- the parts of points

abbrev pub event_of : Point → Option ℕ
event_of (Event at) = Some at
event_of point = None

abbrev pub access_of : Point → Option (ℕ × ℕ)
access_of (Access answer access) = Some (answer, access)
access_of point = None

abbrev pub put_of : Point → Option Identity
put_of (Put file) = Some file
put_of point = None

abbrev pub gone_of : Point → Option (Identity × ℕ)
gone_of (Gone file slot) = Some (file, slot)
gone_of point = None

-- the files and the slot of an order: the first one was installed before the second one left
abbrev pub stay_of : PointOrder → Option (Identity × Identity × ℕ)
stay_of order = do
  file ← put_of order.from
  gone ← gone_of order.to
  only_if order.strict (file, gone.0, gone.1)

-- the file that leaves its slot after an access
abbrev pub gone_after : PointOrder → ℕ → ℕ → Option (Identity × ℕ)
gone_after order answer access =
    only_if (order.strict && same_point order.from (Access answer access)) order.to >>= gone_of

-- the file that is installed before an event
abbrev pub put_before : PointOrder → ℕ → Option Identity
put_before order at = only_if (order.strict && same_point order.to (Event at)) order.from >>= put_of

-- from the first point of one order to the second point of one that begins where the first ends
unfoldable pub joined : PointOrder → PointOrder → Option PointOrder
joined first second =
    only_if (same_point first.to second.from)
    (record { from = first.from; to = second.to; strict = first.strict || second.strict })

-- by the evidence for an access

abbrev pub by_put : ℕ → Evidence → Option PointOrder
by_put answer (Installs slot file) = Some (before (Put file) (Event answer))
by_put answer evidence = None

abbrev pub by_place : Evidence → Option PointOrder
by_place (Installs slot file) = Some (before (Put file) (Gone file slot))
by_place evidence = None

abbrev pub by_found : ℕ → Evidence → Option PointOrder
by_found answer (Finds slot file) =
    option_map (λ call. before (Put file) (Access answer 0)) (call_of file)
by_found answer evidence = None

abbrev pub by_find : ℕ → Evidence → Option PointOrder
by_find answer (Finds slot file) = Some (before (Access answer 0) (Gone file slot))
by_find answer evidence = None

-- there is no such answer, or the slot is past the end of the table
abbrev pub by_answer : ℕ → ℕ → Evidence → Option PointOrder
by_answer size answer Never = Some (never answer)
by_answer size answer (Installs slot file) = only_if (nat_le size slot) (never answer)
by_answer size answer evidence = None

module _ (g : Given) where
  unfoldable pub events_in_order : ℕ → ℕ → Option PointOrder
  events_in_order earlier later =
      only_if (nat_lt earlier later && nat_lt later (length g.events))
      (before (Event earlier) (Event later))

  unfoldable pub begins : ℕ → ℕ → ℕ → Option PointOrder
  begins call answer access =
      option_map (λ evidence. before (Event call) (Access answer access))
      (made g call answer access)

  unfoldable pub ends : ℕ → ℕ → ℕ → Option PointOrder
  ends call answer access =
      option_map (λ evidence. before (Access answer access) (Event answer))
      (made g call answer access)

  abbrev pub calls : ℕ → Identity → Option PointOrder
  calls call file = do
    id ← call_at g call
    own ← call_of file
    only_if (own == id) (before (Event call) (Put file))

  unfoldable pub installs : ℕ → ℕ → ℕ → Option PointOrder
  installs call answer access = made g call answer access >>= by_put answer

  abbrev pub places : ℕ → ℕ → ℕ → Option PointOrder
  places call answer access = made g call answer access >>= by_place

  abbrev pub follows : ℕ → ℕ → Option PointOrder
  follows call answer = made g call answer 0 >>= by_found answer

  abbrev pub finds : ℕ → ℕ → Option PointOrder
  finds call answer = made g call answer 0 >>= by_find answer

  abbrev pub closes : ℕ → ℕ → Option PointOrder
  closes close slot = do
    file ← close_at g close
    option_map (λ call. before (Gone file slot) (Event close)) (call_of file)

  abbrev pub existed : ℕ → Option PointOrder
  existed close = do
    file ← close_at g close
    option_map (λ call. before (Put file) (Event close)) (call_of file)

  unfoldable pub empties : ℕ → ℕ → ℕ → PointOrder → Option PointOrder
  empties call answer access installed = do
    evidence ← made g call answer access
    left ← left_at evidence
    file ← put_of installed.from
    only_if (same_point installed.to (Access answer access)
        && not (option_eq same_file left.1 (Some file)))
        (not_after (Gone file left.0) (Access answer access))

  abbrev pub precedes : ℕ → ℕ → ℕ → PointOrder → Option PointOrder
  precedes call answer access there = do
    evidence ← made g call answer access
    left ← left_at evidence
    gone ← gone_after there answer access
    only_if ((gone.1 == left.0) && not (option_eq same_file left.1 (Some gone.0)))
        (before (Access answer access) (Put gone.0))

  abbrev pub settles : ℕ → PointOrder → PointOrder → Option PointOrder
  settles settled installed placed = do
    stay ← stay_of placed
    call ← call_of stay.0
    early ← put_before installed settled
    only_if (same_file stay.1 stay.0 && same_file early stay.0
        && nat_lt settled (length g.events) && is_settled (event_at g settled)
        && not (was_closed (take settled g.events) stay.0))
        (before (Event settled) (Gone stay.0 stay.2))

  abbrev pub differs : ℕ → ℕ → PointOrder → Option PointOrder
  differs call other order = do
    id ← call_at g call
    jd ← call_at g other
    first ← access_of order.from
    second ← access_of order.to
    one ← made g call first.0 first.1
    two ← made g other second.0 second.1
    only_if (not (id == jd)) (before order.from order.to)

  abbrev pub finds_closed : ℕ → ℕ → Option PointOrder
  finds_closed close answer = do
    file ← close_at g close
    found ← found_at g answer
    only_if (nat_lt close answer && same_file found.1 file) (never answer)

  abbrev pub closes_twice : ℕ → ℕ → Option PointOrder
  closes_twice first second = do
    file ← close_at g first
    again ← close_at g second
    only_if (nat_lt first second && same_file again file) (never second)

  abbrev pub closes_held : ℕ → ℕ → Option PointOrder
  closes_held answer close = do
    found ← found_at g answer
    file ← close_at g close
    only_if (nat_lt answer close && same_file found.1 file && nat_lt close (length g.events)
        && not (was_freed (take close g.events) found.0)) (never close)

  abbrev pub cant_answer : ℕ → ℕ → Option PointOrder
  cant_answer call answer = made g call answer 0 >>= by_answer (slots_of g) answer

-- the orders that need the known ones alone

abbrev pub displaces : PointOrder → PointOrder → Option PointOrder
displaces installed placed = do
  file ← put_of installed.from
  stay ← stay_of placed
  call ← call_of stay.0
  only_if (same_file stay.1 stay.0 && not (same_file stay.0 file)
      && same_point installed.to (Put stay.0)) (not_after (Gone file stay.2) (Put stay.0))

abbrev pub outlives : PointOrder → PointOrder → Option PointOrder
outlives there placed = do
  one ← stay_of there
  two ← stay_of placed
  call ← call_of one.0
  only_if (same_file two.0 one.0 && same_file two.1 one.0 && (two.2 == one.2)
      && not (same_file one.0 one.1)) (before (Put one.0) (Put one.1))
