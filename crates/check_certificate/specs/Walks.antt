-- The rules of certificates that look at all accesses that calls intend before an event.
use Rattle.check_certificate.specs.Words.{ℕ, zero, suc, nat_lt, Bool, true, not, List, length}
use Rattle.check_certificate.specs.Words.{slice_get, Option, Some, None, positions_of, Asked}
use Rattle.check_certificate.specs.Words.{Operation, Place, Intent, Allocate, Happening, Called}
use Rattle.check_certificate.specs.Words.{Holding, OnlyFile, Nothing, PutBefore, GoneAfter, Point}
use Rattle.check_certificate.specs.Words.{Event, Gone, PointOrder, Landing, Leaving, MemberAccess}
use Rattle.check_certificate.specs.Words.{WalkAim, Leaves, Lands, Misses}
use Rattle.std.specs.Prelude.{◌+◌, ◌==◌, ◌&&◌, ◌||◌}
use Rattle.fx_chain.specs.declared.intent.Intent.TheVariants.{Put as Install}
use Rattle.check_certificate.specs.Holds.{finds_file, installs_none, is_empty_at_first}
use Rattle.check_certificate.specs.Leaves.{takes_none}
use Rattle.check_certificate.specs.Made.{intended, made}
use Rattle.check_certificate.specs.Rules.{before, not_after, same_point, event_of, gone_of, joined}
use Rattle.check_certificate.specs.Rules.{put_of}
use Rattle.check_certificate.specs.Said.{◌>>=◌, Given, slots_of, only_if, same_file, call_of}
use Rattle.check_certificate.specs.Said.{event_at}
use Rattle.check_certificate.specs.Walked.{end_of, member_of}
use Rattle.check_certificate.specs.declared.certificate.Point.TheVariants.{Access, Put}
use Rattle.check_certificate.specs.declared.walk.WalkAim.TheVariants.{Finds}

-- it is so of each number below a number
abbrev pub all_below : ℕ → (ℕ → Bool) → Bool
all_below zero test = true
all_below (suc n) test = test n && all_below n test

-- an access that is intended installs the file at the slot, or doesn't install it
abbrev pub lands_there : Landing → Intent → Bool
lands_there l (Install slot file) = (slot == l.slot) || not (same_file file l.file)
lands_there l (Allocate file) = not (same_file file l.file)
lands_there l intent = true

-- it installs the file at another slot, or doesn't install it
abbrev pub misses_there : Landing → Intent → Bool
misses_there l (Install slot file) = not (slot == l.slot) || not (same_file file l.file)
misses_there l (Allocate file) = not (same_file file l.file)
misses_there l intent = true

-- the file that is installed before an event, by the order of both
abbrev pub landing : PointOrder → ℕ → Option Landing
landing installed slot = do
  file ← put_of installed.from
  until ← event_of installed.to
  only_if installed.strict (record { file = file; slot = slot; until = until })

-- the file that leaves its slot after an event, and before the one at `until`
abbrev pub leaving : PointOrder → ℕ → Option Point → Option Leaving
leaving there until taker = do
  since ← event_of there.from
  gone ← gone_of there.to
  only_if there.strict
      (record { file = gone.0; slot = gone.1; since = since; until = until; taker = taker })

-- the order of the access and of the file that it finds
abbrev pub found_order : Point → ℕ → OnlyFile → PointOrder
found_order access slot Nothing = before access access
found_order access slot (PutBefore file) = before (Put file) access
found_order access slot (GoneAfter file) = not_after access (Gone file slot)

module _ (g : Given) (known : List PointOrder) where
  -- an access that is intended is excluded by the rule
  abbrev pub rules_out : WalkAim → MemberAccess → Intent → Bool
  rules_out (Finds h) by intent = installs_none g h known by intent
  rules_out (Leaves l) by intent = takes_none g l known by intent
  rules_out (Lands l) by intent = lands_there l intent
  rules_out (Misses l) by intent = misses_there l intent

  -- if there is one
  abbrev pub is_ruled_out : WalkAim → MemberAccess → Option Intent → Bool
  is_ruled_out aim by None = true
  is_ruled_out aim by (Some intent) = rules_out aim by intent

  -- so it is with each access of a member at a place
  unfoldable pub are_ruled_out : WalkAim → ℕ → Place → Operation → Bool
  are_ruled_out aim call place operation =
      all_below (length (positions_of operation)) (λ access.
      is_ruled_out aim (record { call = call; place = place; access = access })
      (intended g.catalogue (slots_of g) place operation access))

  -- and of the member of a call with a number, from 0
  unfoldable pub is_member_ruled_out : WalkAim → ℕ → ℕ → ℕ → Asked → Bool
  is_member_ruled_out aim call id n request =
      nat_lt (n + 1) 4294967296 && are_ruled_out aim call (member_of id n) request.operation

  abbrev pub is_asked_ruled_out : WalkAim → ℕ → ℕ → ℕ → Option Asked → Bool
  is_asked_ruled_out aim call id n None = true
  is_asked_ruled_out aim call id n (Some request) = is_member_ruled_out aim call id n request

  -- and of each member of a call
  unfoldable pub are_all_ruled_out : WalkAim → ℕ → ℕ → List Asked → Bool
  are_all_ruled_out aim call id requests =
      all_below (length requests) (λ n. is_asked_ruled_out aim call id n (slice_get requests n))

  abbrev pub is_call_ruled_out : WalkAim → ℕ → Option Happening → Bool
  is_call_ruled_out aim call (Some (Called id requests)) = are_all_ruled_out aim call id requests
  is_call_ruled_out aim call event = true

  -- and of each call before the event
  unfoldable pub is_walked : WalkAim → Bool
  is_walked aim =
      all_below (length g.events) (λ at.
      not (nat_lt at (end_of aim)) || is_call_ruled_out aim at (event_at g at))

  unfoldable pub holds : Holding → Option PointOrder
  holds h = do
    evidence ← made g h.call h.answer h.access
    only_if (finds_file g evidence h.slot && is_empty_at_first g h.slot && is_walked (Finds h))
        (found_order (Access h.answer h.access) h.slot h.found)

  unfoldable pub lands : Landing → Option PointOrder
  lands l =
      only_if (nat_lt l.until (length g.events) && is_walked (Lands l))
      (before (Put l.file) (Gone l.file l.slot))

  unfoldable pub misses : Landing → Option PointOrder
  misses l = do
    call ← call_of l.file
    only_if (nat_lt l.until (length g.events) && is_walked (Misses l))
        (not_after (Gone l.file l.slot) (Put l.file))

  -- a file that was installed before an event, by no call before the event
  unfoldable pub unknown : PointOrder → Option PointOrder
  unknown installed = do
    l ← landing installed 0
    placed ← lands l
    left ← misses l
    joined placed left

  unfoldable pub stays : ℕ → PointOrder → Option PointOrder
  stays until there = do
    l ← leaving there until None
    only_if (nat_lt l.until (length g.events) && is_walked (Leaves l))
        (before (Event l.until) (Gone l.file l.slot))

  unfoldable pub taken : Point → PointOrder → PointOrder → Option (PointOrder × PointOrder)
  taken taker there gone = do
    until ← event_of gone.to
    l ← leaving there until (Some taker)
    only_if (nat_lt l.until (length g.events) && same_point gone.from (Gone l.file l.slot)
        && is_walked (Leaves l)) (not_after taker gone.from, not_after gone.from taker)
