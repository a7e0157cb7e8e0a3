-- Learning from another pass, and the order that follows.
use Rattle.std.specs.Prelude.{◌≡◌, ℕ, List, map, Option, Result}
use Rattle.fx_base.specs.Identity.{Identity}
use Rattle.fx_plain.specs.declared.event.Action.{Action}
use Rattle.fx_plain.specs.declared.event.Event.{Event}
use Rattle.fx_plain.specs.History.{IsSeenBy, part_of_pass, ◌▷▷◌}
use Rattle.fx_table.specs.Opening.{Opening}
use Rattle.fx_table.specs.Pass.{PassView, IsFront, event_of}
use Rattle.fx_table.specs.Calls.{Use, Adds, LookedUp}
use Rattle.fx_table.specs.declared.values.Doing.{Doing}
use Rattle.fx_table.specs.declared.values.Hold.{Hold}
use Rattle.fx_table.specs.declared.values.LookFault.{LookFault}

-- the pass learns the history that was shown: its front grows, and has all of that history; nothing
-- else changes
pub record Learns (o : Opening) (history : List Event) (v w : PassView) : Type 0 where
  pub own : IsSeenBy v.front w.front
  pub shown : IsSeenBy history w.front
  pub front : IsFront o w
  pub same : w ≡ record v { front = w.front }

-- the events since the pass's front, which has all that was shown: the pass's part of them is made
-- of these actions
pub record FollowsShown (history : List Event) (v : PassView) (actions : List Action) (w : PassView)
    : Type 0 where
  pub since : List Event
  pub front : w.front ≡ v.front ▷▷ since
  pub shown : IsSeenBy history v.front
  pub part : part_of_pass v.number since ≡ map (event_of v) actions

-- all that a call adds follows what its pass had seen or learned before the call
abbrev pub CallsFollowWhatWasShown : Type 0
CallsFollowWhatWasShown =
    (o : Opening) (shown : List Event) (v w : PassView) (actions : List Action) (doing : Doing)
    (used : Use)
    → IsFront o v
    → IsSeenBy shown v.front
    → Adds o v actions doing used w
    → FollowsShown shown v actions w

-- a look-up of a pass that learns first
pub record LooksUpAfter (o : Opening) (shown : List Event) (v : PassView) (slot : ℕ)
    (found : Result Hold LookFault) (freed : Option Identity) (w : PassView) : Type 0 where
  pub between : PassView
  pub learns : Learns o shown v between
  pub looked : LookedUp o between slot found freed w
