-- The effect of a submission on files, from the promises of `submit` alone.
use Rattle.std.specs.Prelude.{◌≡◌, ◌⊎◌, ℕ, ◌≤◌, List, [], length, Some}
use Rattle.fx_plain.specs.State.{State, opening}
use Rattle.fx_plain.specs.Contents.{state_of}
use Rattle.fx_plain.specs.History.{◌▷◌, ◌▷▷◌, part_of_pass}
use Rattle.fx_plain.specs.Laws.{closes_of, releases_in, IsAtSlot, IsInstalled, IsStillThere}
use Rattle.fx_plain.specs.Laws.{IsClosedOnce}
use Rattle.fx_plain.specs.declared.event.File.{File}
use Rattle.fx_plain.specs.declared.event.Event.{Event}
use Rattle.fx_plain.specs.declared.event.Action.TheVariants.{Look}
use Rattle.fx_table.specs.Numbers.{numbers_for}
use Rattle.fx_chain.specs.Operation.{Asked}
use Rattle.fx_chain.specs.Runs.{runs_of}
use Rattle.fx_ring.specs.Ring.{RingContents, ring_of}
use Rattle.fx_ring.specs.Submission.{IsOneHistory, Reported}

-- the state that the history of a submission begins with
abbrev pub start_of_submission : RingContents → List Asked → State
start_of_submission ring requests =
    opening (state_of ring.table) (numbers_for (length (runs_of requests)))

-- from a look-up on that found a file, as long as its pass releases nothing, no file of that number
-- is closed
abbrev pub NoHeldFileCloses : Type 0
NoHeldFileCloses =
    (old new : RingContents) (requests : List Asked) (report : Reported)
    → (one : IsOneHistory old requests report new)
    → (before since others : List Event) (look : Event) (slot : ℕ) (f : File)
    → one.history ≡ before ▷ look ▷▷ since ▷▷ others
    → look.action ≡ Look slot (Some f)
    → releases_in (part_of_pass look.pass since) ≡ []
    → closes_of f.number since ≡ []

-- no file is closed twice
abbrev pub NoFileClosesTwice : Type 0
NoFileClosesTwice =
    (old new : RingContents) (requests : List Asked) (report : Reported)
    → (one : IsOneHistory old requests report new)
    → (number : ℕ) → length (closes_of number one.history) ≤ 1

-- a file that was at a slot, or was installed, is at a slot afterwards and was never closed, or is
-- at none and was closed, once
abbrev pub NoFileIsLost : Type 0
NoFileIsLost =
    (old new : RingContents) (requests : List Asked) (report : Reported)
    → (one : IsOneHistory old requests report new)
    → (f : File) → IsAtSlot (start_of_submission old requests) f ⊎ IsInstalled one.history f
    → IsStillThere one.history one.end f ⊎ IsClosedOnce one.history one.end f

-- what a submission may do on a ring, it may do on one that shows the same
abbrev pub SameRingsDoTheSame : Type 0
SameRingsDoTheSame =
    (old same new : RingContents) (requests : List Asked) (report : Reported)
    → ring_of same ≡ ring_of old
    → IsOneHistory old requests report new
    → IsOneHistory same requests report new
