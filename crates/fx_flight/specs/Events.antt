-- The events of a log, without their places in memory.
use Rattle.fx_flight.specs.Words.{ℕ, List, map, Option, Identity, Completed, completed_of}
use Rattle.fx_flight.specs.Words.{first_member, Asked, all_asked, Place}
use Rattle.fx_flight.specs.declared.event.LogEvent.{LogEvent}
use Rattle.fx_flight.specs.declared.event.LogEvent.TheVariants.{Call, Done, Look, Found, Free}
use Rattle.fx_flight.specs.declared.event.LogEvent.TheVariants.{Closed, Settled}

-- an event of a log. Calls are named by their numbers
pub data Happening : Type 0 where
  -- a chain of requests is called
  Called : ℕ → List Asked → Happening
  -- the answer of one of its members is seen
  Answered : ℕ → Completed → Happening
  -- a look of a slot is called
  LookCalled : ℕ → ℕ → Happening
  -- its answer is seen: the file at the slot, or none
  LookAnswered : ℕ → Option Identity → Happening
  -- the hold of the file that a look found begins to end
  Freed : ℕ → Happening
  -- a file was closed, at some time before
  FileClosed : Identity → Happening
  -- the observer waited until each file that was removed was closed
  AllSettled : Happening

abbrev pub happening_of : LogEvent → Happening
happening_of (Call id chain) = Called id (all_asked chain.items)
happening_of (Done c) = Answered c.place.submission (completed_of c)
happening_of (Look id slot) = LookCalled id slot
happening_of (Found id file) = LookAnswered id file
happening_of (Free id) = Freed id
happening_of (Closed file) = FileClosed file
happening_of Settled = AllSettled

abbrev pub all_happenings : List LogEvent → List Happening
all_happenings events = map happening_of events

-- the place of the first member of a call: a call is a submission of one chain
abbrev pub first_of_call : ℕ → Place
first_of_call id = first_member id 1
