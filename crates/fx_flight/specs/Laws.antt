-- Laws of flights. A flight is written with `▷` and `▷▷`, its oldest moment first.
use Rattle.fx_flight.specs.Words.{ℕ, List, [], map, Contains, Option, AllByRecursion, Identity}
use Rattle.fx_flight.specs.Words.{Completed, first_member, Asked, runs_of, RingState, IsRing}
use Rattle.fx_flight.specs.Words.{IsOneOrder, IsChainDone}
use Rattle.std.specs.Prelude.{◌≡◌, ◌⊎◌, ◌+◌, ◌∷◌, ◌++◌}
use Rattle.fx_plain.specs.History.{◌▷◌, ◌▷▷◌}
use Rattle.fx_chain.specs.Accepted.{IsAccepted}
use Rattle.fx_ring.specs.Submission.{Reported}
use Rattle.fx_flight.specs.Events.{Happening, Called, Answered, LookCalled, LookAnswered}
use Rattle.fx_flight.specs.Events.{FileClosed, AllSettled}
use Rattle.fx_flight.specs.Faults.{IsFaultless}
use Rattle.fx_flight.specs.Flight.{Moment, Logged, WasLogged, log_of, made_by, taken_in}
use Rattle.fx_flight.specs.Flight.{FlightSetting, IsFlight, HasFlight, IsLegalLog}

-- each beginning of a legal log is legal
abbrev pub EachBeginningIsLegal : Type 0
EachBeginningIsLegal =
    (old : RingState) (front rest : List Happening) → IsLegalLog old (front ++ rest)
    → IsLegalLog old front

-- no file is closed twice
abbrev pub NoSecondClose : Type 0
NoSecondClose =
    (old : RingState) (front rest : List Happening) (file : Identity)
    → IsLegalLog old (front ++ FileClosed file ∷ rest)
    → Contains front (FileClosed file) → ⊥

-- before a file is closed, an access took it from its slot
abbrev pub EachClosedFileWasRemoved : Type 0
EachClosedFileWasRemoved =
    (s : FlightSetting) (earlier later : List Moment) (file : Identity)
    → IsFlight s (earlier ▷ Logged (FileClosed file) ▷▷ later)
    → Contains (taken_in earlier) file

-- the event calls a chain or a look with this number
abbrev pub IsCallOf : ℕ → Happening → Type 0
IsCallOf id (Called other requests) = other ≡ id
IsCallOf id (LookCalled other slot) = other ≡ id
IsCallOf id event = ⊥

-- after this flight, a call is over: each of its answers was seen, or that of the look
abbrev pub IsAllOver : FlightSetting → List Moment → ℕ → Type 0
IsAllOver s flight id =
    ((requests : List Asked) × WasLogged flight (Called id requests)
    × AllByRecursion (λ c. WasLogged flight (Answered id c)) (s.answers id))
    ⊎ ((found : Option Identity) × WasLogged flight (LookAnswered id found))

-- a chain whose answers were all seen is done, by the accesses that it made
abbrev pub EachAnsweredChainIsDone : Type 0
EachAnsweredChainIsDone =
    (s : FlightSetting) (flight : List Moment) (id : ℕ) (requests : List Asked)
    → IsFlight s flight
    → IsFaultless (log_of flight)
    → WasLogged flight (Called id requests)
    → AllByRecursion (λ c. WasLogged flight (Answered id c)) (s.answers id)
    → IsChainDone s.old.catalogue s.old.size (s.first id) requests (made_by id flight)
    (s.answers id)

-- a call that is over before another one begins makes all its accesses before all of that one's
abbrev pub EachCallIsInItsTime : Type 0
EachCallIsInItsTime =
    (s : FlightSetting) (earlier later : List Moment) (first second : ℕ) (call : Happening)
    → IsFlight s (earlier ▷ Logged call ▷▷ later)
    → IsFaultless (log_of (earlier ▷ Logged call ▷▷ later))
    → IsCallOf second call
    → IsAllOver s earlier first
    → (made_by second earlier ≡ []) × (made_by first later ≡ [])

-- the chains of a submission are called, from this one on
abbrev pub calls_of : ℕ → List (List Asked) → List Happening
calls_of chain [] = []
calls_of chain (run ∷ runs) = Called chain run ∷ calls_of (chain + 1) runs

abbrev pub answer_of_chain : Completed → Happening
answer_of_chain c = Answered c.place.chain c

-- a submission as a log: all calls, then all answers, then all closes
abbrev pub log_of_submission : List Asked → Reported → List Happening
log_of_submission requests report =
    calls_of 1 (runs_of requests) ++ map answer_of_chain report.completions
    ++ map FileClosed report.closes.files ++ AllSettled ∷ []

-- what one order of a submission's requests leads to is legal as a log
abbrev pub EachOrderIsAFlight : Type 0
EachOrderIsAFlight =
    (old : RingState) (requests : List Asked) (report : Reported) (new : RingState)
    → IsRing old
    → IsAccepted requests
    → IsOneOrder old requests report new
    → HasFlight (first_member report.submission) old (log_of_submission requests report)
