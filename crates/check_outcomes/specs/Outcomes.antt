-- The reports that a submission may produce if no allocation fails.
use Rattle.std.specs.Prelude.{◌≡◌, ◌+◌, ◌<◌}
use Rattle.check_outcomes.specs.Words.{List, All, Contains, length, map, IsPermutation, Completed}
use Rattle.check_outcomes.specs.Words.{all_completed, completed_of, Asked, Place, IsOrderOf}
use Rattle.check_outcomes.specs.Words.{ring_left, ring_of_slots, ChainAccess, Slots, RingContents}
use Rattle.check_outcomes.specs.Words.{RingState, ring_of, IsOneHistory, Reported, reported}
use Rattle.check_outcomes.specs.Rests.{HasMemory}
use Rattle.check_outcomes.specs.declared.outcomes.PossibleAnswer.{PossibleAnswer}
use Rattle.check_outcomes.specs.declared.outcomes.PossibleReport.{PossibleReport}

-- one history of the ring's table produces this report and leaves this ring, and no request lacks
-- memory
pub record MayReport (ring : RingContents) (requests : List Asked) (report : Reported)
    (left : RingContents) : Type 0 where
  pub history : IsOneHistory ring requests report left
  pub memory : All HasMemory report.completions

-- a request of the submission may answer so, where this ring is left
pub record MayAnswer (ring : RingContents) (requests : List Asked) (c : Completed)
    (left : RingContents) : Type 0 where
  pub report : Reported
  pub may : MayReport ring requests report left
  pub inside : Contains report.completions c

-- the ring after a submission that leaves these slots
abbrev pub ring_following : RingState → Slots → RingState
ring_following old slots =
    ring_of_slots old.catalogue slots (old.submissions + 1) old.registrations

-- the requests' accesses, in this order, produce this report and leave these slots, and no request
-- lacks memory
pub record IsReportBy (old : RingState) (requests : List Asked) (order : List ChainAccess)
    (report : Reported) (slots : Slots) : Type 0 where
  pub is : IsOrderOf order old requests report
  pub memory : All HasMemory report.completions
  pub leaves : ring_following old slots ≡ ring_left order old

-- an answer at the place that each ring with this state may produce, by the order listed with it
pub record IsAnswer (old : RingState) (requests : List Asked) (place : Place) (answer
    : PossibleAnswer)
    : Type 0 where
  pub report : Reported
  pub by : IsReportBy old requests answer.order.items report answer.slots
  pub inside : Contains report.completions (completed_of answer.completion)
  pub there : answer.completion.place ≡ place
  pub may : (ring : RingContents) → ring_of ring ≡ old
      → (left : RingContents) × (ring_of left ≡ ring_following old answer.slots)
      × MayAnswer ring requests (completed_of answer.completion) left

abbrev pub answered : List PossibleAnswer → List Completed
answered answers = map (λ answer. completed_of answer.completion) answers

-- whatever the request at the place may answer is one of these answers
abbrev pub HasEachAnswer : RingState → List Asked → Place → List PossibleAnswer → Type 0
HasEachAnswer old requests place answers =
    (ring left : RingContents) (c : Completed) → ring_of ring ≡ old
    → MayAnswer ring requests c left → c.place ≡ place → Contains (answered answers) c

-- the rings that these reports leave
abbrev pub rings_following : RingState → List PossibleReport → List RingState
rings_following old reports = map (λ possible. ring_following old possible.slots) reports

-- the state of whatever ring the submission may leave is that of one of these reports
abbrev pub HasEachEnd : RingState → List Asked → List PossibleReport → Type 0
HasEachEnd old requests reports =
    (ring left : RingContents) (report : Reported) → ring_of ring ≡ old
    → MayReport ring requests report left → Contains (rings_following old reports) (ring_of left)

-- a report that each ring with this state may produce, by the order listed with it
pub record IsPossible (old : RingState) (requests : List Asked) (possible : PossibleReport)
    : Type 0 where
  pub by : IsReportBy old requests possible.order.items (reported possible.report) possible.slots
  pub may : (ring : RingContents) → ring_of ring ≡ old
      → (left : RingContents) × (ring_of left ≡ ring_following old possible.slots)
      × MayReport ring requests (reported possible.report) left
  pub entries : All (λ file. file.entry < length old.catalogue) possible.report.closes.files

-- it lists this report, whose files are in order of mark too, and leaves this ring
pub record ReportsOf (old : RingState) (report : Reported) (left : RingState)
    (possible : PossibleReport) : Type 0 where
  pub submission : report.submission ≡ possible.report.submission
  pub completions : report.completions ≡ all_completed possible.report.completions.items
  pub closes : IsPermutation possible.report.closes.files report.closes.files
  pub leaves : left ≡ ring_following old possible.slots

-- one of these lists each report that the submission may produce
abbrev pub HasEachReport : RingState → List Asked → List PossibleReport → Type 0
HasEachReport old requests reports =
    (ring left : RingContents) (report : Reported) → ring_of ring ≡ old
    → MayReport ring requests report left
    → (possible : PossibleReport) × Contains reports possible
    × ReportsOf old report (ring_of left) possible
