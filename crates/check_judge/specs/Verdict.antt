-- Verdicts on the report of a submission.
use Rattle.std.specs.Prelude.{◌≡◌, ◌+◌}
use Rattle.check_judge.specs.Words.{ℕ, List, all_completed, Asked, RingState, Reported, IsOneOrder}
use Rattle.check_judge.specs.Words.{ChainAccess}
use Rattle.check_judge.specs.declared.part.PartVerdict.{PartVerdict}
use Rattle.check_judge.specs.Played.{IfRefuted}
use Rattle.check_judge.specs.declared.recorded.Recorded.{Recorded}
use Rattle.check_judge.specs.declared.judgement.Verdict.{Verdict}
use Rattle.check_judge.specs.declared.judgement.Verdict.TheVariants.{Legal, NotLegal, Undecided}

-- completions and closes as a report; the room of its list of closes may be any
abbrev pub recorded_report : RingState → Recorded → ℕ → Reported
recorded_report old recorded room = record {
  submission = old.submissions + 1;
  completions = all_completed recorded.completions.items;
  closes = record { files = recorded.closes.items; room = room };
}

-- this order of the requests leads to the report
abbrev pub CameBy : RingState → List Asked → Recorded → List ChainAccess → RingState → Type 0
CameBy old requests recorded order new = (room : ℕ) →
    (one : IsOneOrder old requests (recorded_report old recorded room) new) × (one.order ≡ order)

-- no order of the requests leads to the report
abbrev pub IsRefuted : RingState → List Asked → Recorded → Type 0
IsRefuted old requests recorded =
    (room : ℕ) (left : RingState)
    → IsOneOrder old requests (recorded_report old recorded room) left → ⊥

-- the result of a search is right if it says that there is no order
abbrev pub IsRecordedOutcome : RingState → List Asked → Recorded → PartVerdict → Type 0
IsRecordedOutcome old requests recorded = IfRefuted (IsRefuted old requests recorded)

-- an order of the requests leads to the report, or none does, or nothing is said; only the first
-- verdict leads to another ring
abbrev pub IsVerdict : RingState → List Asked → Recorded → Verdict → RingState → Type 0
IsVerdict old requests recorded (Legal order) new = CameBy old requests recorded order.items new
IsVerdict old requests recorded (NotLegal reason) new =
    (new ≡ old) × IsRefuted old requests recorded
IsVerdict old requests recorded (Undecided doubt) new = new ≡ old
