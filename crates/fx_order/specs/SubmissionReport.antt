-- A submission and its report.
use Rattle.fx_order.specs.Words.{ℕ, all_completed, Reported, RingState, Slots}
use Rattle.std.specs.Prelude.{◌+◌}
use Rattle.fx_order.specs.Slots.{ring_of_slots}
use Rattle.fx_order.specs.declared.submission_report.SubmissionReport.{SubmissionReport}

-- the report; its list of closes may have any room
abbrev pub report_of : SubmissionReport → ℕ → Reported
report_of given room = record {
  submission = given.submissions + 1;
  completions = all_completed given.completions.now;
  closes = record { files = given.closes.now; room = room };
}

-- the ring before it, with these slots, after this number of accepted registrations and updates
abbrev pub ring_before : SubmissionReport → Slots → ℕ → RingState
ring_before given slots registrations =
    ring_of_slots given.catalogue.now slots given.submissions registrations
