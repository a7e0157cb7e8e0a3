-- The failures of a ring's calls, and their lists of closes (the order of the refusals is
-- this project's own).
use Rattle.std.specs.Prelude.{◌≡◌, ℕ, ◌==◌, ◌||◌, nat_le, nat_lt, List, if◌then◌else◌, Option}
use Rattle.std.specs.Prelude.{Some, None, Result, Err, IfSome, IfNone, IsOkUnless}
use Rattle.fx_base.specs.CloseListView.{CloseListView}
use Rattle.fx_base.specs.declared.open_file.Closed.{Closed}
use Rattle.fx_table.specs.declared.limits.TheConstants.{MAX_PASSES}
use Rattle.fx_chain.specs.Faults.{fault_of}
use Rattle.fx_chain.specs.Operation.{Asked}
use Rattle.fx_chain.specs.declared.fault.CutFault.{CutFault}
use Rattle.fx_ring.specs.Ring.{AreEntries, HasClosed, RingState}
use Rattle.fx_ring.specs.declared.ring.TheConstants.{MOST_SUBMISSIONS}
use Rattle.fx_ring.specs.declared.report.SubmitFault.{SubmitFault}
use Rattle.fx_ring.specs.declared.report.SubmitFault.TheVariants.{Workers, Cut, TooMany}

-- the call fails with its refusal, if there is one, and otherwise only if an allocation fails
pub record FailsOnlyAs {A E : Type 0} (refusal : Option E) (no_memory : E) (result : Result A E)
    : Type 0 where
  pub refused : IfSome refusal (λ fault. result ≡ Err fault)
  pub only_refusal : IfNone refusal (IsOkUnless result no_memory)

-- the first request's fault, or else the later one
abbrev pub or_later_fault : Option CutFault → Option SubmitFault → Option SubmitFault
or_later_fault None later = later
or_later_fault (Some fault) later = Some (Cut fault)

-- the reason to refuse a submission after `submissions` accepted ones, memory aside
abbrev pub refusal_after : ℕ → List Asked → ℕ → Option SubmitFault
refusal_after submissions requests workers =
    if workers == 0 || nat_lt MAX_PASSES workers then Some Workers
    else or_later_fault (fault_of requests)
    (if nat_le MOST_SUBMISSIONS submissions then Some TooMany else None)

-- the reason of a ring to refuse a submission, memory aside
abbrev pub submit_refusal : RingState → List Asked → ℕ → Option SubmitFault
submit_refusal ring requests workers = refusal_after ring.submissions requests workers

-- the list has exactly these files, in order of mark, all of the ring's catalogue
pub record ListsFiles (ring : RingState) (files : List Closed) (closes : CloseListView)
    : Type 0 where
  pub closed : HasClosed files closes
  pub entries : AreEntries ring closes.files
