-- The play of a submission, and a worker between two of its chains.
use Rattle.std.specs.Prelude.{◌≡◌, ◌+◌, ℕ, true, List, vec_capacity}
use Rattle.fx_base.specs.Catalogue.{FileEntry}
use Rattle.fx_table.specs.Opening.{size_of}
use Rattle.fx_table.specs.Pass.{PassView, IsIdle}
use Rattle.fx_plain.specs.Contents.{Contents}
use Rattle.fx_chain.specs.Completed.{all_completed}
use Rattle.fx_chain.specs.Operation.{Asked, all_asked}
use Rattle.fx_chain.specs.Runs.{runs_of}
use Rattle.fx_ring.specs.Work.{WorkerState, worker_state, HasWorked, HasRoom}
use Rattle.fx_ring.specs.Ring.{ring_with}
use Rattle.fx_ring.specs.Submission.{IsOneHistory, reported}
use Rattle.fx_ring.specs.declared.play.Play.{Play}
use Rattle.fx_ring.specs.declared.play.Submission.{Submission}
use Rattle.fx_ring.specs.declared.report.Report.{Report}
use Rattle.fx_ring.specs.declared.worker.Worker.{Worker}

-- where its pass is, and the outcome of its chains
abbrev pub state_of_worker : {P : Type 0} → (P → PassView) → Worker P → WorkerState
state_of_worker V w =
    worker_state (V w.pass) (all_completed w.outcome.completions.items) w.outcome.closes

-- what all workers of a submission play
pub record Setting : Type 0 where
  pub catalogue : List FileEntry
  pub size : ℕ
  pub submission : ℕ
  pub runs : List (List Asked)

-- its pass does nothing, and its chains have been played as they may be
pub record IsBetweenChains {P : Type 0} (V : P → PassView) (Fits : P → Type 0) (s : Setting)
    (w : Worker P) : Type 0 where
  pub fits : Fits w.pass
  pub idle : IsIdle (V w.pass)
  pub worked : HasWorked s.catalogue s.size s.submission s.runs (state_of_worker V w)

-- it has room for the outcome of one more chain
pub record IsReadyForNext {P : Type 0} (V : P → PassView) (Fits : P → Type 0) (s : Setting) (w
    : Worker P)
    : Type 0 where
  pub between : IsBetweenChains V Fits s w
  pub room : HasRoom s.runs (state_of_worker V w) (vec_capacity w.outcome.completions)

-- no chains are left
pub record IsDone {P : Type 0} (V : P → PassView) (Fits : P → Type 0) (s : Setting) (w : Worker P)
    : Type 0 where
  pub between : IsBetweenChains V Fits s w
  pub all_drawn : (V w.pass).no_chains_left ≡ true

-- the number of its pass
abbrev pub number_of_worker : {P : Type 0} → (P → PassView) → Worker P → ℕ
number_of_worker V w = (V w.pass).number

-- what the workers of this play have in common
abbrev pub setting : {T R G P : Type 0} {t : _} → Play T R G P t → Setting
setting {t = t} p =
    let s = p.submission.now in
    record {
      catalogue = s.catalogue.now;
      size = size_of (t.opening p.table.now);
      submission = s.earlier + 1;
      runs = runs_of (all_asked s.requests.now);
    }

-- the worker can play one more chain
abbrev pub IsReadyFor : {T R G P : Type 0} {t : _} → Play T R G P t → Worker P → Type 0
IsReadyFor {t = t} p w = IsReadyForNext t.view (t.fits p.table.now) (setting p) w

-- the worker has played its chains, and there are no more
abbrev pub IsDoneFor : {T R G P : Type 0} {t : _} → Play T R G P t → Worker P → Type 0
IsDoneFor {t = t} p w = IsDone t.view (t.fits p.table.now) (setting p) w

-- the submission leads by one history from a ring with the one table to one with the other, however
-- many registrations that ring has counted
abbrev pub IsPlayOf : {R G : Type 0} → Submission R G → Contents → Report → Contents → Type 0
IsPlayOf s before report after = (registrations : ℕ)
    → IsOneHistory (ring_with s.catalogue.now before s.earlier registrations)
    (all_asked s.requests.now)
    (reported report) (ring_with s.catalogue.now after (s.earlier + 1) registrations)
