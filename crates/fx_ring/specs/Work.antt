-- The work of a submission's worker.
use Rattle.std.specs.Prelude.{◌≡◌, ℕ, ◌+◌, ◌-◌, ◌==◌, ◌≤◌, List, [], map, filter, length, drop, All}
use Rattle.std.specs.Prelude.{Contains, sum_by, slice_index_or}
use Rattle.fx_base.specs.Catalogue.{FileEntry}
use Rattle.fx_base.specs.CloseListView.{CloseListView}
use Rattle.fx_plain.specs.History.{action_of, closes_in, part_of_chain}
use Rattle.fx_table.specs.Pass.{PassView, IsOfDrawnChains}
use Rattle.fx_table.specs.declared.limits.TheConstants.{MAX_CHAINS}
use Rattle.fx_chain.specs.Accepted.{IsAccepted, IsChain, members_of}
use Rattle.fx_chain.specs.Completed.{Completed}
use Rattle.fx_chain.specs.Explains.{Explains, first_member}
use Rattle.fx_chain.specs.Operation.{Asked}
use Rattle.fx_chain.specs.Runs.{runs_of}
use Rattle.fx_chain.specs.Weights.{all_installs, all_weights}
use Rattle.fx_chain.specs.declared.chain.Chain.{Chain}

-- what a worker has at a moment
pub record WorkerState : Type 0 where
  pub pass : PassView
  pub completions : List Completed
  pub closes : CloseListView

abbrev pub worker_state : PassView → List Completed → CloseListView → WorkerState
worker_state pass completions closes =
    record { pass = pass; completions = completions; closes = closes }

-- the requests of a chain, the first of which is 1
abbrev pub run_of_chain : List (List Asked) → ℕ → List Asked
run_of_chain runs chain = slice_index_or runs (chain - 1) []

-- the requests, accepted, are cut into these chains, one for each of their runs
pub record AreCutInto (requests : List Asked) (chains : List Chain) : Type 0 where
  pub accepted : IsAccepted requests
  pub members : map (members_of requests) chains ≡ runs_of requests
  pub within : All (IsChain requests) chains
  pub few : length chains ≤ MAX_CHAINS

-- no run of the requests installs more files
abbrev pub InstallAtMost : List Asked → ℕ → Type 0
InstallAtMost requests most = All (λ run. all_installs run ≤ most) (runs_of requests)

-- what is left to a worker suffices for a run
abbrev pub IsEnoughFor : List Asked → WorkerState → ℕ → Type 0
IsEnoughFor run w capacity =
    (length run ≤ w.pass.looks_left) × (length w.completions + length run ≤ capacity)
    × (all_weights run ≤ w.closes.room)

abbrev pub completions_of_chain : ℕ → List Completed → List Completed
completions_of_chain chain completions = filter (λ c. c.place.chain == chain) completions

-- the part of a submission's runs that a worker has done
pub record HasWorked (catalogue : List FileEntry) (size submission : ℕ) (runs : List (List Asked))
    (w : WorkerState) : Type 0 where
  -- each chain that it drew is explained by its part of what the pass did
  pub explained : (c : ℕ) → Contains w.pass.drawn c
      → Explains catalogue size (first_member submission c) (run_of_chain runs c)
      (map action_of (part_of_chain c w.pass.own)) (completions_of_chain c w.completions)
  -- and closed no more files than its requests weigh
  pub weighed : (c : ℕ) → Contains w.pass.drawn c
      → length (closes_in (map action_of (part_of_chain c w.pass.own)))
      ≤ all_weights (run_of_chain runs c)
  -- those chains are of the submission, and none is after the last one
  pub inside : (c : ℕ) → Contains w.pass.drawn c → (1 ≤ c) × (c ≤ w.pass.chain)
  pub reached : w.pass.chain ≤ length runs
  -- all that it did, and each of its completions, is of a chain that it drew
  pub own : IsOfDrawnChains w.pass
  pub completed : All (λ c. Contains w.pass.drawn c.place.chain) w.completions
  -- its closes are the files that its pass closed
  pub closed : w.closes.files ≡ closes_in (map action_of w.pass.own)

-- the number of requests of the chains after this one, and of files that these may close
abbrev pub requests_after : List (List Asked) → ℕ → ℕ
requests_after runs chain = sum_by (λ run. length run) (drop chain runs)

abbrev pub weights_after : List (List Asked) → ℕ → ℕ
weights_after runs chain = sum_by all_weights (drop chain runs)

-- the worker has room left for the chains after its last one
pub record HasRoom (runs : List (List Asked)) (w : WorkerState) (capacity : ℕ) : Type 0 where
  pub looks : requests_after runs w.pass.chain ≤ w.pass.looks_left
  pub completions : length w.completions + requests_after runs w.pass.chain ≤ capacity
  pub closes : weights_after runs w.pass.chain ≤ w.closes.room
