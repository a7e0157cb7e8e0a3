-- A submission: its completions come from one legal history of a sequential file table.
use Rattle.std.specs.Prelude.{◌≡◌, ℕ, ◌+◌, ◌≤◌, List, [], ◌∷◌, ◌++◌, length, map, Contains}
use Rattle.fx_base.specs.Catalogue.{FileEntry}
use Rattle.fx_base.specs.CloseListView.{CloseListView}
use Rattle.fx_plain.specs.State.{State, IsSettled, opening}
use Rattle.fx_plain.specs.Contents.{state_of}
use Rattle.fx_plain.specs.History.{IsLegal, part_of_chain, action_of, closes_in}
use Rattle.fx_plain.specs.declared.event.Event.{Event}
use Rattle.fx_table.specs.Numbers.{numbers_for}
use Rattle.fx_chain.specs.Completed.{Completed, all_completed}
use Rattle.fx_chain.specs.Explains.{Explains, first_member}
use Rattle.fx_chain.specs.Operation.{Asked}
use Rattle.fx_chain.specs.Runs.{runs_of}
use Rattle.fx_ring.specs.Ring.{RingContents, HasClosed, ring_of, with_table}
use Rattle.fx_ring.specs.declared.report.Report.{Report}

-- the completions are those of the chains from this one on, in order of place; each chain's are
-- explained by the part of the history that is the chain's
abbrev pub ExplainsParts : List FileEntry → ℕ → ℕ → ℕ → List (List Asked) → List Event
    → List Completed → Type 0
ExplainsParts catalogue size submission chain [] history completions = completions ≡ []
ExplainsParts catalogue size submission chain (run ∷ runs) history completions =
    (own : List Completed) × (others : List Completed) × (completions ≡ own ++ others)
    × Explains catalogue size (first_member submission chain) run
    (map action_of (part_of_chain chain history)) own
    × ExplainsParts catalogue size submission (chain + 1) runs history others

-- what a report says
pub record Reported : Type 0 where
  pub submission : ℕ
  pub completions : List Completed
  pub closes : CloseListView

abbrev pub reported : Report → Reported
reported report = record {
  submission = report.submission;
  completions = all_completed report.completions.items;
  closes = report.closes;
}

-- A submission leads from one ring to another by one history of its table
pub record IsOneHistory (old : RingContents) (requests : List Asked) (report : Reported)
    (new : RingContents) : Type 0 where
  -- it is legal from the state that the table opens with, and its end is settled
  pub history : List Event
  pub end : State
  pub legal : IsLegal (opening (state_of old.table) (numbers_for (length (runs_of requests))))
      history end
  pub settled : IsSettled end
  -- its events are all of the submission's chains
  pub chains : (e : Event) → Contains history e
      → (1 ≤ e.chain) × (e.chain ≤ length (runs_of requests))
  -- each chain's completions are explained by the chain's part of it, and the report has them all,
  -- in order of place
  pub explained : ExplainsParts old.catalogue (state_of old.table).size report.submission 1
      (runs_of requests) history report.completions
  -- the report's closes are the files that it closed, in order of mark
  pub closed : HasClosed (closes_in (map action_of history)) report.closes
  -- the table afterwards is that of its end; the submission is counted, and all else stays
  pub submission : report.submission ≡ old.submissions + 1
  pub after : ring_of new
      ≡ record (with_table (ring_of old) end) { submissions = old.submissions + 1 }
