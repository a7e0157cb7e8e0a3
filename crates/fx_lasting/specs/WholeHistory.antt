-- The history of all passes of a table, and who uses a removed file, between any two steps.
use Rattle.std.specs.Prelude.{◌≡◌, ◌⊎◌, ◌<◌, ◌≤◌, ◌∷◌, ℕ, List, [], length, Some}
use Rattle.fx_lasting.specs.Words.{IsLegal, IsSeenBy, part_of_pass, Event, File, start_of, state_at}
use Rattle.fx_lasting.specs.Words.{PassView, Holding, Hold, Log, Start, View, Work, Announced}
use Rattle.fx_lasting.specs.Words.{Counted, Guarded, Nearing, Owing, Relieving, Renewing, Yielding}
use Rattle.fx_plain.specs.Laws.{IsStart, closes_of}
use Rattle.fx_lasting.specs.Agrees.{Agrees}
use Rattle.fx_lasting.specs.Passes.{Shared, node_of_number, state_after_all}
use Rattle.fx_lasting.specs.Tables.{opening_of, pass_of}
use Rattle.fx_lasting.specs.declared.view.Work.TheVariants.{Retiring}
use mathlib.Core.Option.{some}
use lib.ListN.{get_elem?}

-- the pass of a seat that has one pass, as calls show it
pub record IsPassAt (s : Shared) (seat : ℕ) (pass : PassView) : Type 0 where
  pub view : View
  pub log : Log
  pub there : get_elem? s.views seat ≡ some view
  pub one : view.logs ≡ log ∷ []
  pub shown : pass_of view ≡ pass

-- the pass has seen a beginning of the history, whose events of the pass are the pass's own
pub record IsPartOf (pass : PassView) (h : List Event) : Type 0 where
  pub seen : IsSeenBy pass.front h
  pub own : part_of_pass pass.number h ≡ pass.own

-- one legal history is that of all passes
pub record IsOfAllPasses (k : Start) (s : Shared) (r : Agrees k s) : Type 0 where
  pub legal : IsLegal (start_of (opening_of k)) r.history (state_at (opening_of k) r.history)
  pub start : IsStart (start_of (opening_of k))
  pub parts : (seat : ℕ) (pass : PassView) → IsPassAt s seat pass → IsPartOf pass r.history
  -- no event has another author than a pass of the table
  pub authors : (pass : ℕ) → (pass ≡ 0) ⊎ ((opening_of k).passes < pass)
      → part_of_pass pass r.history ≡ []
  -- no number is closed twice, by whichever passes
  pub once : (number : ℕ) → length (closes_of number r.history) ≤ 1
  -- no pass has closed a file that a pass holds
  pub held : (seat : ℕ) (pass : PassView) (f : File) (hold : Hold) → IsPassAt s seat pass
      → pass.doing ≡ Holding f hold → closes_of f.number r.history ≡ []

abbrev pub HasOneHistory : Type 0
HasOneHistory = (k : Start) (s : Shared) (r : Agrees k s) → IsOfAllPasses k s r

-- a pass with this work retires the file of the node, holds it, or is within a look-up that
-- announced the node
abbrev pub Uses : File → ℕ → Work → Type 0
Uses f node (Retiring other n takes round charges) = other ≡ f
Uses f node (Counted other n) = other ≡ f
Uses f node (Guarded other n) = other ≡ f
Uses f node (Yielding other n) = other ≡ f
Uses f node (Renewing other n own placement) = other ≡ f
Uses f node (Relieving other n own placement) = other ≡ f
Uses f node (Announced n) = n ≡ node
Uses f node (Nearing n own placement) = n ≡ node
Uses f node (Owing n) = n ≡ node
Uses f node _ = ⊥

-- a pass uses the file
abbrev pub HasUser : Start → Shared → File → Type 0
HasUser k s f = (seat : ℕ) × (v : View) × (get_elem? s.views seat ≡ some v)
    × Uses f (node_of_number k f.number) v.work

-- each file that was removed and isn't closed has a user
abbrev pub RemovedFilesHaveUsers : Type 0
RemovedFilesHaveUsers = (k : Start) (s : Shared) (r : Agrees k s) (number : ℕ) (f : File)
    → (state_after_all k r.history).removed number ≡ Some f → HasUser k s f
