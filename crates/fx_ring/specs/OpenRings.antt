-- A ring whose table stays open between submissions of one worker.
use Rattle.std.specs.Prelude.{◌≡◌, ℕ, false, zero, suc, ◌+◌, ◌-◌, ◌*◌, ◌≤◌, List, []}
use Rattle.std.specs.Global.{Vec}
use Rattle.std.specs.Prelude.{map, replicate, vec_capacity}
use Rattle.std.specs.Prelude.{length, All, Contains, Option, Some, None, IsPermutation}
use Rattle.std.specs.List.{range_with_len}
use Rattle.std.specs.List.Sorted.{IsNonDecreasingBy}
use Rattle.fx_base.specs.Catalogue.{FileEntry}
use Rattle.fx_base.specs.CloseListView.{CloseListView}
use Rattle.fx_plain.specs.State.{State}
use Rattle.fx_plain.specs.Contents.{Contents}
use Rattle.fx_plain.specs.History.{◌▷◌, ◌▷▷◌}
use Rattle.fx_plain.specs.declared.event.File.{File}
use Rattle.fx_plain.specs.declared.event.Event.{Event}
use Rattle.fx_plain.specs.declared.node.Node.{Node}
use Rattle.fx_plain.specs.declared.node.Node.TheVariants.{At, Gone}
use Rattle.fx_plain.specs.declared.table.TheConstants.{MOST_SLOTS}
use Rattle.fx_table.specs.Opening.{Opening, size_of, state_at}
use Rattle.fx_table.specs.Pass.{PassView, IsIdle}
use Rattle.fx_table.specs.Settling.{IsSettledSoFar}
use Rattle.fx_chain.specs.Accepted.{IsShortRun}
use Rattle.fx_chain.specs.Completed.{Completed}
use Rattle.fx_chain.specs.Operation.{Asked}
use Rattle.fx_chain.specs.Runs.{runs_of}
use Rattle.fx_chain.specs.Weights.{all_installs}
use Rattle.fx_chain.specs.declared.fault.TheConstants.{MOST_MEMBERS}
use Rattle.fx_ring.specs.Ring.{RingContents, HasClosed, IsAtRest, ring_with}
use Rattle.fx_ring.specs.Submission.{IsOneHistory}
use Rattle.fx_ring.specs.Work.{HasWorked, worker_state}

abbrev pub number_if : ℕ → Option File → Option ℕ
number_if slot None = None
number_if slot (Some f) = Some slot

abbrev pub node_if : ℕ → Option File → Node
node_if slot None = Gone
node_if slot (Some f) = At slot f.identity

-- a table of one thread with the files of a state
abbrev pub table_with_files : State → Contents
table_with_files st = record {
  slots = map (λ slot. number_if slot (st.at slot)) (range_with_len 0 st.size);
  range = st.range;
  nodes = map (λ slot. node_if slot (st.at slot)) (range_with_len 0 st.size);
  holds = replicate st.size 0;
  numbers = st.size;
}

-- a ring with the files to which the pass of an open table has led
abbrev pub ring_led_by : List FileEntry → Opening → PassView → ℕ → ℕ → RingContents
ring_led_by catalogue o v submissions registrations =
    ring_with catalogue (table_with_files (state_at o v.own)) submissions registrations

-- what callers know of a ring whose table is open: the ring, and for what its table has room
pub record OpenRingContents : Type 0 where
  pub ring : RingContents
  -- the number of chains that it can still play, and the most files that each of them may install
  pub chains_left : ℕ
  pub most : ℕ

-- the open table has a chain for each run of the requests, and no run installs more files than a
-- chain may
pub record IsRoomFor (requests : List Asked) (opened : OpenRingContents) : Type 0 where
  pub chains : length (runs_of requests) ≤ opened.chains_left
  pub installs : All (λ run. all_installs run ≤ opened.most) (runs_of requests)

-- each run of the requests uses one chain
pub record HasUsed (old : OpenRingContents) (requests : List Asked) (new : OpenRingContents)
    : Type 0 where
  pub chains : new.chains_left + length (runs_of requests) ≡ old.chains_left
  pub most : new.most ≡ old.most

-- an event, with the chains counted from another one on
abbrev pub chain_less : ℕ → Event → Event
chain_less base e = record e { chain = e.chain - base }

-- the pass, as if it had begun after `base` chains and had drawn and done this since
abbrev pub begun_after : ℕ → List ℕ → List Event → PassView → PassView
begun_after base drawn since v =
    record v { own = map (chain_less base) since; drawn = drawn; chain = v.chain - base }

-- the chains up to this one, the last one first
abbrev pub chains_to : ℕ → List ℕ
chains_to zero = []
chains_to (suc n) = chains_to n ▷ suc n

-- the only pass of an open table, between two submissions
pub record IsAloneAt {P : Type 0} (V : P → PassView) (Fits : P → Type 0) (o : Opening) (pass : P)
    : Type 0 where
  pub alone : o.passes ≡ 1
  pub few_slots : size_of o ≤ MOST_SLOTS
  pub fits : Fits pass
  pub idle : IsIdle (V pass)
  pub more : (V pass).no_chains_left ≡ false
  pub settled : IsSettledSoFar o (V pass)

-- what a ring with an open table keeps: the table's only pass, between two submissions, and an
-- empty list with a place for it; the number of slots; the number of chains that are left, and the
-- most files that each may install
pub record IsKeptOpen {P : Type 0} (V : P → PassView) (Fits : P → Type 0)
    (catalogue : List FileEntry) (o : Opening) (pass : P) (list : Vec P)
    (size left most submissions registrations : ℕ) : Type 0 where
  pub at : IsAloneAt V Fits o pass
  pub place : (list.items ≡ []) × (1 ≤ vec_capacity list)
  pub slots : size ≡ size_of o
  pub chains : (V pass).chain + left ≡ o.chains
  pub installs : most ≤ o.numbers
  -- the pass has a look-up for each member of a chain that is left
  pub looks : left * MOST_MEMBERS ≤ (V pass).looks_left
  pub rest : IsAtRest (ring_led_by catalogue o (V pass) submissions registrations)

-- what a pass alone did for a submission, from one moment at which all was settled to another, is
-- one history
abbrev pub PartIsOneHistory : Type 0
PartIsOneHistory =
    (catalogue : List FileEntry) (o : Opening) (before after : PassView) (drawn : List ℕ)
    (since : List Event) (submissions registrations : ℕ) (requests : List Asked)
    (completions sorted : List Completed) (closes files : CloseListView)
    → size_of o ≤ MOST_SLOTS
    → All IsShortRun (runs_of requests)
    → IsSettledSoFar o before
    → IsSettledSoFar o after
    → All (λ e. e.pass ≡ before.number) before.own
    → after.own ≡ before.own ▷▷ since
    → HasWorked catalogue (size_of o) (submissions + 1) (runs_of requests)
    (worker_state (begun_after before.chain drawn since after) completions closes)
    → ((c : ℕ) → 1 ≤ c → c ≤ length (runs_of requests) → Contains drawn c)
    → IsPermutation completions sorted
    → IsNonDecreasingBy (λ c. c.place.chain * 32 + c.place.member) sorted
    → HasClosed closes.files files
    → IsOneHistory
    (ring_with catalogue (table_with_files (state_at o before.own)) submissions registrations)
    requests
    (record { submission = submissions + 1; completions = sorted; closes = files })
    (ring_with catalogue (table_with_files (state_at o after.own)) (submissions + 1) registrations)
