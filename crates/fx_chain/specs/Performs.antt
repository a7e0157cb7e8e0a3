-- The actions of a player of requests: a pass of a shared table, and a list of closes.
use Rattle.std.specs.Prelude.{◌≡◌, ℕ, ◌+◌, ◌≤◌, Bool, List, ◌++◌, length}
use Rattle.fx_base.specs.Catalogue.{FileEntry}
use Rattle.fx_base.specs.CloseListView.{CloseListView}
use Rattle.fx_plain.specs.declared.event.Action.{Action}
use Rattle.fx_plain.specs.History.{closes_in}
use Rattle.fx_table.specs.Opening.{Opening, size_of}
use Rattle.fx_table.specs.Pass.{PassView}
use Rattle.fx_table.specs.Calls.{Use, Adds}
use Rattle.fx_table.specs.declared.values.Doing.{Doing}
use Rattle.fx_table.specs.declared.values.Doing.TheVariants.{Idle}
use Rattle.fx_chain.specs.Answers.{Answers}
use Rattle.fx_chain.specs.Completed.{Completed}
use Rattle.fx_chain.specs.Explains.{Explains, AnswersAfter, first_member}
use Rattle.fx_chain.specs.Intents.{installs_of, weight_of}
use Rattle.fx_chain.specs.Operation.{Asked}
use Rattle.fx_chain.specs.Weights.{all_installs, all_weights}
use Rattle.fx_chain.specs.declared.completion.Place.{Place}

-- the pass and the list of a player, at a moment
pub record PlayerView : Type 0 where
  pub pass : PassView
  pub closes : CloseListView

abbrev pub player : PassView → CloseListView → PlayerView
player pass closes = record { pass = pass; closes = closes }

-- The pass took these actions, whatever others did between, and does `doing` now. The files of
-- their Close events were appended to the list in order, each using one place of its room
pub record Acts (o : Opening) (p : PlayerView) (actions : List Action) (doing : Doing) (used : Use)
    (q : PlayerView) : Type 0 where
  pub adds : Adds o p.pass actions doing used q.pass
  pub files : q.closes.files ≡ p.closes.files ++ closes_in actions
  pub room : q.closes.room + length (closes_in actions) ≡ p.closes.room

-- The player took actions with this property, and its pass is idle now. They used at most these
-- look-ups and numbers, and closed at most this number of files
pub record ActsSo (o : Opening) (p : PlayerView) (looks numbers files : ℕ)
    (Says : List Action → Type 0) (q : PlayerView) : Type 0 where
  pub actions : List Action
  pub used : Use
  pub acts : Acts o p actions Idle used q
  pub says : Says actions
  pub few_looks : used.looks ≤ looks
  pub few_numbers : used.numbers ≤ numbers
  pub few_files : length (closes_in actions) ≤ files

-- the request at its place was performed: it may get this answer by these actions
abbrev pub Performs : Opening → List FileEntry → Place → Asked → PlayerView → Completed → PlayerView
    → Type 0
Performs o catalogue place request p c q =
    ActsSo o p 1 (installs_of request.operation) (weight_of request.operation)
    (λ actions. Answers catalogue (size_of o) place request.operation actions c) q

-- the next member of a chain got this answer, after one that severed the chain or not
abbrev pub AnswersNext : Opening → List FileEntry → Place → Bool → Asked → PlayerView → Completed
    → PlayerView → Type 0
AnswersNext o catalogue place severed request p c q =
    ActsSo o p 1 (installs_of request.operation) (weight_of request.operation)
    (λ actions. AnswersAfter catalogue (size_of o) place severed request actions c) q

-- the members from this place on were played: the actions explain their completions
abbrev pub PlaysMembers : Opening → List FileEntry → Place → List Asked → PlayerView
    → List Completed → PlayerView → Type 0
PlaysMembers o catalogue place requests p completions q =
    ActsSo o p (length requests) (all_installs requests) (all_weights requests)
    (λ actions. Explains catalogue (size_of o) place requests actions completions) q

-- the chain was played, and its completions were appended to a list
abbrev pub PlaysChain : Opening → List FileEntry → ℕ → ℕ → List Asked → PlayerView → List Completed
    → PlayerView → List Completed → Type 0
PlaysChain o catalogue submission chain requests p before q now =
    (completions : List Completed) × (now ≡ before ++ completions)
    × PlaysMembers o catalogue (first_member submission chain) requests p completions q
