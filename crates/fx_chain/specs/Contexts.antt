-- A player of requests as contracts see it. `V` is the view that its table has of a pass, and
-- `Fits` says that a pass is one of that table's.
use Rattle.std.specs.Prelude.{◌≡◌, ℕ, ◌≤◌, List}
use Rattle.fx_plain.specs.declared.event.Action.{Action}
use Rattle.fx_table.specs.Opening.{Opening}
use Rattle.fx_table.specs.Pass.{PassView, IsIdle}
use Rattle.fx_chain.specs.Performs.{PlayerView, ActsSo, player}
use Rattle.fx_chain.specs.declared.context.Player.{Player}

-- the pass and the list of a player, at a moment
abbrev pub player_view : {P : Type 0} → (P → PassView) → Player P → PlayerView
player_view V p = player (V p.pass.now) p.closes.now

-- its pass is one of the table's and idle, and has these look-ups and numbers left, and its list
-- room for this number of files
abbrev pub IsReady : {P : Type 0} → (P → PassView) → (P → Type 0) → Player P → ℕ → ℕ → ℕ → Type 0
IsReady V Fits p looks numbers files =
    Fits p.pass.now × IsIdle (V p.pass.now) × (looks ≤ (V p.pass.now).looks_left)
    × (numbers ≤ (V p.pass.now).numbers_left) × (files ≤ p.closes.now.room)

-- it has the same pass and the same list as before, and the pass is one of the table's
abbrev pub IsSamePlayer : {P : Type 0} → (P → Type 0) → Player P → Player P → Type 0
IsSamePlayer Fits p q =
    (q.pass.ghost_name ≡ p.pass.ghost_name) × (q.closes.ghost_name ≡ p.closes.ghost_name)
    × Fits q.pass.now

-- it took actions with this property, with at most these look-ups, numbers and closes
abbrev pub PlayerActs : {P : Type 0} → Opening → (P → PassView) → Player P → ℕ → ℕ → ℕ
    → (List Action → Type 0) → Player P → Type 0
PlayerActs o V p looks numbers files Says q =
    ActsSo o (player_view V p) looks numbers files Says (player_view V q)
