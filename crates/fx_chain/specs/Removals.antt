-- Files that a request removed or released.
use Rattle.std.specs.Prelude.{◌≡◌, [], Option, Some, None}
use Rattle.fx_plain.specs.declared.event.File.{File}
use Rattle.fx_plain.specs.declared.event.Action.TheVariants.{Release}
use Rattle.fx_plain.specs.History.{◌▷◌}
use Rattle.fx_table.specs.Opening.{Opening}
use Rattle.fx_table.specs.Pass.{PassView, IsIdle, IsRetiredOf}
use Rattle.fx_table.specs.declared.values.Doing.TheVariants.{Holding, Retiring}
use Rattle.fx_table.specs.declared.values.Hold.{Hold}
use Rattle.fx_table.specs.declared.values.Retired.{Retired}
use Rattle.fx_chain.specs.Answers.{MayClose}
use Rattle.fx_chain.specs.Performs.{PlayerView, ActsSo}

-- a call removed this file, or none
abbrev pub IsRemovedBy : PassView → Option Retired → Type 0
IsRemovedBy v None = IsIdle v
IsRemovedBy v (Some retired) = IsRetiredOf v retired

-- the file that the pass removed, if any, was retired, and closed or left to its last holder
abbrev pub IsRetirement : Opening → PlayerView → Option Retired → PlayerView → Type 0
IsRetirement o p None q = ActsSo o p 0 0 1 (MayClose [] None) q
IsRetirement o p (Some retired) q =
    (f : File) × (p.pass.doing ≡ Retiring f retired)
    × ActsSo o p 0 0 1 (MayClose [] (Some f)) q

-- the file that the pass held was released, and closed if it was retired and this was its last hold
abbrev pub IsRelease : Opening → PlayerView → PlayerView → Type 0
IsRelease o p q =
    (f : File) × (hold : Hold) × (p.pass.doing ≡ Holding f hold)
    × ActsSo o p 0 0 1 (MayClose ([] ▷ Release f) (Some f)) q
