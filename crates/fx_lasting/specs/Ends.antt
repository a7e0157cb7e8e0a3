-- The short runs of steps that calls are made of: what they return, and the pass after them.
use Rattle.std.specs.Prelude.{◌≡◌, None, ℕ, Bool, true, false, List, [], Option, Some}
use Rattle.fx_lasting.specs.Words.{Identity, ◌▷◌, File, Action, Look, Release, Close, Cold, Work}
use Rattle.fx_lasting.specs.Words.{Emptying, Keeping}
use Rattle.fx_lasting.specs.Effects.{announcing, guarding}
use Rattle.fx_lasting.specs.Passes.{Sat}
use Rattle.fx_lasting.specs.Runs.{Runs}
use Rattle.fx_lasting.specs.declared.view.Glance.TheVariants.{None as Nothing}
use Rattle.fx_lasting.specs.declared.view.Work.TheVariants.{Idle}
use mathlib.Core.Option.{some}
use lib.ListN.{get_elem?}

-- some steps in a row, which leave its look-up and its account with the groups' words as they were
abbrev pub Does : Sat → List Action → Work → ℕ → Sat → Type 0
Does m actions w most m' = Runs m actions w m.0.glance m.0.change most m'

-- a pass that dropped a charge: it is idle, and got the file if that is closed now
abbrev pub LetsChargeGo : Sat → ℕ → Option Identity → Sat → Type 0
LetsChargeGo m most None m' = Does m [] Idle most m'
LetsChargeGo m most (Some file) m' =
    (f : File) × (file ≡ f.identity) × Does m ([] ▷ Close f) Idle most m'

-- a pass that released the file: it is idle, and got the file if that is closed now
abbrev pub LetsFileGo : Sat → File → ℕ → Option Identity → Sat → Type 0
LetsFileGo m f most None m' = Does m ([] ▷ Release f) Idle most m'
LetsFileGo m f most (Some file) m' =
    (file ≡ f.identity) × Does m ([] ▷ Release f ▷ Close f) Idle most m'

-- a pass that announced the node of a hot slot and looked again: it holds the file, whose entry it
-- has, or it has to withdraw
abbrev pub Guards : ℕ → ℕ → Sat → Option ℕ → Sat → Type 0
Guards slot node m (Some entry) m' = (f : File) × (entry ≡ f.identity.entry)
    × Runs m ([] ▷ Look slot (Some f)) (guarding f (announcing node m.0.work)) Nothing m.0.change 2
    m'
Guards slot node m None m' = Runs m [] (announcing node m.0.work) (Cold slot) m.0.change 2 m'

-- a pass with the place of a node, whose file is closed: it keeps the node, which is at the entry
-- of its stock, or has the place still
abbrev pub Parked : (node : ℕ) → List ℕ → (entry : ℕ) → Sat → Bool → Sat → Type 0
Parked node stock entry m true m' = (lost : ℕ) × Does m [] (Keeping node lost) 1 m' × (m'.1 ≡ [])
    × (get_elem? stock entry ≡ some node)
Parked node stock entry m false m' = Does m [] (Emptying node) 1 m' × (m'.1 ≡ m.1)

-- a pass that took the closed file of a node out: it keeps the node, or is idle
abbrev pub TakenOut : (node : ℕ) → List ℕ → (entry : ℕ) → Sat → Bool → Sat → Type 0
TakenOut node stock entry m true m' = (lost : ℕ) × Does m [] (Keeping node lost) 2 m'
    × (m'.1 ≡ []) × (get_elem? stock entry ≡ some node)
TakenOut node stock entry m false m' = Does m [] Idle 2 m' × (m'.1 ≡ [])
