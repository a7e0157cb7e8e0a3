-- A chain's answers don't depend on the numbers of the files.
use Rattle.std.specs.Prelude.{ℕ, ◌≤◌, List, length, map}
use Rattle.fx_base.specs.Catalogue.{FileEntry}
use Rattle.fx_plain.specs.Reopening.{Renaming, renamed, numbers_given}
use Rattle.fx_plain.specs.declared.event.Action.{Action}
use Rattle.fx_chain.specs.Completed.{Completed}
use Rattle.fx_chain.specs.Explains.{Explains}
use Rattle.fx_chain.specs.Operation.{Asked}
use Rattle.fx_chain.specs.Weights.{all_installs}
use Rattle.fx_chain.specs.declared.completion.Place.{Place}

-- the same steps with other numbers explain the same answers
abbrev pub ExplainsByAnyNumbers : Type 0
ExplainsByAnyNumbers =
    (r : Renaming) (catalogue : List FileEntry) (size : ℕ) (place : Place) (requests : List Asked)
    (events : List Action) (completions : List Completed)
    → Explains catalogue size place requests events completions
    → Explains catalogue size place requests (map (renamed r) events) completions

-- the steps use no more file numbers than the requests ask for
abbrev pub NumbersFilesAsAsked : Type 0
NumbersFilesAsAsked =
    (catalogue : List FileEntry) (size : ℕ) (place : Place) (requests : List Asked)
    (events : List Action) (completions : List Completed)
    → Explains catalogue size place requests events completions
    → length (numbers_given events) ≤ all_installs requests
