-- Runs as chains: the number of requests before each, and its length.
use Rattle.std.specs.Prelude.{ℕ, ◌+◌, List, [], ◌∷◌, length}
use Rattle.fx_chain.specs.Operation.{Asked}
use Rattle.fx_chain.specs.declared.chain.Chain.{Chain}

-- for each run, the number of requests before it and its length
abbrev pub chains_from : ℕ → List (List Asked) → List Chain
chains_from before [] = []
chains_from before (run ∷ runs) =
    record { first = before; len = length run } ∷ chains_from (before + length run) runs

abbrev pub chains_of : List (List Asked) → List Chain
chains_of runs = chains_from 0 runs
