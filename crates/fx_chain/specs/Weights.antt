-- The needs of a list of requests: numbers for the files that it installs, and room for those that
-- it may close.
use Rattle.std.specs.Prelude.{ℕ, List, sum_by}
pub use Rattle.fx_chain.specs.Intents.{list_installs, installs_of, weight_of}
use Rattle.fx_chain.specs.Operation.{Asked}

-- the number of files that a list of requests installs
abbrev pub all_installs : List Asked → ℕ
all_installs requests = sum_by (λ request. installs_of request.operation) requests

-- the greatest number of files that a list of requests may close
abbrev pub all_weights : List Asked → ℕ
all_weights requests = sum_by (λ request. weight_of request.operation) requests
