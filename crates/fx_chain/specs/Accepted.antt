-- The properties of a submission without a fault.
use Rattle.std.specs.Prelude.{◌≡◌, ◌+◌, ◌<◌, ◌≤◌, false, List, length, take, drop, All, None}
use Rattle.fx_table.specs.declared.limits.TheConstants.{CHAIN_NUMBERS}
use Rattle.fx_chain.specs.Operation.{Asked, is_fixed}
use Rattle.fx_chain.specs.Faults.{fault_of, has_bad_flags, is_long_read, is_long_update}
use Rattle.fx_chain.specs.Weights.{all_installs}
use Rattle.fx_chain.specs.declared.chain.Chain.{Chain}
use Rattle.fx_chain.specs.declared.fault.TheConstants.{MOST_MEMBERS}

-- no request has a fault
abbrev pub IsAccepted : List Asked → Type 0
IsAccepted requests = fault_of requests ≡ None

-- a request that no limit of its own refuses
pub record IsWithinLimits (request : Asked) : Type 0 where
  pub flags : has_bad_flags request.operation (is_fixed request.flags) ≡ false
  pub read : is_long_read request.operation ≡ false
  pub update : is_long_update request.operation ≡ false

-- a run that no limit refuses
pub record IsShortRun (run : List Asked) : Type 0 where
  pub not_empty : 0 < length run
  pub members : length run ≤ MOST_MEMBERS
  pub installs : all_installs run ≤ CHAIN_NUMBERS
  pub each : All IsWithinLimits run

-- the members of a chain
abbrev pub members_of : List Asked → Chain → List Asked
members_of requests chain = take chain.len (drop chain.first requests)

-- a chain of the submission, whose members are within the limits
pub record IsChain (requests : List Asked) (chain : Chain) : Type 0 where
  pub inside : chain.first + chain.len ≤ length requests
  pub not_empty : 0 < chain.len
  pub members : chain.len ≤ MOST_MEMBERS
  pub run : IsShortRun (members_of requests chain)
