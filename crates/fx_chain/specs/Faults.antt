-- The reasons why a submission is refused (the limits are this project's own).
use Rattle.std.specs.Prelude.{◌≡◌, ℕ, ◌+◌, ◌==◌, nat_lt, Bool, false, not, ◌&&◌, List, [], ◌∷◌}
use Rattle.std.specs.Prelude.{◌++◌, length, Option, Some, None, if◌then◌else◌}
use Rattle.fx_table.specs.declared.limits.TheConstants.{MAX_CHAINS, CHAIN_NUMBERS}
use Rattle.fx_chain.specs.Intents.{installs_of}
use Rattle.fx_chain.specs.Operation.{Operation, Reads, Updates, Asked, is_fixed}
use Rattle.fx_chain.specs.Runs.{runs_of, open_run}
use Rattle.fx_chain.specs.Weights.{all_installs}
use Rattle.fx_chain.specs.declared.fault.CutKind.{CutKind}
use Rattle.fx_chain.specs.declared.fault.CutKind.TheVariants.{BadFlags, LongRead, LongUpdate}
use Rattle.fx_chain.specs.declared.fault.CutKind.TheVariants.{ChainTooLong, TooManyFiles}
use Rattle.fx_chain.specs.declared.fault.CutKind.TheVariants.{TooManyChains}
use Rattle.fx_chain.specs.declared.fault.CutFault.{CutFault}
use Rattle.fx_chain.specs.declared.fault.TheConstants.{MOST_MEMBERS}
use Rattle.fx_chain.specs.declared.request.TheConstants.{LONGEST_READ, LONGEST_UPDATE}

-- the test for wrong flags: a read names its file by a slot, and no other request does
abbrev pub has_bad_flags : Operation → Bool → Bool
has_bad_flags (Reads slot off len) fixed = not fixed
has_bad_flags _ fixed = fixed

abbrev pub is_long_read : Operation → Bool
is_long_read (Reads slot off len) = nat_lt LONGEST_READ len
is_long_read _ = false

abbrev pub is_long_update : Operation → Bool
is_long_update (Updates off list) = nat_lt LONGEST_UPDATE (length list)
is_long_update _ = false

-- the first fault of a request: `runs` is the number of runs that the earlier requests make,
-- `members` the number of earlier members of its own run, and `installs` the number of files that
-- those members install
abbrev pub fault_after : ℕ → ℕ → ℕ → Asked → Option CutKind
fault_after runs members installs request =
    if has_bad_flags request.operation (is_fixed request.flags) then Some BadFlags
    else if is_long_read request.operation then Some LongRead
    else if is_long_update request.operation then Some LongUpdate
    else if members == MOST_MEMBERS then Some ChainTooLong
    else if nat_lt CHAIN_NUMBERS (installs + installs_of request.operation) then Some TooManyFiles
    else if members == 0 && runs == MAX_CHAINS then Some TooManyChains
    else None

-- the fault of a request after those before it
abbrev pub fault_of_next : List Asked → Asked → Option CutKind
fault_of_next front request =
    fault_after (length (runs_of front)) (length (open_run front))
    (all_installs (open_run front)) request

-- the fault at this place, or else the later one
abbrev pub or_later : ℕ → Option CutKind → Option CutFault → Option CutFault
or_later at None later = later
or_later at (Some kind) later = Some (record { at = at; kind = kind })

-- the first request with a fault, among those after `front`
abbrev pub first_fault : List Asked → List Asked → Option CutFault
first_fault front [] = None
first_fault front (request ∷ behind) =
    or_later (length front + 1) (fault_of_next front request)
    (first_fault (front ++ request ∷ []) behind)

-- the first request with a fault, with its number from 1
abbrev pub fault_of : List Asked → Option CutFault
fault_of requests = first_fault [] requests

-- no request has a fault after those before it
abbrev pub HasNoFault : List Asked → Type 0
HasNoFault requests =
    (front : List Asked) (request : Asked) (behind : List Asked)
    → requests ≡ front ++ request ∷ behind
    → fault_of_next front request ≡ None

-- a request with a fault, before which no request has one
pub record IsFirstFault (requests : List Asked) (fault : CutFault) : Type 0 where
  pub front : List Asked
  pub request : Asked
  pub behind : List Asked
  pub parts : requests ≡ front ++ request ∷ behind
  pub place : fault.at ≡ length front + 1
  pub kind : fault_of_next front request ≡ Some fault.kind
  pub none_in_front : HasNoFault front
