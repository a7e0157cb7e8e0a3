-- A request without its place in memory.
use Rattle.std.specs.Prelude.{ℕ, ℤ, Bool, ◌==◌, ◌||◌, List, map, string_bytes}
use Rattle.std.specs.Int.RustNames.{bit_and, bit_or}
use Rattle.fx_chain.specs.declared.flags.SqeFlags.{SqeFlags}
use Rattle.fx_chain.specs.declared.request.Op.{Op}
use Rattle.fx_chain.specs.declared.request.Op.TheVariants.{Open, Read, Close, Update}
use Rattle.fx_chain.specs.declared.request.Request.{Request}
use Rattle.fx_chain.specs.declared.request.Target.{Target}

pub data Operation : Type 0 where
  -- the name, and the target of the file
  Opens : List ℕ → Target → Operation
  -- the slot, the first byte and the number of bytes
  Reads : ℕ → ℕ → ℕ → Operation
  -- the slot
  Closes : ℕ → Operation
  -- the first slot, and the list
  Updates : ℕ → List ℤ → Operation

abbrev pub operation_of : Op → Operation
operation_of (Open name target) = Opens (string_bytes name) target
operation_of (Read slot off len) = Reads slot off len
operation_of (Close slot) = Closes slot
operation_of (Update off list) = Updates off list.items

-- the flags, each with the value of its bit
abbrev pub no_flags : SqeFlags
no_flags = record { 0 = 0 }

abbrev pub fixed_file : SqeFlags
fixed_file = record { 0 = 1 }

abbrev pub io_link : SqeFlags
io_link = record { 0 = 4 }

abbrev pub io_hardlink : SqeFlags
io_hardlink = record { 0 = 8 }

abbrev pub both_flags : SqeFlags → SqeFlags → SqeFlags
both_flags one other = record { 0 = bit_or one.0 other.0 }

-- the request names its file by a slot
abbrev pub is_fixed : SqeFlags → Bool
is_fixed flags = bit_and flags.0 1 == 1

-- the next request waits for this one, and starts whatever this one's result
abbrev pub is_hard_link : SqeFlags → Bool
is_hard_link flags = bit_and flags.0 8 == 8

-- the next request waits for this one
abbrev pub is_link : SqeFlags → Bool
is_link flags = bit_and flags.0 4 == 4 || is_hard_link flags

-- a request: its operation and its flags
pub record Asked : Type 0 where
  pub operation : Operation
  pub flags : SqeFlags

abbrev pub asked_of : Request → Asked
asked_of request = record { operation = operation_of request.op; flags = request.flags }

abbrev pub all_asked : List Request → List Asked
all_asked requests = map asked_of requests
