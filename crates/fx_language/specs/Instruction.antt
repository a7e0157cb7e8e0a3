-- A command of a script without its place in memory.
use Rattle.std.specs.Prelude.{ℕ, ℤ, List, map, Option, option_map}
use Rattle.fx_chain.specs.Operation.{Asked, all_asked}
use Rattle.fx_language.specs.declared.command.Command.{Command}
use Rattle.fx_language.specs.declared.command.Command.TheVariants.{Sparse, Register, Unregister}
use Rattle.fx_language.specs.declared.command.Command.TheVariants.{Range, Update, Submit}

pub data Instruction : Type 0 where
  -- the number of slots
  MakesSparse : ℕ → Instruction
  -- the list, and its tags, if it has any
  RegistersList : List ℤ → Option (List ℕ) → Instruction
  Unregisters : Instruction
  -- the first slot, and the number of slots
  SetsRange : ℕ → ℕ → Instruction
  -- the first slot, the list, and its tags, if it has any
  UpdatesRing : ℕ → List ℤ → Option (List ℕ) → Instruction
  -- the requests since the last submission, or since the start
  SubmitsAll : List Asked → Instruction

abbrev pub instruction_of : Command → Instruction
instruction_of (Sparse n) = MakesSparse n
instruction_of (Register list tags) =
    RegistersList list.items (option_map (λ given. given.items) tags)
instruction_of Unregister = Unregisters
instruction_of (Range off len) = SetsRange off len
instruction_of (Update off list tags) =
    UpdatesRing off list.items (option_map (λ given. given.items) tags)
instruction_of (Submit requests) = SubmitsAll (all_asked requests.items)

abbrev pub instructions_of : List Command → List Instruction
instructions_of commands = map instruction_of commands
