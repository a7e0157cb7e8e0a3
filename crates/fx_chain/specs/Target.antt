-- The target of an open, by the number that io_uring_prep_openat(3) takes ("file_index").
use Rattle.std.specs.Prelude.{ℕ, ◌-◌, ◌==◌, Option, Some, None, if◌then◌else◌}
use Rattle.fx_chain.specs.declared.request.Target.{Target}
use Rattle.fx_chain.specs.declared.request.Target.TheVariants.{Slot, Any}

-- 0 asks for no slot, 4,294,967,295 for any free one, and every other number for the slot numbered
-- one less
abbrev pub target_of : ℕ → Option Target
target_of file_index =
    if file_index == 0 then None
    else if file_index == 4294967295 then Some Any
    else Some (Slot (file_index - 1))
