-- The files of a server's table.
use Rattle.std.specs.Prelude.{◌/◌, ◌%◌, ◌^◌}
use Rattle.fx_server.specs.Words.{ℕ, Identity}
use Rattle.fx_base.specs.declared.mark.Mark.TheVariants.{Registered}

-- the file with this tag, and with this number in its mark (`number_of_mark`)
abbrev pub file_with : (tag number : ℕ) → Identity
file_with tag number =
    record { mark = Registered (number / 2 ^ 32) (number % 2 ^ 32); entry = 0; tag = tag }
