-- Names of catalogue entries.
use Rattle.std.specs.Prelude.{ℕ, Bool, ◌&&◌, ◌||◌, ◌==◌, nat_le, List, length}
use Rattle.std.specs.List.{list_all}
use Rattle.fx_base.specs.declared.name.TheConstants.{LONGEST_NAME}

-- an ASCII letter, a digit, `.`, `_` or `-`
abbrev pub name_byte : ℕ → Bool
name_byte b =
    (nat_le 97 b && nat_le b 122)
    || ((nat_le 65 b && nat_le b 90)
    || ((nat_le 48 b && nat_le b 57) || (b == 46 || (b == 95 || b == 45))))

-- a name: 1 to `LONGEST_NAME` bytes, each of which may occur in a name
abbrev pub is_name : List ℕ → Bool
is_name name =
    nat_le 1 (length name) && (nat_le (length name) LONGEST_NAME && list_all name_byte name)
