-- The meaning of a script's words.
use Rattle.std.specs.Prelude.{ℕ, suc, zero, ◌==◌, nat_le, Bool, ◌&&◌, ◌||◌, not, ℤ, pos, negsuc}
use Rattle.std.specs.Prelude.{List, [], ◌∷◌, length, drop, slice_index, codes, Option, Some, None}
use Rattle.std.specs.Prelude.{option_map, option_and_then, if◌then◌else◌}
use Rattle.std.specs.List.{list_all}
use Rattle.std.specs.Str.{bytes_eq}
use Rattle.std.specs.Str.Parse.{digits_value}
use Rattle.std.specs.Result.{result_ok}
use Rattle.hex.specs.Hex.{decode_of}
use Rattle.fx_language.specs.Lines.{parts}
use Rattle.fx_language.specs.declared.limits.TheConstants.{LARGEST_NUMBER, LARGEST_TAG}

abbrev pub is_digit : ℕ → Bool
is_digit b = nat_le 48 b && nat_le b 57

-- decimal digits, at least one, and no leading zero but in `0` itself
abbrev pub is_decimal : List ℕ → Bool
is_decimal word =
    list_all is_digit word
    && (length word == 1 || (nat_le 2 (length word) && not (slice_index word 0 == 48)))

-- a number, at most the given one
abbrev pub number_up_to : ℕ → List ℕ → Option ℕ
number_up_to largest word =
    if is_decimal word && nat_le (digits_value 10 word) largest then Some (digits_value 10 word)
    else None

-- a number other than a tag
abbrev pub decimal_of : List ℕ → Option ℕ
decimal_of word = number_up_to LARGEST_NUMBER word

-- the negated number, unless it is 0
abbrev pub negative_of : ℕ → Option ℤ
negative_of zero = None
negative_of (suc n) = Some (negsuc n)

-- an entry of a list: a number, or `-` and a number other than 0
abbrev pub entry_of : List ℕ → Option ℤ
entry_of part =
    if slice_index part 0 == 45 then option_and_then negative_of (decimal_of (drop 1 part))
    else option_map pos (decimal_of part)

-- the entries of the parts, if each of them is one
abbrev pub entries_of : List (List ℕ) → Option (List ℤ)
entries_of [] = Some []
entries_of (part ∷ more) =
    option_and_then (λ entry. option_map (λ entries. entry ∷ entries) (entries_of more))
    (entry_of part)

-- a list: entries, at least one, separated by single commas
abbrev pub list_of : List ℕ → Option (List ℤ)
list_of word = entries_of (parts word)

-- the tags of the parts, if each of them is a number up to the largest tag
abbrev pub tags_of_parts : List (List ℕ) → Option (List ℕ)
tags_of_parts [] = Some []
tags_of_parts (part ∷ more) =
    option_and_then (λ tag. option_map (λ tags. tag ∷ tags) (tags_of_parts more))
    (number_up_to LARGEST_TAG part)

-- tags, at least one, separated by single commas
abbrev pub tag_list_of : List ℕ → Option (List ℕ)
tag_list_of word = tags_of_parts (parts word)

-- the bytes of a file: hexadecimal digits, an even number of them and at least two, or `-` for no
-- bytes
abbrev pub hex_of : List ℕ → Option (List ℕ)
hex_of word =
    if bytes_eq word (codes "-") then Some [] else if length word == 0 then None
    else result_ok (decode_of word)
