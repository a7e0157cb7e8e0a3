-- Bytes in hexadecimal.
use Rattle.std.proofs.Common.{◌≡◌, ℕ, ◌/◌, ◌%◌, List, [], ◌∷◌, ◌++◌, slice_index, refl, ap, arith, Result, Ok, Err}
use Rattle.std.proofs.lemmas.Str.{IsUtf8-from_ascii}
use Rattle.std.proofs.lemmas.Str.Ascii.{IsAscii-from_reads}
use Rattle.std.proofs.lemmas.List.Sums.{AllPass-from_list_all}
use borrow.Author.Tests.{ltb-true}
use Rattle.std.specs.Char.{is_ascii}
use Rattle.std.specs.Result.{IsOk, OnOk}
use Rattle.std.specs.Str.{IsAscii, IsUtf8}
use Rattle.hex.specs.Hex.{encode_lower, encode_with, lower_digits}
use Rattle.hex.proofs.HexLemmas.{IsAscii-encode_with}

-- bytes followed by bytes
pub encode_lower-append : (a b : List ℕ) → encode_lower (a ++ b) ≡ encode_lower a ++ encode_lower b
unfolding encode_with
encode_lower-append [] b = refl
encode_lower-append (x ∷ a) b =
    ap (λ (digits : List ℕ). slice_index lower_digits (x / 16) ∷ slice_index lower_digits (x % 16) ∷ digits) (encode_lower-append a b)

lower_ascii : IsAscii lower_digits
lower_ascii = IsAscii-from_reads lower_digits 16 (omega arith)
    (λ k l. ltb-true (slice_index lower_digits k) 128 (AllPass-from_list_all is_ascii lower_digits refl k 0 l))

-- the digits are a text
pub encode_lower-is_text : (bytes : List ℕ) → IsUtf8 (encode_lower bytes)
encode_lower-is_text bytes = IsUtf8-from_ascii (encode_lower bytes) (IsAscii-encode_with lower_digits bytes lower_ascii)

pub nothing_left : encode_lower [] ≡ []
unfolding encode_with
nothing_left = refl

-- a property that holds if there is a value holds for one that is there
pub on_ok : {T E P : Type 0} (r : Result T E) → IsOk r → OnOk r P → P
on_ok (Ok x) is holds = holds
on_ok (Err e) is holds = cc
