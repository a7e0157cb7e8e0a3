-- The files of a catalogue: their names are text, and one more file leaves a catalogue.
use Rattle.fx_judge.proofs.{◌≡◌, ℕ, ◌<◌, true, List, [], ◌∷◌, ◌++◌, length, arith, nat_le, Option, Some, None, FileEntry, Ok, Err, IfSome, refl}
use Rattle.fx_judge.proofs.{IsAscii, IsUtf8, list_all, IsCatalogue}
use Rattle.std.proofs.lemmas.Bool.{and_parts}
use Rattle.std.proofs.lemmas.Str.{IsUtf8-from_ascii}
use Rattle.std.proofs.lemmas.Str.Ascii.{IsAscii-nil, IsAscii-cons}
use Rattle.fx_base.proofs.Entries.{no_fault, one_more}
use Rattle.fx_base.specs.AddFault.{add_fault_of}
use Rattle.fx_base.specs.Name.{is_name, name_byte}
use Rattle.fx_base.specs.declared.catalogue.AddFault.{AddFault}

-- a byte of a name is one of ASCII
small_byte : (b : ℕ) → name_byte b ≡ true → b < 128
small_byte b is = grind arith

name_is_ascii : (name : List ℕ) → list_all name_byte name ≡ true → IsAscii name
name_is_ascii [] all = IsAscii-nil
name_is_ascii (b ∷ bs) all =
    let parts = and_parts (name_byte b) (list_all name_byte bs) all in
    IsAscii-cons b bs (small_byte b parts.0) (name_is_ascii bs parts.1)

pub name_is_text : (name : List ℕ) → is_name name ≡ true → IsUtf8 name
name_is_text name is =
    let parts = and_parts (nat_le 1 (length name)) _ is in
    IsUtf8-from_ascii name (name_is_ascii name (and_parts (nat_le (length name) 32) _ parts.1).1)

-- a catalogue with a file that is added without a fault is a catalogue
module _ (catalogue : List FileEntry) (name bytes : List ℕ) {A : Type 0} (x : A) where
  taken : (found : Option AddFault) → add_fault_of catalogue name bytes ≡ found → IfSome found (λ fault. Ok x ≡ Err fault)
      → add_fault_of catalogue name bytes ≡ None
  taken None is other = is
  taken (Some fault) is other = cc

  pub with_file : IfSome (add_fault_of catalogue name bytes) (λ fault. Ok x ≡ Err fault) → IsCatalogue catalogue
      → IsCatalogue (catalogue ++ record { name = name; bytes = bytes } ∷ [])
  with_file other good =
      let it = no_fault catalogue name bytes (taken (add_fault_of catalogue name bytes) refl other) in
      one_more catalogue (record { name = name; bytes = bytes }) good it.few it.small it.named it.new
