-- The files that can be opened (a kernel opens files of a file system).
use Rattle.std.specs.Prelude.{◌≡◌, ℕ, ◌≤◌, List, [], length, take, drop, slice_get, Option, Some}
use Rattle.std.specs.Prelude.{None, All, IsTrue, option_map}
use Rattle.fx_base.specs.Name.{is_name}
use Rattle.fx_base.specs.declared.catalogue.TheConstants.{MOST_ENTRIES, LONGEST_ENTRY}

-- a file that can be opened
pub record FileEntry : Type 0 where
  pub name : List ℕ
  pub bytes : List ℕ

-- the name of an entry, or `None` if there is no such entry
abbrev pub name_at : List FileEntry → ℕ → Option (List ℕ)
name_at catalogue entry = option_map (λ file. file.name) (slice_get catalogue entry)

-- the number of bytes of an entry, or `None` if there is no such entry
abbrev pub size_at : List FileEntry → ℕ → Option ℕ
size_at catalogue entry = option_map (λ file. length file.bytes) (slice_get catalogue entry)

-- the invariant of a catalogue: few entries, none too long, each with a name, and no two with the
-- same name
pub record IsCatalogue (catalogue : List FileEntry) : Type 0 where
  pub few : length catalogue ≤ MOST_ENTRIES
  pub small : All (λ file. length file.bytes ≤ LONGEST_ENTRY) catalogue
  pub named : All (λ file. IsTrue (is_name file.name)) catalogue
  pub distinct : (i j : ℕ) (name : List ℕ) → name_at catalogue i ≡ Some name
      → name_at catalogue j ≡ Some name → i ≡ j

-- the bytes of a file from `off` on, at most `len` of them; none if there is no file (read(2))
abbrev pub part_of : Option FileEntry → ℕ → ℕ → List ℕ
part_of None off len = []
part_of (Some file) off len = take len (drop off file.bytes)

-- the bytes that a read of an entry returns
abbrev pub bytes_at : List FileEntry → ℕ → ℕ → ℕ → List ℕ
bytes_at catalogue entry off len = part_of (slice_get catalogue entry) off len
