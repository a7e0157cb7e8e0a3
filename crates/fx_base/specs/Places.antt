-- The places of a catalogue's names.
use Rattle.std.specs.Prelude.{◌≡◌, ℕ, List, String}
use Rattle.std.specs.List.{position_from}
use Rattle.std.specs.Str.{bytes_eq}
use Rattle.std.specs.HashMap.{HashMap, get_by_text}
use Rattle.fx_base.specs.Catalogue.{FileEntry}

-- the map has the place of each name of the catalogue, and no other name
abbrev pub ArePlaces : {Y S : Type 0} → HashMap (String Y) ℕ S → List FileEntry → Type 0
ArePlaces places catalogue =
    (name : List ℕ)
    → get_by_text places name ≡ position_from (λ file. bytes_eq file.name name) 0 catalogue
