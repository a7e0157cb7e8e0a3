-- The states that packed ones stand for.
use Rattle.std.specs.Prelude.{◌∷◌}
use Rattle.check_search.specs.Words.{ℕ, suc, List, [], map, take, drop, slice_get, slice_index}
use Rattle.check_search.specs.Words.{Option, option_and_then, Cell, Resident}
use Rattle.std.specs.Global.{Vec}
use Rattle.check_search.specs.Machine.{Standing}
use Rattle.check_search.specs.declared.node.Packing.{Packing}

-- the file of this number among those of a slot
abbrev pub packed_file : List (Vec (Option Resident)) → ℕ → ℕ → Option Resident
packed_file files cell number =
    option_and_then (λ own. option_and_then (λ file. file) (slice_get own.items number))
    (slice_get files cell)

-- the slots, of which the first one is at this place, with the files of these numbers
abbrev pub numbered_cells : List (Vec (Option Resident)) → List ℕ → ℕ → List Cell → List Cell
numbered_cells files numbers i [] = []
numbered_cells files numbers i (cell ∷ cells) =
    record cell { file = packed_file files i (slice_index numbers i) }
    ∷ numbered_cells files numbers (suc i) cells

-- places of chains first, and then the numbers of the files
abbrev pub unpacked : Packing → List ℕ → Standing
unpacked packing row = record {
  places = take packing.chains row;
  cells = numbered_cells packing.files.items (drop packing.chains row) 0 packing.cells.items;
}

abbrev pub all_unpacked : Packing → List (Vec ℕ) → List Standing
all_unpacked packing rows = map (λ row. unpacked packing row.items) rows
