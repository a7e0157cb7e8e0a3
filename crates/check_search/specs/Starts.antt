-- Where a search begins.
use Rattle.check_search.specs.Words.{List, map, Cell, Strand}
use Rattle.check_search.specs.Machine.{Standing}

-- no claim was made, and the files are at the slots
abbrev pub starting : List Strand → List Cell → Standing
starting strands cells = record { places = map (λ strand. 0) strands; cells = cells }
