use Rattle.check_outcomes.proofs.{◌≡◌, ◌+◌, ◌<◌, length, take, All}
use Rattle.check_outcomes.proofs.outcomes.closes_of.Given as goal

abbrev pub invariant-loop-file : goal.invariant-loop-file
invariant-loop-file l =
    (l.list.files ≡ take l.file-index l.files) × (l.list.room + l.file-index ≡ length l.files)
    × All (λ file. file.entry < length l.catalogue) l.list.files
