use Rattle.check_certificate.proofs.Words.{◌≡◌, map, take}
use Rattle.check_certificate.proofs.contents.contents_of.Given as goal

abbrev pub invariant-loop-entry : goal.invariant-loop-entry
invariant-loop-entry l = map (λ own. own.items) l.contents.items ≡ map (λ file. file.bytes) (take l.entry l.catalogue)
