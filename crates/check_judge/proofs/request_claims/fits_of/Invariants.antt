use Rattle.check_judge.proofs.{◌≡◌, true, slice_index_or, Some, Closed, completed_of, answer, FoundAt}
use Rattle.check_judge.proofs.request_claims.fits_of.Given as goal

-- each entry that was left out has another answer
abbrev pub invariant-loop-entry : goal.invariant-loop-entry
invariant-loop-entry l = (file : Closed)
    → completed_of l.it.c.now ≡ answer l.it (Some (FoundAt (Some file)))
    → slice_index_or l.fits file.entry true ≡ true
