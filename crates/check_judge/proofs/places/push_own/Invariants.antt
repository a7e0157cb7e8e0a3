use Rattle.check_judge.proofs.{◌≡◌, ◌++◌, map, take, place_at}
use Rattle.check_judge.proofs.places.push_own.Given as goal

abbrev pub invariant-loop-entry : goal.invariant-loop-entry
invariant-loop-entry l = l.places.items ≡ l.fn.places.items ++ map (place_at l.place) (take l.entry-index l.entry-items)
