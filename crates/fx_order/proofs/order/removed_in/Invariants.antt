use Rattle.fx_order.proofs.{◌≡◌, ◌++◌, drop, accesses_of, files_removed_in}
use Rattle.fx_order.proofs.order.removed_in.Given as goal

abbrev pub invariant-loop-x : goal.invariant-loop-x
invariant-loop-x l = l.files.items ++ files_removed_in (accesses_of (drop l.x-index l.order)) ≡ files_removed_in (accesses_of l.order)
