use Rattle.fx_order.proofs.{◌++◌, take, IsPermutation}
use Rattle.fx_order.proofs.order.has_same_files.Given as goal

-- the files that were found, and those that are left
abbrev pub invariant-loop-file : goal.invariant-loop-file
invariant-loop-file l = IsPermutation l.files (take l.file-index l.others ++ l.left.items)
