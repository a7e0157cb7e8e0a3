use Rattle.check_search.proofs.Words.{arith, get_or-map, length-map, same_lists, sym, ◌∙◌, cell_with, with_cell}
use Rattle.check_search.proofs.cell.write.Goals as goal

pub returns : goal.returns
returns c =
    let w = c.loop-i.invariant in
    let long = w.long in
    let old = c.args.cells.now in
    let with = cell_with c.args.slot c.args.file in
    same_lists c.loop-i.cells (with_cell old c.args.slot c.args.file) (long ∙ sym (length-map old with))
    (λ k d lt. w.before k d (omega arith) (omega arith) ∙ sym (get_or-map with old k d d (omega arith)))
