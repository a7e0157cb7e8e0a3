use Rattle.fx_baton.proofs.Words.{sym, ◌∙◌, ap, some-injective, get_elem?}
use Rattle.fx_baton.proofs.table.BatonTable.finish.Goals as goal

pub returns : goal.returns
returns c =
    let final = c.close_with-closed.ensures.values.2 in let r = final.1.0 in
    let there = final.4 0 r.contents (ap (λ l. get_elem? l 0) (c.requires.home final.0 r final.1.1).1) in
    (final.0, r, final.1.1, some-injective r.contents c.take-plain.result (sym there ∙ c.take-plain.ensures.value))
