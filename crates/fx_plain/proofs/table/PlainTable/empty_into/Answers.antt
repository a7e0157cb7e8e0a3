use Rattle.fx_plain.proofs.Words.{sym, ◌∙◌, IsSettled, state_of, vacant, the_view}
use Rattle.fx_plain.proofs.table.PlainTable.empty_into.Goals as goal

pub returns-clause-empty : goal.returns-clause-empty
returns-clause-empty c =
    let settled : IsSettled (state_of (the_view c.self.inside)) = rw (sym c.self.view_is) at c.requires.settled in
    let same = c.close_all.ensures.nodes in rw (sym c.self.view_is, c.clear.ensures.items) (λ i. record (vacant 0) {
      removed = λ n. ((same n).same_removed n ∙ settled.closed n) i;
      holds = λ n. settled.unheld n i;
      fresh = λ n. (same n).same_fresh i;
    })
