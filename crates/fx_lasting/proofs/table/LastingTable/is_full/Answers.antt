use Rattle.fx_lasting.proofs.{ap, ◌∙◌, sym, List, Log, first_log, group_word, its_group}
use Rattle.fx_lasting.proofs.range_lemmas.GroupSteps.{counts_keep}
use Rattle.fx_lasting.proofs.table.LastingTable.is_full.Goals as goal

pub load-word-requires : goal.load-word-requires
load-word-requires c = let t = c.args.self.now in let at = c.requires.at.1 in (
  c.requires.table,
  group_word t c.requires.group c.group_place.ensures,
  counts_keep _ _ _ _ c.args.group c.args.seat.now.me _ at.pass (sym (ap (λ (l : List Log). (first_log l).asked) at.pass.1) ∙ c.requires.asked)
      (its_group t c.requires.group) c.group_place.ensures,
)
