use Rattle.fx_lasting.proofs.{◌∙◌, sym, uncounted, range_at_start, group_word, its_group, was_in}
use Rattle.fx_lasting.proofs.range_lemmas.GroupSteps.{raises_keep}
use Rattle.fx_lasting.proofs.table.LastingTable.raise.Goals as goal

pub group_of-requires : goal.group_of-requires
group_of-requires c = was_in (range_at_start c.args.self.now.table.shared.key) c.args.slot (sym c.requires.inside ∙ c.if-inside.true)

pub fetch_add-requires : goal.fetch_add-requires
fetch_add-requires c = let t = c.args.self.now in (
  c.requires.table,
  group_word t c.group_of.ensures.few c.group_place.ensures,
  raises_keep _ _ _ _ c.group_of.result c.args.seat.now.me _ c.requires.at.1.pass
      (c.requires.change ∙ λ i. uncounted (c.if-inside.true i) (c.if-was_empty.true i) (sym c.group_of.ensures.group i))
      (its_group t c.group_of.ensures.few) c.group_place.ensures,
)
