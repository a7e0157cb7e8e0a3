use Rattle.fx_counted.proofs.{refl, ap, ◌∙◌, arith, end_amount_of, ends_by}
use Rattle.std.proofs.lemmas.Int.{to_z-of_z}
use mir.Syntax.{w32}
use Rattle.fx_counted.proofs.table.CountedTable.end.Goals as goal

pub fetch_sub-requires : goal.fetch_sub-requires
fetch_sub-requires c = (
  c.requires.table,
  omega (arith, c.args.self.now.words),
  ends_by _ _ c.requires.seated.pass (rw c.if-began.true at c.requires.change)
      (c.end_amount.ensures ∙ ap end_amount_of (to_z-of_z w32 c.args.delta c.ranges.delta)) refl,
)
