use Rattle.fx_counted.proofs.{refl, sym, ◌∙◌, arith, its_pass, its_idle}
use Rattle.fx_counted.proofs.Chains.{draws_keep}
use Rattle.fx_counted.proofs.table.CountedTable.draw.Goals as goal

pub fetch_add-given-requires : goal.fetch_add-given-requires
fetch_add-given-requires c = let f = c.requires.fits in (
  f.table,
  omega (arith, c.args.self.now.words),
  draws_keep _ _ _ _ c.args.pass.now.seat.me _ (its_pass f) (its_idle f c.requires.idle) (sym f.knows.no_chains_left ∙ c.if-pass.false) refl,
)
