use Rattle.fx_lasting.proofs.node_lemmas.FirstStocks.{stock_ends}
use Rattle.fx_lasting.proofs.life.open.first_stock.Goals as goal

pub numbers_from-requires-2 : goal.numbers_from-requires-2
numbers_from-requires-2 c = stock_ends c.args.size c.args.passes c.args.installing c.args.pass c.stock_start.result c.stock_start.ensures
    c.requires.size c.requires.passes.0 c.if-installing-pass.false c.requires.installing c.requires.passes.2
