use Rattle.std.proofs.Common.{sym, ap, ◌∙◌}
use Rattle.fx_table.specs.Opening.{Opening}
use Rattle.bench_tables.proofs.refusals.tables.open.Goals as goal

pub close-requires-clause-all : goal.close-requires-clause-all
close-requires-clause-all g c =
    c.in-Ok.ensures.count ∙ sym (ap (λ (o : Opening). o.passes) c.in-Ok.ensures.opened)
