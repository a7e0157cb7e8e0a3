use Rattle.bench_tables.proofs.Vacant.{vacant_settled}
use Rattle.bench_tables.proofs.shape.shaped.Goals as goal

pub prepare-requires-clause-settled : goal.prepare-requires-clause-settled
prepare-requires-clause-settled c = vacant_settled _ c.in-Ok.ensures.state
