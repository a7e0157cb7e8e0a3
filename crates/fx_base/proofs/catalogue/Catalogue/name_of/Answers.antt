use Rattle.std.proofs.Common.{arith}
use Rattle.std.proofs.lemmas.Grind.{common_steps}
use Rattle.fx_base.proofs.Entries.{read_at}
use Rattle.fx_base.proofs.catalogue.Catalogue.name_of.Goals as goal

pub returns-clause-name : goal.returns-clause-name
returns-clause-name c = rw c.as_str.ensures.value
    (read_at c.self.inside.entries.items c.self.view_is c.self.invariant.0 c.requires c.index.ensures).named

pub returns-clause-some : goal.returns-clause-some
returns-clause-some c = let named = returns-clause-name c in grind (arith, common_steps)

pub returns-clause-short : goal.returns-clause-short
returns-clause-short c = let named = returns-clause-name c in grind (arith, common_steps)
