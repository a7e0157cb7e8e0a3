use Rattle.std.proofs.Common.{sym, ap, ◌∙◌, Some, arith}
use Rattle.fx_base.proofs.Entries.{IsRead, read_at}
use Rattle.fx_base.proofs.catalogue.Catalogue.size_of.Goals.{After-index}
use Rattle.fx_base.proofs.catalogue.Catalogue.size_of.Goals as goal

read : (c : After-index) → IsRead c.args.self.now c.args.entry c.index.result.now
read c = read_at c.self.inside.entries.items c.self.view_is c.self.invariant.0 c.requires c.index.ensures

pub returns-clause-value : goal.returns-clause-value
returns-clause-value c =
    (read (goal.at.returns-clause-value c).After-index).size ∙ ap Some (sym (c.len.ensures ∙ c.index.result.now.bytes.ok.0))

pub returns-clause-small : goal.returns-clause-small
returns-clause-small c = omega (arith, (read (goal.at.returns-clause-small c).After-index).small, c.index.result.now.bytes.ok.0)

pub overflow_cast-result : goal.overflow_cast-result
overflow_cast-result c = omega (arith, (read (goal.at.overflow_cast-result c).After-index).small, c.index.result.now.bytes.ok.0)
