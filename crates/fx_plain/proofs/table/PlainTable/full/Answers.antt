use Rattle.fx_plain.proofs.Words.{sym, ◌∙◌}
use Rattle.fx_plain.proofs.Settled.{length-files_of}
use Rattle.fx_plain.proofs.table.PlainTable.full.Goals as goal

pub returns : goal.returns
returns c = rw (sym c.self.view_is) (c.self.invariant.0.1.full_slots ∙ sym (length-files_of c.self.invariant.0.0))
