use Rattle.fx_lasting.proofs.{opening_of, view_of, taken_so}
use Rattle.fx_lasting.proofs.table.LastingTable.take.Goals as goal

pub returns-clause-taken : goal.returns-clause-taken
returns-clause-taken c = taken_so (opening_of c.args.self.now.table.shared.key) (view_of c.args.pass.now) (view_of c.remove.new.pass) c.args.slot
    c.remove.result c.ok_or.result _ c.ok_or.ensures.value c.remove.ensures.removed
