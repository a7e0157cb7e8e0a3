use Rattle.fx_table.proofs.Calls.{prepared_again}
use Rattle.fx_table.proofs.shell.make_room.Goals as goal

pub returns-clause-same : goal.returns-clause-same
returns-clause-same c = prepared_again c.args.plain.now c.prepare.new.self c.size-size.result c.in_ok-prepare.ensures.ok
