use Rattle.fx_table.proofs.Words.{ap, arith, State, rules}
use Rattle.fx_table.proofs.Shells.{all_taken, files_taken, none_behind}
use Rattle.fx_table.proofs.shell.move_out.Goals as goal

pub loop-init : goal.loop-init
loop-init c = grind (arith, files_taken)

pub loop-preserved : goal.loop-preserved
loop-preserved c = grind (arith, none_behind)

pub returns-clause-ok : goal.returns-clause-ok
returns-clause-ok c = record {
  homes = record { count = search rules; files = c.loop.invariant.files };
  shell = all_taken c.in-Ok.ensures.same.files c.in-Ok.ensures.same.settled c.take_files.ensures.empty;
  few = let same = ap (λ (st : State). st.size) c.take_files.ensures.empty in omega (arith, same, c.in-Ok.ensures.few);
  room = c.take_files.ensures.prepared c.in-Ok.ensures.prepared;
}
