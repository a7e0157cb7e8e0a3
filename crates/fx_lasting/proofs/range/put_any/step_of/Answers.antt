use Rattle.fx_lasting.proofs.{arith, ◌%◌}
use Rattle.fx_lasting.proofs.range_lemmas.Walks.{all_lead}
use Rattle.fx_lasting.proofs.range.put_any.step_of.Goals as goal

pub returns-clause-all : goal.returns-clause-all
returns-clause-all c = all_lead (c.args.number % 8) c.args.groups (omega arith) c.requires.some c.requires.few
