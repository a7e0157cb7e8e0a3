use Rattle.fx_judge.proofs.ReadFiles.{with_file}
use Rattle.fx_judge.proofs.files.add.Goals as goal

pub returns-in-Ok-clause-catalogue : goal.returns-in-Ok-clause-catalogue
returns-in-Ok-clause-catalogue c = λ good. rw c.in-Ok.ensures.ok (with_file _ _ _ c.in-Ok.field-0 c.in-Ok.ensures.fault good)
