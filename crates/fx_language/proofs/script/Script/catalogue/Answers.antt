use Rattle.fx_language.proofs.FilesOfScripts.{each_script_has_files}
use Rattle.fx_language.proofs.script.Script.catalogue.Goals as goal

pub returns-clause-files : goal.returns-clause-files
returns-clause-files c = each_script_has_files c.self.invariant.0 _ c.self.invariant.1
