use Rattle.fx_language.proofs.FilesOfScripts.{each_script_has_files}
use Rattle.fx_language.proofs.laws.each_script_has_files.Goals as goal

pub returns : goal.returns
returns c = each_script_has_files
