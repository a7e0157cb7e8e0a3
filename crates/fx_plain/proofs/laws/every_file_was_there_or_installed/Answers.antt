use Rattle.fx_plain.proofs.LawFiles.{every_file_was_there_or_installed}
use Rattle.fx_plain.proofs.laws.every_file_was_there_or_installed.Goals as goal

pub returns : goal.returns
returns c = every_file_was_there_or_installed
