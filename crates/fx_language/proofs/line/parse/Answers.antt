use Rattle.fx_language.proofs.FilesOfScripts.{words_are_printable, others_are_printable}
use Rattle.fx_language.proofs.line.parse.Goals as goal

pub after_command-requires : goal.after_command-requires
after_command-requires c = others_are_printable c.in-Some.ensures.steps (rw c.new-words.ensures (words_are_printable c.args.line.now c.requires))
