-- The reader's fault, as the player returns it.
use Rattle.fx_language.specs.declared.fault.ScriptError.{ScriptError}
use Rattle.fx_script.specs.declared.runner.PlayFault.{PlayFault}
use Rattle.fx_script.specs.declared.runner.PlayFault.TheVariants.{Script, NoMemory}
use Rattle.fx_language.specs.declared.fault.ScriptError.TheVariants as error

abbrev pub play_fault : ScriptError → PlayFault
play_fault (error.Fault line kind) = Script line kind
play_fault error.NoMemory = NoMemory
