-- The meaning of a verdict's number, for the bytes of a script and a text.
use Rattle.std.specs.Prelude.{◌≡◌, ◌≤◌, ℕ, List}
use Rattle.fx_language.specs.Script.{HasFault, IsScript, Meaning}
use Rattle.fx_language.specs.declared.fault.ScriptFault.{ScriptFault}
use Rattle.fx_script.specs.Play.{IsText}
use Rattle.check_judge.specs.Judged.{IsBroken}
use Rattle.check_judge.specs.declared.judgement.Break.{Break}
use Rattle.fx_judge.specs.declared.judge.YachtVerdict.{YachtVerdict}
use Rattle.fx_judge.specs.declared.codes.TheConstants.{BAD_SCRIPT, LEGAL, NO_MEMORY, NOT_LEGAL}

-- the bytes are a script that may print this
pub record MayBePrinted (script text : List ℕ) : Type 0 where
  pub meaning : Meaning
  pub read : IsScript script meaning
  pub printed : IsText meaning text

-- the bytes are a script that doesn't print this: it breaks after these commands and bytes
pub record IsNotPrinted (script text : List ℕ) (commands at : ℕ) : Type 0 where
  pub meaning : Meaning
  pub read : IsScript script meaning
  pub broken : Break
  pub breaks : IsBroken meaning text broken
  pub its_commands : commands ≡ broken.commands
  pub its_place : at ≡ broken.at

-- the bytes aren't a script: this line has the first fault
abbrev pub HasFaultOnLine : List ℕ → ℕ → Type 0
HasFaultOnLine script line = (kind : ScriptFault) × HasFault script line kind

-- a number and the details of a text that was judged
pub record IsTextVerdict (script text : List ℕ) (number : ℕ) (details : YachtVerdict)
    : Type 0 where
  pub known : number ≤ NO_MEMORY
  pub legal : number ≡ LEGAL → MayBePrinted script text
  pub not_legal : number ≡ NOT_LEGAL → IsNotPrinted script text details.commands details.at
  pub bad_script : number ≡ BAD_SCRIPT → HasFaultOnLine script details.line
