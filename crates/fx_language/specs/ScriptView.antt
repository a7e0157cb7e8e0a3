-- The result of the lines so far, without its place in memory.
use Rattle.std.specs.Prelude.{◌≡◌, Result, Ok, Err}
use Rattle.fx_chain.specs.Operation.{all_asked}
use Rattle.fx_language.specs.declared.fault.LineError.{LineError}
use Rattle.fx_language.specs.declared.fault.LineError.TheVariants.{Fault, NoMemory}
use Rattle.fx_language.specs.declared.fault.ScriptFault.{ScriptFault}
use Rattle.fx_language.specs.declared.reader.Reader.{Reader}
use Rattle.fx_language.specs.Instruction.{instructions_of}
use Rattle.fx_language.specs.Script.{Progress}

-- the meaning of the lines so far
abbrev pub progress_of : Reader → Progress
progress_of r = record {
  catalogue = r.catalogue;
  commands = instructions_of r.commands.items;
  waiting = all_asked r.waiting.items;
  first_waiting = r.first_waiting;
}

-- the expected fault, or an allocation failure
abbrev pub IsExpected : {A : Type 0} → LineError → Result A ScriptFault → Type 0
IsExpected (Fault fault) expected = expected ≡ Err fault
IsExpected NoMemory expected = Unit {0}

-- the result is the expected one, unless an allocation failed; `view` is what contracts see of the
-- code's value
abbrev pub YieldsOrFails : {A B : Type 0} → (A → B) → Result A LineError → Result B ScriptFault
    → Type 0
YieldsOrFails view (Ok x) expected = expected ≡ Ok (view x)
YieldsOrFails view (Err error) expected = IsExpected error expected

-- the result and the state afterwards are the expected ones, unless an allocation failed
abbrev pub TakesExpected : {A : Type 0} → Result A ScriptFault → Result (Unit {0}) LineError → A
    → Type 0
TakesExpected expected (Ok _) new = expected ≡ Ok new
TakesExpected expected (Err error) new = IsExpected error expected
