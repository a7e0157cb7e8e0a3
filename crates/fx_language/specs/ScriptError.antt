-- The meaning of the reader's errors.
use Rattle.std.specs.Prelude.{◌≡◌, ℕ, List, Result, Ok, Err}
use Rattle.fx_language.specs.declared.fault.ScriptError.{ScriptError}
use Rattle.fx_language.specs.declared.fault.ScriptError.TheVariants.{Fault, NoMemory}
use Rattle.fx_language.specs.Script.{LineFault, Meaning, HasFault}

-- the bytes have this fault; an allocation failure says nothing of them
abbrev pub IsFaultOf : List ℕ → ScriptError → Type 0
IsFaultOf bytes (Fault line kind) = HasFault bytes line kind
IsFaultOf bytes NoMemory = Unit {0}

-- the result is the expected one, unless an allocation failed
abbrev pub ReadsScript : Result Meaning LineFault → Result Meaning ScriptError → Type 0
ReadsScript expected (Ok meaning) = expected ≡ Ok meaning
ReadsScript expected (Err (Fault line kind)) = expected ≡ Err (record { line = line; kind = kind })
ReadsScript expected (Err NoMemory) = Unit {0}
