-- Laws of every byte string.
use Rattle.std.specs.Prelude.{◌≡◌, ◌⊎◌, ℕ, List}
use Rattle.fx_language.specs.declared.fault.ScriptFault.{ScriptFault}
use Rattle.fx_language.specs.Script.{AreFiles, Meaning, IsScript, HasFault}

-- the bytes are a script, which says one thing, and have no fault
pub record IsOneScript (bytes : List ℕ) : Type 0 where
  pub meaning : Meaning
  pub is_script : IsScript bytes meaning
  pub only : (other : Meaning) → IsScript bytes other → other ≡ meaning
  pub no_fault : (line : ℕ) (kind : ScriptFault) → HasFault bytes line kind → ⊥

-- the bytes have one fault, on one line, and aren't a script
pub record HasOneFault (bytes : List ℕ) : Type 0 where
  pub line : ℕ
  pub kind : ScriptFault
  pub has_fault : HasFault bytes line kind
  pub only_line : (other : ℕ) (of_kind : ScriptFault) → HasFault bytes other of_kind → other ≡ line
  pub only_kind : (on : ℕ) (other : ScriptFault) → HasFault bytes on other → other ≡ kind
  pub no_script : (meaning : Meaning) → IsScript bytes meaning → ⊥

abbrev pub IsScriptOrFaulty : List ℕ → Type 0
IsScriptOrFaulty bytes = IsOneScript bytes ⊎ HasOneFault bytes

-- the files of each script are a catalogue and consist of bytes
abbrev pub EachScriptHasFiles : Type 0
EachScriptHasFiles =
    (bytes : List ℕ) (meaning : Meaning) → IsScript bytes meaning → AreFiles meaning.catalogue
