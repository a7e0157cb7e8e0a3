-- Reading a line word by word.
use Rattle.std.specs.Prelude.{◌≡◌, ℕ, List, [], ◌∷◌, Result, Ok, Err}
use Rattle.std.specs.Borrow.{Bor}
use Rattle.fx_language.specs.declared.fault.ScriptFault.{ScriptFault}
use Rattle.fx_language.specs.declared.fault.ScriptFault.TheVariants.{WordCount}

-- the first word was taken, or there is none
abbrev pub TakesWord : List (List ℕ) → Result (Bor (List ℕ)) ScriptFault → List (List ℕ) → Type 0
TakesWord old (Ok word) new = old ≡ word.now ∷ new
TakesWord old (Err fault) new = (old ≡ []) × (fault ≡ WordCount)

-- success if there is no word, otherwise a fault
abbrev pub EndsWords : {A : Type 0} → List (List ℕ) → Result A ScriptFault → Type 0
EndsWords old (Ok _) = old ≡ []
EndsWords old (Err fault) =
    (word : List ℕ) × (others : List (List ℕ)) × (old ≡ word ∷ others) × (fault ≡ WordCount)

-- the result is the expected one; `view` is what contracts see of the code's value
abbrev pub YieldsExpected : {A B : Type 0} → (A → B) → Result A ScriptFault → Result B ScriptFault
    → Type 0
YieldsExpected view (Ok x) expected = expected ≡ Ok (view x)
YieldsExpected view (Err fault) expected = expected ≡ Err fault
