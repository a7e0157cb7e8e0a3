-- The kept bytes of an input, read turn by turn, and its meaning.
use Rattle.fx_script.proofs.Words.{◌≡◌, ℕ, ◌+◌, ◌<◌, true, nat_lt, List, length, take, refl, sym, ap, ◌∙◌, inl, inr, arith, Option, Some, None}
use Rattle.fx_script.proofs.Words.{IfSome, Err, length-take, take_all, IsInput, IsInputFault, LONGEST_SCRIPT, zero, suc, ◌-◌, ◌≤◌, [], ◌∷◌, ◌++◌}
use Rattle.fx_script.proofs.Words.{length-append, Consumes, IsAtEnd, append-nil, Consumes-trans}
use Rattle.std.proofs.lemmas.Bool.{cases_lt}
use Rattle.std.proofs.lemmas.Bool.Decides.{nat_tests}
use Rattle.fx_script.specs.RunView.{play_fault}
use Rattle.fx_language.specs.Script.{Meaning, LineFault, IsScript, reading_of}
use Rattle.fx_language.specs.ScriptError.{IsFaultOf}
use Rattle.fx_language.specs.declared.fault.ScriptError.{ScriptError}
use Rattle.fx_language.specs.declared.fault.ScriptFault.TheVariants.{LongScript}

abbrev too_long : LineFault
too_long = record { line = 0; kind = LongScript }

is_too_long : (bytes : List ℕ) → LONGEST_SCRIPT < length bytes → reading_of bytes ≡ Err too_long
is_too_long bytes long = let test : nat_lt LONGEST_SCRIPT (length bytes) ≡ true = grind (arith, nat_tests) in rw test refl

-- they are as many as a script may have and one more, so they read as all of them do
pub reading_of-take : (bytes : List ℕ) → reading_of (take (LONGEST_SCRIPT + 1) bytes) ≡ reading_of bytes
reading_of-take bytes = elim (cases_lt LONGEST_SCRIPT (length bytes)) [
  | inl long ↦ is_too_long (take (LONGEST_SCRIPT + 1) bytes) (omega (arith, length-take (LONGEST_SCRIPT + 1) bytes)) ∙ sym (is_too_long bytes long)
  | inr short ↦ ap reading_of (take_all (LONGEST_SCRIPT + 1) bytes (omega arith))
]

-- these are the bytes that are kept, where those of the input are known
abbrev pub IsKept : Option (List ℕ) → List ℕ → Type 0
IsKept input kept = IfSome input (λ bytes. kept ≡ take (LONGEST_SCRIPT + 1) bytes)

pub script_kept : (input : Option (List ℕ)) (kept : List ℕ) {meaning : Meaning} → IsKept input kept → IsScript kept meaning → IsInput input meaning
script_kept input kept is script = grind (arith, reading_of-take)

pub fault_kept : (input : Option (List ℕ)) (kept : List ℕ) (error : ScriptError)
    → IsKept input kept → IsFaultOf kept error → IsInputFault input (play_fault error)
fault_kept input kept error is has = grind (arith, reading_of-take)

-- The bytes that were read and kept, turn by turn.

-- the bytes that were read are gone from the reader, and the first `n` of them were kept
pub record Kept (n : ℕ) (old now : Option (List ℕ)) (input : List ℕ) : Type 0 where
  pub read : List ℕ
  pub gone : Consumes old now read
  pub kept : input ≡ take n read

pub take_append : (n : ℕ) (xs ys : List ℕ) → take n xs ++ take (n - length (take n xs)) ys ≡ take n (xs ++ ys)
take_append zero xs ys = refl
take_append (suc n) [] ys = let same : suc n - 0 ≡ suc n = omega arith in ap (λ (k : ℕ). take k ys) same
take_append (suc n) (x ∷ xs) ys = grind (arith, take_append n xs ys)

-- one more read
pub one_read : {n : ℕ} (count : ℕ) {old now next : Option (List ℕ)} {input more : List ℕ} (buffer : List ℕ) → Kept n old now input
    → Consumes now next (take count buffer) → more ≡ input ++ take (n - length input) (take count buffer) → Kept n old next more
one_read count buffer kept gone grown = grind (arith, Consumes-trans, take_append)

pub few_kept : {n : ℕ} (input : List ℕ) {more : List ℕ} (part : List ℕ) → length input ≤ n → more ≡ input ++ take (n - length input) part
    → length more ≤ n
few_kept input part few grown = omega (arith, ap length grown, length-append {A = ℕ}, length-take {A = ℕ})

-- a read that gave nothing at the end: all was read
pub at_end : {n : ℕ} (old now next : Option (List ℕ)) {input : List ℕ} {count : ℕ} (buffer : List ℕ) → Kept n old now input
    → Consumes now next (take count buffer) → count ≡ 0 → IsAtEnd next → IfSome old (λ bytes. input ≡ take n bytes)
at_end None now next buffer kept gone none end = tt
at_end (Some bytes) None next buffer kept gone none end = absurd kept.gone
at_end (Some bytes) (Some left) None buffer kept gone none end = absurd gone
at_end {n} (Some bytes) (Some left) (Some last) buffer kept gone none end =
    let nothing : left ≡ [] = gone ∙ (ap (λ (k : ℕ). take k buffer ++ last) none ∙ end) in
    let all : bytes ≡ kept.read = kept.gone ∙ (ap (λ (l : List ℕ). kept.read ++ l) nothing ∙ append-nil kept.read) in
    kept.kept ∙ ap (take n) (sym all)
