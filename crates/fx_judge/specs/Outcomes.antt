-- The texts of a script one after another, and the written list of them.
use Rattle.std.specs.Prelude.{◌≡◌, ◌≤◌, ℕ, Bool, true, false, IsTrue, List, length, take, All}
use Rattle.std.specs.Prelude.{Contains, nat_eq, map}
use lib.Pointwise.{pointwise}
use Rattle.std.specs.List.{IsDistinct, concat}
use Rattle.fx_language.specs.Script.{IsScript, Meaning}
use Rattle.check_texts.specs.Texts.{IsTextFound}
use Rattle.fx_judge.specs.Verdicts.{HasFaultOnLine}
use Rattle.fx_judge.specs.declared.codes.TheConstants.{ALL, BAD_SCRIPT, NO_MEMORY, SOME}
use Rattle.fx_judge.specs.declared.outcomes.YachtTexts.{YachtTexts}

-- their bytes
abbrev pub joined : List (List ℕ) → List ℕ
joined texts = concat texts

-- the length of each text
abbrev pub lengths_in : List (List ℕ) → List ℕ
lengths_in texts = map length texts

-- the same bytes
abbrev pub same_bytes : List ℕ → List ℕ → Bool
same_bytes = pointwise nat_eq

-- these texts are written, and so are their counts
pub record AreWritten (found : List (List ℕ)) (totals : YachtTexts) (texts lengths_of : List ℕ)
    : Type 0 where
  pub count : totals.count ≡ length found
  pub bytes : totals.bytes ≡ length (joined found)
  pub joined_texts : take totals.bytes texts ≡ joined found
  pub each_length : take totals.count lengths_of ≡ lengths_in found

-- the bytes are a script, and texts are written that it may print if no allocation fails; all of
-- them, if so said
pub record AreOutcomes (script : List ℕ) (are_all : Bool) (totals : YachtTexts)
    (texts lengths_of : List ℕ) : Type 0 where
  pub meaning : Meaning
  pub read : IsScript script meaning
  pub found : List (List ℕ)
  pub written : AreWritten found totals texts lengths_of
  pub each : All (IsTextFound meaning) found
  pub once : IsDistinct same_bytes found
  pub all : IsTrue are_all → (text : List ℕ) → IsTextFound meaning text → Contains found text

-- a number, and what is written for it
pub record IsTextList (script : List ℕ) (number : ℕ) (totals : YachtTexts)
    (texts lengths_of : List ℕ) : Type 0 where
  pub known : number ≤ NO_MEMORY
  pub all : number ≡ ALL → AreOutcomes script true totals texts lengths_of
  pub some : number ≡ SOME → AreOutcomes script false totals texts lengths_of
  pub bad_script : number ≡ BAD_SCRIPT → HasFaultOnLine script totals.line
