-- The parts of a text, and its first lines.
use Rattle.std.specs.Prelude.{◌≡◌, ◌++◌}
use Rattle.check_lines.specs.Words.{ℕ, List, length, All, IsTrue, get_or, StartsWith, flat_map}
use Rattle.check_lines.specs.Lines.{is_without}

-- a text in two parts: the byte isn't in the first one, and the second begins with it or is empty
pub record IsCut (at : ℕ) (text front behind : List ℕ) : Type 0 where
  pub without : IsTrue (is_without at front)
  pub begins : get_or behind 0 at ≡ at
  pub split : text ≡ front ++ behind

-- this number of lines, whatever follows them
abbrev pub HasLength : {A : Type 0} → ℕ → List A → List ℕ → Type 0
HasLength count items rest = length items ≡ count

-- no line that begins with this word follows the lines
abbrev pub AreAll : {A : Type 0} → List ℕ → List A → List ℕ → Type 0
AreAll word items rest = ¬ (StartsWith rest word)

-- lines that fit, and the rest of the text that begins with them. They are the only lines that fit
-- and that the rest of the text may follow
pub record AreFirst {A : Type 0} (print : A → List ℕ) (fits : A → Type 0)
    (may : List A → List ℕ → Type 0) (text : List ℕ) (items : List A) (rest : List ℕ) :
    Type 0 where
  pub printed : text ≡ flat_map print items ++ rest
  pub fit : All fits items
  pub only : (others : List A) (behind : List ℕ) → All fits others → may others behind
      → text ≡ flat_map print others ++ behind → (others ≡ items) × (behind ≡ rest)
