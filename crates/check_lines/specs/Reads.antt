-- A text that was printed, read back.
use Rattle.std.specs.Prelude.{◌≡◌, ℕ, List, Option, Some, None}

-- a text is printed from this value, which fits, and from no other value that fits
pub record IsPrintedFrom {A : Type 0} (print : A → List ℕ) (fits : A → Type 0)
    (text : List ℕ) (value : A) : Type 0 where
  pub fits_value : fits value
  pub printed : text ≡ print value
  pub only : (other : A) → fits other → text ≡ print other → other ≡ value

-- the value that a text is printed from, or `None` if it is printed from no value that fits
abbrev pub ReadsPrinted : {A : Type 0} → (A → List ℕ) → (A → Type 0) → List ℕ → Option A → Type 0
ReadsPrinted {A} print fits text None = (other : A) → fits other → text ≡ print other → ⊥
ReadsPrinted print fits text (Some value) = IsPrintedFrom print fits text value
