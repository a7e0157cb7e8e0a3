-- The deeds of passes at a slot since the slot's word was last swapped.
use Rattle.fx_lasting.specs.Words.{Bool, true, false}

-- how far a pass is
pub data Deed : Type 0 where
  -- it took nothing while the slot had its takes, and didn't heat the slot
  untouched : Deed
  -- it took while the slot had its takes, and has still to heat the slot
  over : Deed
  -- it heated the slot
  heated : Deed

-- the pass took while the slot had its takes, or heated the slot
abbrev pub has_acted : Deed → Bool
has_acted untouched = false
has_acted over = true
has_acted heated = true

-- the slot's heat counts the pass
abbrev pub has_heated : Deed → Bool
has_heated untouched = false
has_heated over = false
has_heated heated = true
