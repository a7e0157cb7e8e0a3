use Rattle.check_search.proofs.Words.{◌≡◌, Bool, Cell, None, Option, Resident, Some, ℕ, rules}
use Rattle.std.specs.Bool.{Decides}
use Rattle.std.proofs.lemmas.Slice.Eq.{slice_eq-Decides}
use Rattle.check_search.specs.contracts.cell.CellPartialEq.TheImpl.{eq-value}
use Rattle.check_search.specs.contracts.claim.ResidentPartialEq.TheImpl.{eq-value as eq_of_resident}
use Rattle.check_search.proofs.node.are_same.Goals as goal

resident_Decides : (f g : Resident) → Decides (eq_of_resident.it f g) (f ≡ g)
resident_Decides f g = search rules

abbrev cell_of : ℕ → Bool → Option Resident → Cell
cell_of slot in_range file = record { slot = slot; in_range = in_range; file = file }

fields_Decide : (s t : ℕ) (p q : Bool) (f g : Option Resident) → Decides (eq-value.it (cell_of s p f) (cell_of t q g)) (cell_of s p f ≡ cell_of t q g)
fields_Decide s t p q None None = search rules
fields_Decide s t p q None (Some g) = search rules
fields_Decide s t p q (Some f) None = search rules
fields_Decide s t p q (Some f) (Some g) = search (rules, resident_Decides f g)

cell_Decides : (a b : Cell) → Decides (eq-value.it a b) (a ≡ b)
cell_Decides a b = fields_Decide a.slot b.slot a.in_range b.in_range a.file b.file

pub returns : goal.returns
returns c = (slice_eq-Decides cell_Decides _ _ _ c.eq.ensures).0
