-- The derived comparison of marks equals `mark_cmp`, which is written by cases.
use Rattle.std.proofs.Common.{◌≡◌, refl}
use Rattle.fx_base.specs.CloseList.{mark_cmp}
use Rattle.fx_base.specs.contracts.mark.MarkOrd.TheImpl.{ghosts}
use Rattle.fx_base.specs.declared.mark.Mark.{Mark}
use Rattle.fx_base.specs.declared.mark.Mark.TheVariants.{Registered, Submitted}

pub same_cmp : (a b : Mark) → ghosts.cmp a b ≡ mark_cmp a b
same_cmp (Registered k i) (Registered l j) = refl
same_cmp (Registered k i) b = refl
same_cmp (Submitted s c m e) (Registered k i) = refl
same_cmp a b = refl
