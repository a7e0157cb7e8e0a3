use Rattle.check_lines.proofs.{List, ℕ, ◌∷◌, ◌++◌, ◌∙◌, sym, refl, append_assoc, append_cancel_left, codes, decimal, place_text, Place, Registered}
use Rattle.check_lines.proofs.{Submitted}
use Rattle.check_lines.proofs.PlaysBegin.{digit_first}
use Rattle.check_lines.proofs.report_lines.mark_of.Goals as goal

pub returns-in-Some-clause-parsed : goal.returns-in-Some-clause-parsed
returns-in-Some-clause-parsed c (Registered k i) rest fits here same =
    let one = c.number_before-k.ensures k (46 ∷ (decimal i ++ rest)) fits.0 refl
    (append_cancel_left (codes "r") _ _ (sym c.in-Some.ensures.rest ∙ same) ∙ append_assoc (decimal k) (46 ∷ decimal i) rest) in
    let two = c.number_before-i.ensures i rest fits.1 here (sym one.1) in λ j. Registered (one.0 j) (two.0 j)
returns-in-Some-clause-parsed c (Submitted s h m e) rest fits here same =
    let others : List ℕ = 46 ∷ (decimal h ++ (46 ∷ (decimal m ++ (46 ∷ (decimal e ++ rest))))) in
    absurd (digit_first s 114 c.in-Some.rest.now others refl (sym c.in-Some.ensures.rest ∙ same ∙ simp append_assoc))

pub returns-clause-parsed : goal.returns-clause-parsed
returns-clause-parsed c (Registered k i) rest fits here same = absurd (c.in_default.ensures.none _ same)
returns-clause-parsed c (Submitted s h m e) rest fits here same =
    let place : Place = record { submission = s; chain = h; member = m } in
    let one = c.place_before.ensures.parsed place (46 ∷ (decimal e ++ rest)) fits.0 refl
    (same ∙ append_assoc (place_text place) (46 ∷ decimal e) rest) in
    let two = c.number_before-entry.ensures e rest fits.1 here (sym one.1) in
    λ j. Submitted (one.0 j).submission (one.0 j).chain (one.0 j).member (two.0 j)
