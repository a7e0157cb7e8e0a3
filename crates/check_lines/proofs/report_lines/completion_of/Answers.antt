use Rattle.check_lines.proofs.{FitsSigned, w32, to_z-of_z, rules, drop, List, ℕ, ◌∙◌, ◌++◌, ap, sym, not, refl, ◌∷◌, ◌==◌, append_assoc, got_text}
use Rattle.check_lines.proofs.{and_from, list_all-append, signed_decimal, got_behind, got_begins, got_without, parts_are, result_without}
use Rattle.check_lines.proofs.report_lines.completion_of.Goals as goal

pub returns-clause-parsed : goal.returns-clause-parsed
returns-clause-parsed c = λ x rest fits same.
    let res : List ℕ = signed_decimal x.res in let answer : List ℕ = res ++ got_text x.got in
    let place = c.place_before.ensures.parsed x.place (32 ∷ (answer ++ (10 ∷ rest))) fits.place refl (same ∙ simp append_assoc) in
    let without = list_all-append (λ b. not (b == 10)) res (got_text x.got) ∙ and_from _ _ (result_without 10 x.res refl refl fits.res) (got_without x.got fits.got) in
    let line = parts_are c.cut.ensures answer (10 ∷ rest) without refl (sym place.1) in
    let word = parts_are c.cut-2.ensures res (got_text x.got) (result_without 32 x.res refl refl fits.res) (got_begins x.got) (sym line.0) in
    let got = c.in_ok-got.ensures.parsed x.got fits.got (c.behind_first.ensures ∙ ap (drop 1) (sym word.1) ∙ got_behind x.got) in
    let small : FitsSigned w32 c.res_of-res.result = search rules in
    let read = c.res_of-res.ensures.parsed x.res fits.res (sym word.0) ∙ sym (to_z-of_z w32 c.res_of-res.result small) in
    λ i. record { place = place.0 i; res = read i; got = got i }

pub returns-clause-fits : goal.returns-clause-fits
returns-clause-fits c =
    let small : FitsSigned w32 c.res_of-res.result = search rules in
    record { place = c.place_before.ensures.fits; res = rw (to_z-of_z w32 c.res_of-res.result small) c.res_of-res.ensures.fits; got = c.in_ok-got.ensures.fits }
