use Rattle.check_lines.proofs.{List, ℕ, ◌∙◌, ◌++◌, sym, refl, ◌∷◌, append_assoc, decimal}
use Rattle.check_lines.proofs.report_lines.place_before.Goals as goal

pub returns-clause-parsed : goal.returns-clause-parsed
returns-clause-parsed c = λ place rest fits here same.
    let others : List ℕ = decimal place.member ++ rest in
    let one = c.number_before-submission.ensures place.submission (46 ∷ (decimal place.chain ++ (46 ∷ others))) fits.submission refl (same ∙ simp append_assoc) in
    let two = c.number_before-chain.ensures place.chain (46 ∷ others) fits.chain refl (sym one.1) in
    let three = c.number_before-member.ensures place.member rest fits.member here (sym two.1) in
    (λ i. record { submission = one.0 i; chain = two.0 i; member = three.0 i }, three.1)
