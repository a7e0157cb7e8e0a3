use Rattle.fx_baton.proofs.{◌≡◌, sym, ◌∙◌, ap, ◌∷◌, [], opening, Contents, state_of, numbers_for, prepared_again, opens}
use Rattle.fx_baton.proofs.table.BatonTable.start.Goals as goal

pub new-requires : goal.new-requires
new-requires c =
    let is : c.of.result.value ≡ c.args.plain = c.of.ensures in let h = c.in_ok-list.ensures.list in
    opens record { plain = c.of.result; chains = c.args.chains; passes = c.args.passes } h.table
    (h.state ∙ (ap (opening (state_of c.args.plain)) c.numbers_for.ensures
    ∙ ap (λ (z : Contents). opening (state_of z) (numbers_for c.args.chains)) (sym is)))
    h.sound c.requires.passes.1 _ h.only

pub returns-clause-refused : goal.returns-clause-refused
returns-clause-refused c =
    let h = c.in_ok-list.ensures.list in
    let both : c.only_table.result ∷ [] ≡ h.table ∷ [] = sym c.only_table.ensures ∙ (c.in-Err.ensures.err ∙ h.only) in
    let is : c.only_table.result ≡ h.table = cc both in
    prepared_again c.args.plain c.only_table.result c.numbers_for.result (ap state_of is ∙ h.state)
