use Rattle.check_search.proofs.Words.{◌≡◌, refl, sym, ap, subst, ◌∙◌, ℕ, List, IsTrue, option_copied, Packing, Standing, Vec, HasNoEnd, IfOk-weaker}
use Rattle.check_search.proofs.Words.{starting, unpacked}
use Rattle.check_search.proofs.Reaching.{never_reached}
use Rattle.check_search.proofs.certificate.shows_no_end.Goals as goal

pub returns : goal.returns
returns c =
    let start : Standing = starting c.args.strands.now c.args.cells.now in
    let packing : Packing = c.args.web.now.steps.packing in
    let rows : List (Vec ℕ) = c.args.web.now.rows.keys in
    let is : unpacked packing c.in-Some.first.now.items ≡ start =
    sym (c.in_ok-node.ensures ∙ ap (unpacked packing) c.deref.ensures.value) ∙ (c.if-not-is_same.ensures refl ∙ c.in_ok-start.ensures) in
    IfOk-weaker c.is_closed.result _ (λ yes. IsTrue yes → HasNoEnd c.args.strands.now start)
    (λ yes closed done. subst (HasNoEnd c.args.strands.now) is (never_reached c.args.strands.now packing rows 0 c.in-Some.first.now
    (sym c.get_index.ensures.key ∙ ap option_copied c.in-Some.is) (closed done))) c.is_closed.ensures
