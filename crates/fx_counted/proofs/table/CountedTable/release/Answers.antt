use Rattle.fx_counted.proofs.{ap, ◌∙◌, arith, subst, node_place, IsInside, Hold, node_inside, its_pass, its_hold, adds_so, out_place, out_and_home}
use Rattle.fx_counted.proofs.{releases_keep}
use Rattle.fx_counted.proofs.table.CountedTable.release.Goals as goal

pub fetch_sub-found-requires : goal.fetch_sub-found-requires
fetch_sub-found-requires c =
    let t = c.args.self.now in let fits = c.requires.fits in let (f, holding) = c.requires.held in let (work, value) = its_hold fits holding in
    let is = c.node_place-place.ensures ∙ ap (λ (h : Hold). node_place t.size h.node) value in (
      fits.table,
      node_inside t (subst (IsInside t.table.shared.key) work fits.seated.inside) is,
      releases_keep _ _ _ _ f c.args.pass.now.seat.me _ (its_pass fits) work (rw t.same_size at is),
    )

pub returns-clause-released : goal.returns-clause-released
returns-clause-released c =
    let fits = c.requires.fits in let (f, holding) = c.requires.held in let (work, value) = its_hold fits holding in
    let out = c.fetch_sub-found.ensures.2.closes f work (omega (arith, c.if-found-ne1.false)) in
    let place = rw (← ap (λ (h : Hold). h.node) value) at (out_place (its_pass fits) fits.places out) in
    (f, holding, (c.take_out.ensures.file f.identity place, adds_so fits (out_and_home out c.take_out.ensures.rests)))
