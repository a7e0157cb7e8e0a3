use Rattle.fx_lasting.proofs.{◌≡◌, ◌≢◌, arith, rules, inl, announced, hold_inside, hold_word, still_at_work, runs_goes, runs_within, file_then}
use Rattle.fx_lasting.proofs.hold_lemmas.HoldWords.{steps_down_keep}
use Rattle.fx_lasting.proofs.table.LastingTable.step_down.Goals as goal

pub swap-found-requires : goal.swap-found-requires
swap-found-requires c =
    let t = c.args.self.now in
    let at = c.requires.at in
    let g = c.requires.guarded in (
      c.requires.table,
      hold_inside t at.high c.hold_place-place.ensures,
      steps_down_keep _ _ _ _ c.args.node g.0 c.args.seat.now.me _ at.pass g.1 (hold_word t at.its_number c.hold_place-place.ensures),
    )

pub let_go-requires-clause-at : goal.let_go-requires-clause-at
let_go-requires-clause-at c =
    let charged : c.swap-found.result ≢ announced c.args.node = search rules in let g = c.requires.guarded in
    (c.args.number, still_at_work c.requires.at (runs_goes (c.swap-found.ensures.2.charged g.0 c.args.node g.1 charged)))

pub returns-clause-releases : goal.returns-clause-releases
returns-clause-releases c f works =
    let charged : c.swap-found.result ≢ announced c.args.node = search rules in
    let goes = c.swap-found.ensures.2.charged f c.args.node works charged in
    file_then _ f _ _ (runs_goes goes) (c.let_go.ensures.held f (inl goes.stepped.work))

pub returns-then-found-announced-clause-releases : goal.returns-then-found-announced-clause-releases
returns-then-found-announced-clause-releases c f works =
    let clean : c.swap-found.result ≡ announced c.args.node = search rules in
    runs_within (omega arith) (runs_goes (c.swap-found.ensures.2.clean f c.args.node works clean))
