use Rattle.fx_lasting.proofs.{◌≡◌, ◌≢◌, arith, rules, announced, hold_inside, hold_word, still_at_work, runs_goes, runs_within, charge_then}
use Rattle.fx_lasting.proofs.hold_lemmas.HoldWords.{withdraws_keep}
use Rattle.fx_lasting.proofs.table.LastingTable.withdraw.Goals as goal

pub swap-found-requires : goal.swap-found-requires
swap-found-requires c =
    let t = c.args.self.now in
    let at = c.requires.at in (
      c.requires.table,
      hold_inside t at.high c.hold_place-place.ensures,
      withdraws_keep _ _ _ _ c.args.node c.args.seat.now.me _ at.pass c.requires.announced (hold_word t at.its_number c.hold_place-place.ensures),
    )

pub let_go-requires-clause-at : goal.let_go-requires-clause-at
let_go-requires-clause-at c =
    let charged : c.swap-found.result ≢ announced c.args.node = search rules in
    (c.args.number, still_at_work c.requires.at (runs_goes (c.swap-found.ensures.2.charged c.args.node c.requires.announced charged)))

pub returns-clause-withdraws : goal.returns-clause-withdraws
returns-clause-withdraws c =
    let charged : c.swap-found.result ≢ announced c.args.node = search rules in
    let goes = c.swap-found.ensures.2.charged c.args.node c.requires.announced charged in
    charge_then _ _ _ (runs_goes goes) (c.let_go.ensures.owed goes.stepped.work)

pub returns-then-found-announced-clause-withdraws : goal.returns-then-found-announced-clause-withdraws
returns-then-found-announced-clause-withdraws c =
    let clean : c.swap-found.result ≡ announced c.args.node = search rules in
    runs_within (omega arith) (runs_goes (c.swap-found.ensures.2.clean c.args.node c.requires.announced clean))
