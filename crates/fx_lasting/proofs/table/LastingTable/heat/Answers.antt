use Rattle.fx_lasting.proofs.{cold_takes, ap, ◌∙◌, arith, cond, Bool, Nothing, Heating, le-ltb, count_in, ◌≤◌, slot_inside, listed_is}
use Rattle.fx_lasting.proofs.hold_lemmas.Taking.{heats_keep}
use Rattle.fx_lasting.proofs.table.LastingTable.heat.Goals as goal

pub fetch_add-requires : goal.fetch_add-requires
fetch_add-requires c =
    let t = c.args.self.now in
    let at = c.requires.at.1 in
    let many : cold_takes t.passes ≤ count_in c.args.word = omega arith in (
      c.requires.table,
      slot_inside t c.requires.slot c.slot_place.ensures,
      heats_keep _ _ _ _ c.args.slot c.args.seat.now.me _ at.pass (listed_is at ∙ c.requires.listed)
          (c.requires.took ∙ ap (λ (b : Bool). cond b Nothing (Heating c.args.slot)) (le-ltb (count_in c.args.word) (cold_takes t.passes) many)) c.slot_place.ensures,
    )
