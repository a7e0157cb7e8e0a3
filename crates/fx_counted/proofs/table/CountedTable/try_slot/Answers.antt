use Rattle.fx_counted.proofs.{arith, rules, ◌≡◌, ◌<◌, ◌^◌, ◌∙◌, None, node_in, in_size, slot_inside, slot_at, no_name, loads_keep, exchanges_keep}
use Rattle.fx_counted.proofs.Showing.{exchange_tried}
use Rattle.fx_counted.proofs.table.CountedTable.try_slot.Goals as goal

pub load-found-requires : goal.load-found-requires
load-found-requires c =
    let t = c.args.self.now in (
      c.requires.searching.table,
      slot_inside t (in_size t c.args.slot c.requires.range) c.slot_place-place.ensures,
      loads_keep _ _ _ _ c.args.seat.now.me _ c.requires.searching.placing.at.pass c.requires.searching.change,
    )

pub compare_exchange-requires : goal.compare_exchange-requires
compare_exchange-requires c =
    let t = c.args.self.now in let place = c.slot_place-place.ensures in let p = c.requires.searching.placing in
    let loaded = c.load-found.ensures.2 in let s = loaded.stepped in let small : c.args.file.entry < 2 ^ 8 = omega arith in
    let empty : node_in c.load-found.result ≡ None = search rules in (
      c.load-found.ensures.0 ∙ c.requires.searching.table,
      slot_inside t (in_size t c.args.slot c.requires.range) place,
      exchanges_keep _ _ _ _ c.args.slot c.args.number _ _ c.args.file c.load-found.new.seat.me _ (s.start ∙ p.at.pass.0, s.one.1) (s.work ∙ p.work)
          (loaded.carried ∙ p.place) small s.change c.requires.range place (no_name c.load-found.result empty) c.slot_word-word.ensures,
    )

pub returns-clause-tries : goal.returns-clause-tries
returns-clause-tries c =
    let loaded = c.load-found.ensures.2 in
    exchange_tried c.requires.searching.placing (slot_at c.args.self.now c.slot_place-place.ensures) loaded.stepped loaded.carried c.compare_exchange.ensures.2
