use Rattle.fx_lasting.proofs.{◌≡◌, ℕ, ap, ◌∙◌, sym, ◌+◌, ◌∷◌, subst, arith, [], None, rest, Placing, Label, as_written, Runs, number_of_mark}
use Rattle.fx_lasting.proofs.{number_place, number_inside, number_word, few_nodes, its_inside, runs_goes, runs_carried}
use Rattle.fx_lasting.proofs.node_lemmas.Labelling.{numbers_keep}
use Rattle.fx_lasting.proofs.table.LastingTable.put_in.Goals as goal

pub overflow_add-place : goal.overflow_add-place
overflow_add-place c = let t = c.args.self.now in
    omega (arith, c.requires.word, its_inside c.requires.at.1 c.requires.placing.1, few_nodes t, t.few_slots, t.bounds.1)

pub store-requires : goal.store-requires
store-requires c =
    let t = c.args.self.now in
    let at = c.requires.at.1 in
    let is : c.args.place + 2 ≡ number_place t.size t.passes c.args.node = ap (λ (z : ℕ). z + 2) c.requires.word in (
      c.requires.table,
      number_inside t (its_inside at c.requires.placing.1) is,
      numbers_keep _ _ _ _ c.args.node c.requires.placing.0 c.args.file.tag c.number_of_mark-number.result c.args.seat.now.me _ at.pass c.requires.placing.1
          (number_word t c.args.node is),
    )

pub exchange-before-requires : goal.exchange-before-requires
exchange-before-requires c =
    let goes = c.store.ensures.2.goes c.args.node c.requires.placing.0 c.args.file.tag c.requires.placing.1 in
    let place : c.store.new.seat.me.1 ≡ (c.args.node, None) ∷ [] = goes.carried ∙ c.requires.place in
    (c.store.ensures.0 ∙ c.requires.table, (None, place ∙ λ i. (c.args.node, None) ∷ sym (ap rest place) i))

pub returns-clause-stored : goal.returns-clause-stored
returns-clause-stored c lost works =
    let number : c.number_of_mark-number.result ≡ number_of_mark c.args.file.mark = c.number_of_mark-number.ensures ∙ ap number_of_mark c.mark.ensures in
    let run = subst (λ (z : ℕ). Runs c.args.seat.now.me [] (Placing c.args.node (as_written lost (Label c.args.file.tag z))) c.args.seat.now.me.0.glance
    c.args.seat.now.me.0.change 1 c.store.new.seat.me) number (runs_goes (c.store.ensures.2.goes c.args.node lost c.args.file.tag works)) in
    rw c.exchange-before.ensures.3 (runs_carried _ run)
