use Rattle.fx_lasting.proofs.{◌≡◌, ℕ, ap, ◌∙◌, ◌+◌, arith, Tag, tag_place, subst, [], Placing, as_written, tag_inside, tag_word, few_nodes}
use Rattle.fx_lasting.proofs.{its_inside, still_at_work, runs_goes, runs_within, does_then}
use Rattle.fx_lasting.specs.Ends.{Does}
use Rattle.fx_lasting.proofs.node_lemmas.Labelling.{tags_keep, recalls_tag_keep}
use Rattle.fx_lasting.proofs.table.LastingTable.put_tag.Goals as goal

pub overflow_add-place : goal.overflow_add-place
overflow_add-place c = let t = c.args.self.now in
    omega (arith, c.requires.word, its_inside c.requires.at.1 c.requires.placing.1, few_nodes t, t.few_slots, t.bounds.1)

pub load-found-requires : goal.load-found-requires
load-found-requires c =
    let t = c.args.self.now in
    let at = c.requires.at.1 in
    let is : c.args.place + 1 ≡ tag_place t.size t.passes c.args.node = ap (λ (z : ℕ). z + 1) c.requires.word in (
      c.requires.table,
      tag_inside t (its_inside at c.requires.placing.1) is,
      recalls_tag_keep _ _ _ _ c.args.node c.requires.placing.0 c.args.seat.now.me _ at.pass c.requires.placing.1 (tag_word t c.args.node is),
    )

pub store-requires : goal.store-requires
store-requires c =
    let t = c.args.self.now in
    let goes = c.load-found.ensures.2.goes c.args.node c.requires.placing.0 c.requires.placing.1 in
    let at = still_at_work c.requires.at.1 (runs_goes goes) in
    let is : c.args.place + 1 ≡ tag_place t.size t.passes c.args.node = ap (λ (z : ℕ). z + 1) c.requires.word in (
      c.load-found.ensures.0 ∙ c.requires.table,
      tag_inside t (its_inside c.requires.at.1 c.requires.placing.1) is,
      tags_keep _ _ _ _ c.args.node c.requires.placing.0 c.args.tag (Tag c.load-found.result) c.load-found.new.seat.me _ at.pass goes.stepped.work
          (tag_word t c.args.node is),
    )

pub returns-then-found-tag-clause-stored : goal.returns-then-found-tag-clause-stored
returns-then-found-tag-clause-stored c lost works =
    let first = c.load-found.ensures.2.goes c.args.node lost works in
    does_then (runs_goes first) (runs_goes (c.store.ensures.2.goes c.args.node lost (Tag c.load-found.result) first.stepped.work))

pub returns-else-found-tag-clause-stored : goal.returns-else-found-tag-clause-stored
returns-else-found-tag-clause-stored c lost works =
    let same : c.load-found.result ≡ c.args.tag = omega (arith, c.if-found-tag.false) in
    subst (λ (tag : ℕ). Does c.args.seat.now.me [] (Placing c.args.node (as_written lost (Tag tag))) 2 c.load-found.new.seat.me) same
    (runs_within (omega arith) (runs_goes (c.load-found.ensures.2.goes c.args.node lost works)))
