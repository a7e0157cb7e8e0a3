use Rattle.fx_lasting.proofs.{◌≡◌, ◌∙◌, ◌∷◌, ℕ, List, ap, sym, subst, arith, Bool, true, None, Option, Closed, some, get_or, MayPlace, Unlabelled}
use Rattle.fx_lasting.proofs.{Tag, tag_place, Placing, as_written, label_of, ◌-◌, ◌+◌, [], read_at, node_inside, node_word, few_nodes, tag_inside}
use Rattle.fx_lasting.proofs.{tag_word, its_inside, still_at_work, does_then, runs_one, runs_goes, runs_within}
use Rattle.fx_lasting.proofs.Words.{Keeping}
use Rattle.fx_lasting.specs.Ends.{Does}
use Rattle.fx_lasting.proofs.node_lemmas.Births.{births_keep}
use Rattle.fx_lasting.proofs.node_lemmas.KeptNodes.{resumes_keep}
use Rattle.fx_lasting.proofs.node_lemmas.Labelling.{tags_keep}
use Rattle.fx_lasting.proofs.table.LastingTable.place.Goals.{Then-keeps}
use Rattle.fx_lasting.proofs.table.LastingTable.place.Goals as goal

-- the node that the pass keeps
module _ (c : Then-keeps) where
  abbrev node : ℕ
  node = get_or c.args.stock.now c.args.start 0

  kept : MayPlace true c.args.stock.now c.args.start c.args.seat.now.me.0.work
  kept = subst (λ (b : Bool). MayPlace b c.args.stock.now c.args.start c.args.seat.now.me.0.work) c.if-keeps.true c.requires.may

  same : node ≡ kept.0
  same = read_at c.args.stock.now c.args.start 0 kept.3

  works : c.args.seat.now.me.0.work ≡ Keeping node kept.1
  works = kept.2 ∙ ap (λ (n : ℕ). Keeping n kept.1) (sym same)

pub node_place-place-requires : goal.node_place-place-requires
node_place-place-requires c =
    omega (arith, its_inside c.requires.at (works ((goal.at.node_place-place-requires c).Then-keeps)), few_nodes c.args.self.now)

pub load-word-requires : goal.load-word-requires
load-word-requires c =
    let a = (goal.at.load-word-requires c).Then-keeps in
    let t = c.args.self.now in (
      c.requires.table,
      node_inside t (its_inside c.requires.at (works a)) c.node_place-place.ensures,
      resumes_keep _ _ _ _ (node a) (kept a).1 c.args.seat.now.me _ c.requires.at.pass (works a) (node_word t (node a) c.node_place-place.ensures),
    )

pub put_in-requires : goal.put_in-requires
put_in-requires c =
    let a = (goal.at.put_in-requires c).Then-keeps in
    let resumed = c.load-word.ensures.2.goes (node a) (kept a).1 (works a) in
    let tagged = c.put_tag.ensures.stored (kept a).1 resumed.0.work in
    record {
      table = c.put_tag.ensures.table ∙ (c.load-word.ensures.0 ∙ c.requires.table);
      at = (c.args.number, still_at_work (still_at_work c.requires.at (runs_one resumed.0)) tagged);
      placing = ((kept a).1, tagged.work ∙ ap (λ (z : ℕ). Placing (node a) (as_written (kept a).1 (Tag z))) c.tag.ensures);
      place = c.put_tag.ensures.places ∙ resumed.1 ∙ ap (λ (l : List (ℕ × Option Closed)). (node a, None) ∷ l) c.requires.places;
      word = c.node_place-place.ensures;
    }

pub put_tag-requires-clause-placing : goal.put_tag-requires-clause-placing
put_tag-requires-clause-placing c =
    let a = (goal.at.put_tag-requires-clause-placing c).Then-keeps in
    ((kept a).1, (c.load-word.ensures.2.goes (node a) (kept a).1 (works a)).0.work)

pub overflow_sub-result : goal.overflow_sub-result
overflow_sub-result c =
    let a = (goal.at.overflow_sub-result c).Then-keeps in
    omega (arith, (c.load-word.ensures.2.goes (node a) (kept a).1 (works a)).2)

pub returns-then-keeps : goal.returns-then-keeps
returns-then-keeps c =
    let a = (goal.at.returns-then-keeps c).Then-keeps in
    let m = c.args.seat.now.me in
    let resumed = c.load-word.ensures.2.goes (node a) (kept a).1 (works a) in
    let lost : (kept a).1 ≡ 4294967297 - c.load-word.result = omega (arith, resumed.2) in
    let tagged = c.put_tag.ensures.stored (kept a).1 resumed.0.work in
    let stored = c.put_in.ensures.stored (kept a).1 (tagged.work ∙ ap (λ (z : ℕ). Placing (node a) (as_written (kept a).1 (Tag z))) c.tag.ensures) in
    record {
      table = c.put_in.ensures.table ∙ (c.put_tag.ensures.table ∙ c.load-word.ensures.0);
      placed = subst (λ (z : ℕ). Does m [] (Placing (node a) (as_written z (label_of c.args.file))) (c.args.self.now.passes + 3) c.put_in.new.seat.me) lost
          (runs_within (omega (arith, c.requires.start)) (does_then (does_then (runs_one resumed.0) tagged) stored));
      few_lost = omega (arith, resumed.2, resumed.3);
      place = c.put_in.ensures.place;
      stocked = (kept a).3 ∙ ap some (sym (same a));
      entry = c.requires.start;
      inside = its_inside c.requires.at (works a);
    }

pub put_in-requires-2-clause-placing : goal.put_in-requires-2-clause-placing
put_in-requires-2-clause-placing c =
    let born = c.store.ensures.2.goes c.seek-entry.result.1 c.seek-entry.ensures.found.work in (
      0,
      (c.store-2.ensures.2.goes c.seek-entry.result.1 0 Unlabelled born.0.work).stepped.work
          ∙ ap (λ (z : ℕ). Placing c.seek-entry.result.1 (as_written 0 (Tag z))) c.tag-2.ensures,
    )

pub store-requires : goal.store-requires
store-requires c =
    let n = c.seek-entry.result.1 in
    let found = c.seek-entry.ensures.found in
    let at = still_at_work c.requires.at found in (
      c.seek-entry.ensures.table ∙ c.requires.table,
      node_inside c.args.self.now (its_inside at found.work) c.node_place-place-2.ensures,
      births_keep _ _ _ _ n c.seek-entry.new.seat.me _ at.pass found.work (node_word c.args.self.now n c.node_place-place-2.ensures),
    )

pub returns-clause-placed : goal.returns-clause-placed
returns-clause-placed c =
    let found = c.seek-entry.ensures.found in
    let born = c.store.ensures.2.goes c.seek-entry.result.1 found.work in
    let tagged = c.store-2.ensures.2.goes c.seek-entry.result.1 0 Unlabelled born.0.work in
    does_then found (does_then (does_then (runs_one born.0) (runs_goes tagged)) (c.put_in-2.ensures.stored 0
    (tagged.stepped.work ∙ ap (λ (z : ℕ). Placing c.seek-entry.result.1 (as_written 0 (Tag z))) c.tag-2.ensures)))

pub overflow_add-place : goal.overflow_add-place
overflow_add-place c =
    let t = c.args.self.now in
    omega (arith, c.node_place-place-2.ensures, its_inside (still_at_work c.requires.at c.seek-entry.ensures.found) c.seek-entry.ensures.found.work, few_nodes t, t.few_slots, t.bounds.1)

pub store-requires-2 : goal.store-requires-2
store-requires-2 c =
    let t = c.args.self.now in
    let n = c.seek-entry.result.1 in
    let found = c.seek-entry.ensures.found in
    let born = c.store.ensures.2.goes n found.work in
    let at = still_at_work (still_at_work c.requires.at found) (runs_one born.0) in
    let is : c.node_place-place-2.result + 1 ≡ tag_place t.size t.passes n = ap (λ (z : ℕ). z + 1) c.node_place-place-2.ensures in (
      c.store.ensures.0 ∙ (c.seek-entry.ensures.table ∙ c.requires.table),
      tag_inside t (its_inside (still_at_work c.requires.at found) found.work) is,
      tags_keep _ _ _ _ n 0 c.tag-2.result Unlabelled c.store.new.seat.me _ at.pass born.0.work (tag_word t n is),
    )
