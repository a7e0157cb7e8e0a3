use Rattle.fx_lasting.proofs.{arith, ◌≡◌, refl, sym, ◌∙◌, subst, Start, node_of_number, number_inside, number_word, few_nodes, held_inside, runs_goes}
use Rattle.fx_lasting.proofs.node_lemmas.Labelling.{reads_number_keep}
use Rattle.fx_lasting.proofs.table.LastingTable.compare.Goals as goal

pub number_place-place-requires : goal.number_place-place-requires
number_place-place-requires c = let t = c.args.self.now in let low = held_inside c.requires.at.1 c.requires.holds.1 in omega (arith, low, few_nodes t)

pub load-number-requires : goal.load-number-requires
load-number-requires c =
    let t = c.args.self.now in
    let at = c.requires.at.1 in
    let h = c.requires.holds in (
      c.requires.table,
      number_inside t (held_inside at h.1) c.number_place-place.ensures,
      reads_number_keep _ _ _ _ c.args.node h.0 c.args.seat.now.me _ at.pass h.1 (number_word t c.args.node c.number_place-place.ensures),
    )

pub returns-then-names : goal.returns-then-names
returns-then-names c =
    let read = c.load-number.ensures.2 in
    let yes = c.names.ensures.yes c.if-names.true in
    record {
      table = c.load-number.ensures.0;
      places = read.goes.carried;
      compared = λ f holds. (
        refl,
        (yes.0, sym (read.number f c.args.node holds) ∙ yes.1),
        subst (λ (z : Start). node_of_number z f.number ≡ c.args.node) c.requires.at.1.pass.0 (read.node f c.args.node holds),
        runs_goes read.goes,
      );
    }

pub returns-else-names : goal.returns-else-names
returns-else-names c =
    let read = c.load-number.ensures.2 in
    record {
      table = c.load-number.ensures.0;
      places = read.goes.carried;
      compared = λ f holds. (
        refl,
        λ is. c.names.ensures.no c.if-names.false is.0 (read.number f c.args.node holds ∙ is.1),
        subst (λ (z : Start). node_of_number z f.number ≡ c.args.node) c.requires.at.1.pass.0 (read.node f c.args.node holds),
        runs_goes read.goes,
      );
    }
