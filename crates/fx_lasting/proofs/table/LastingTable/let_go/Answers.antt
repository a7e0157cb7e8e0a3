use Rattle.fx_lasting.proofs.{arith, ◌≡◌, ◌≢◌, ⊎_elim, node_inside, node_word, let_go_inside, still_at_work, runs_goes, runs_one, runs_within}
use Rattle.fx_lasting.proofs.{out_place, out_and_home, goes_out, releases_out}
use Rattle.fx_lasting.proofs.hold_lemmas.LetGoLaws.{letting_go_keeps}
use Rattle.fx_lasting.proofs.table.LastingTable.let_go.Goals as goal

pub fetch_sub-found-requires : goal.fetch_sub-found-requires
fetch_sub-found-requires c =
    let t = c.args.self.now in
    let at = c.requires.at.1 in (
      c.requires.table,
      node_inside t (let_go_inside at c.requires.has) c.node_place-place.ensures,
      letting_go_keeps _ _ _ _ c.args.node c.args.seat.now.me _ at.pass c.requires.has (node_word t c.args.node c.node_place-place.ensures),
    )

pub take_out-requires-clause-at : goal.take_out-requires-clause-at
take_out-requires-clause-at c = let is : c.fetch_sub-found.result ≡ 2 = omega (arith, c.if-found-ne2.false) in
    let out = goes_out c.fetch_sub-found.ensures.2 c.requires.has is in
    (c.requires.at.0, still_at_work c.requires.at.1 (runs_one out.2.stepped))

pub take_out-requires-clause-place : goal.take_out-requires-clause-place
take_out-requires-clause-place c = let is : c.fetch_sub-found.result ≡ 2 = omega (arith, c.if-found-ne2.false) in
    let out = goes_out c.fetch_sub-found.ensures.2 c.requires.has is in (out.1.identity, out_place c.requires.places out.2)

pub returns-clause-owed : goal.returns-clause-owed
returns-clause-owed c works = let is : c.fetch_sub-found.result ≡ 2 = omega (arith, c.if-found-ne2.false) in
    let out = (c.fetch_sub-found.ensures.2.owed c.args.node works).1 is in
    (out.0, c.take_out.ensures.file out.0.identity (out_place c.requires.places out.1), out_and_home out.1 c.take_out.ensures.rests)

pub returns-clause-held : goal.returns-clause-held
returns-clause-held c f has = let is : c.fetch_sub-found.result ≡ 2 = omega (arith, c.if-found-ne2.false) in
    let out = releases_out c.fetch_sub-found.ensures.2 has is in
    (c.take_out.ensures.file f.identity (out_place c.requires.places out), out_and_home out c.take_out.ensures.rests)

pub returns-then-found-ne2-clause-owed : goal.returns-then-found-ne2-clause-owed
returns-then-found-ne2-clause-owed c works = let more : c.fetch_sub-found.result ≢ 2 = c.if-found-ne2.true in
    runs_within (omega arith) (runs_goes ((c.fetch_sub-found.ensures.2.owed c.args.node works).0 more))

pub returns-then-found-ne2-clause-held : goal.returns-then-found-ne2-clause-held
returns-then-found-ne2-clause-held c f has = let more : c.fetch_sub-found.result ≢ 2 = c.if-found-ne2.true in ⊎_elim
    (λ yields. runs_within (omega arith) (runs_goes ((c.fetch_sub-found.ensures.2.yielded f c.args.node yields).0 more)))
    (λ counts. runs_within (omega arith) (runs_goes ((c.fetch_sub-found.ensures.2.counted f c.args.node counts).0 more))) has
