use Rattle.fx_chain.proofs.Words.{rules, ◌≡◌, ◌<◌, ◌+◌, ◌++◌, ◌∷◌, [], length, take, sym, refl, ◌∙◌, append_assoc, arith, append-nil, map-append}
use Rattle.fx_chain.proofs.Words.{size_of, completed_of, all_completed, first_member, Asked, asked_of, all_asked, installs_of, weight_of, looks_least}
use Rattle.fx_chain.proofs.Words.{numbers_least}
use Rattle.fx_chain.proofs.ActsInTurn.{so_nothing}
use Rattle.fx_chain.proofs.ChainGoesOn.{asked_more, asked_length, any_severs-push, answers_next, explained_count, weighs_from}
use Rattle.fx_chain.proofs.player.run_chain.Goals as goal

pub loop-i-init : goal.loop-i-init
loop-i-init g c =
    let seen = (g.met.T.FileTable g.world.𝓛 g.world.𝓜 g.world.𝓡 ((λ s x. x), (λ x. x), (λ x. x), λ x. x)).fronts _ _ c.requires.fits in
    record {
      kept = (refl, refl, c.requires.fits);
      idle = c.requires.idle;
      looks = search rules;
      numbers = c.requires.numbers;
      room = c.requires.room;
      count = search rules;
      capacity = search rules;
      done = ([], sym (append-nil (all_completed c.args.out.now.items)), refl, so_nothing _ seen c.requires.idle (refl, refl));
    }

pub loop-i-preserved : goal.loop-i-preserved
loop-i-preserved g c =
    let i = c.loop-i.invariant in
    let requests = c.args.requests.now in
    let x = c.index-requests-i.result in
    let ensures = c.next_answer-completion.ensures in
    let inside : c.loop-i.i < length requests = rw c.members-count.ensures at c.loop-i-test.true in
    let (cs, out_is, severed_is, plays) = i.done in
    let o = g.T.FileTable.opening c.args.table.now in
    let first = first_member c.args.submission c.args.chain in
    let n = c.loop-i.i in
    let asked = all_asked (take n requests) in
    let done = completed_of c.next_answer-completion.result in
    let count : length asked ≡ n = asked_length requests n (omega arith) in
    let front : all_asked (take (n + 1) requests) ≡ asked ++ asked_of x ∷ [] = asked_more requests n x inside c.index-requests-i.is in
    let answered = ensures.answered in
    let next = answers_next o c.args.catalogue.now first asked (asked_of x) cs done (n + 1) (omega arith) plays (rw severed_is at answered) in
    let as_many = explained_count c.args.catalogue.now (size_of o) first asked plays.actions cs plays.says in
    let installs = weighs_from (λ (r : Asked). installs_of r.operation) requests n x inside c.index-requests-i.is in
    let room = weighs_from (λ (r : Asked). weight_of r.operation) requests n x inside c.index-requests-i.is in
    record {
      kept = (ensures.kept.0 ∙ i.kept.0, ensures.kept.1 ∙ i.kept.1, ensures.kept.2);
      idle = answered.acts.adds.now;
      looks = omega (arith, looks_least answered.acts.adds);
      numbers = omega (arith, numbers_least answered.acts.adds);
      room = omega arith;
      count = search rules;
      capacity = search rules;
      done = (
        cs ++ done ∷ [],
        rw (c.push_reserved.ensures.items, map-append, out_is, append_assoc),
        rw (front, any_severs-push asked cs (asked_of x) done as_many, severed_is, c.severs-severed.ensures),
        rw front next,
      );
    }
