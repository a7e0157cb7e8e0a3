use Rattle.fx_ring.proofs.Words.{◌≡◌, ◌≤◌, length, sym, ap, ◌∙◌, arith, PassView, all_asked, runs_of}
use Rattle.fx_ring.specs.declared.play.Play.{Play}
use Rattle.fx_ring.proofs.ChainPlayed.{enough, worked_next, room_next, worked_all}
use Rattle.fx_ring.proofs.CompletionPlaces.{as_many}
use Rattle.fx_ring.proofs.worker.work.Goals as goal

count : {T R G P : Type 0} {t : _} (play : Play T R G P t)
    → (t.opening play.table.now).chains ≡ length (runs_of (all_asked play.submission.now.requests.now))
count play = play.count ∙ sym (as_many play.submission.now.cut)

pub play_chain-requires-clause-enough : goal.play_chain-requires-clause-enough
play_chain-requires-clause-enough g c κs within =
    let drew = c.in-Some.ensures.drawn in
    let left = ap (λ (v : PassView). v.looks_left) drew.3 in
    let is = enough c.loop-chain.invariant.ready.room drew.1 (omega (arith, drew.2, count c.args.play.now)) in
    (omega (arith, is.0, left), is.1, is.2)

pub loop-chain-preserved : goal.loop-chain-preserved
loop-chain-preserved g c =
    let ready = c.loop-chain.invariant.ready in
    let drew = c.in-Some.ensures.drawn in
    let played = c.play_chain.ensures.played in
    let inside : c.in-Some.chain ≤ length (runs_of (all_asked c.args.play.now.submission.now.requests.now)) =
    omega (arith, drew.2, count c.args.play.now) in
    record {
      ready = record {
        between = record {
          fits = c.play_chain.ensures.fits;
          idle = played.2.acts.adds.now;
          worked = worked_next inside drew ready.between.worked played;
        };
        room = room_next inside drew ready.between.worked played ready.room c.play_chain.ensures.capacity;
      };
      number = played.2.acts.adds.number ∙ ap (λ (v : PassView). v.number) drew.3 ∙ c.loop-chain.invariant.number;
    }

pub returns-clause-done : goal.returns-clause-done
returns-clause-done g c =
    let b = c.loop-chain.invariant.ready.between in
    let drawn = c.in_default.ensures.drawn in
    record {
      between = record {
        fits = c.in_default.ensures.fits;
        idle = ap (λ (v : PassView). v.doing) drawn ∙ b.idle;
        worked = worked_all (g.T.FileTable.opening c.args.play.now.table.now) b.worked drawn;
      };
      all_drawn = ap (λ (v : PassView). v.no_chains_left) drawn;
    }
