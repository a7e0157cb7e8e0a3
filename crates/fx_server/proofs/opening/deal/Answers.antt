use Rattle.fx_server.proofs.{arc_value, ◌≡◌, [], ◌∷◌, None, Some, ap, ◌∙◌, arith, length, length-append, TableWorker, All-pop, IsReady, first_numbers}
use Rattle.fx_server.proofs.{all_pushed, dealt_one, in_places}
use Rattle.fx_server.proofs.opening.deal.Goals as goal

pub loop-pass-preserved : goal.loop-pass-preserved
loop-pass-preserved c =
    let was = c.loop-pass.invariant in
    let pushed = c.in-Ok-push.ensures.items in
    record {
      shares = all_pushed (λ (w : TableWorker). w.shared ≡ arc_value c.args.shared) _ _ c.in-Ok.worker pushed was.shares (rw (← was.same) c.in-Ok.ensures.table);
      idle = all_pushed (λ (w : TableWorker). w.held ≡ None) _ _ c.in-Ok.worker pushed was.idle c.in-Ok.ensures.idle;
      ready = (All-pop (IsReady (arc_value c.args.shared).table) _ _ (Some c.in-Some.pass) c.in-Some.ensures.items was.ready).0;
      same = was.same;
      numbers = in_places (λ (w : TableWorker). w.numbers) (first_numbers c.args.installing) 1 _ _ c.in-Ok.worker pushed
          (c.in-Ok.ensures.numbers ∙ (c.first-numbers.ensures ∙ ap (first_numbers c.args.installing) (omega (arith, c.len.ensures, was.count, c.requires.few))))
          was.numbers;
      count = omega (
        arith,
        was.count,
        ap length pushed,
        length-append c.loop-pass.workers.items (c.in-Ok.worker ∷ []),
        ap length c.in-Some.ensures.items,
        length-append c.pop.new.self.items (c.in-Some.pass ∷ []),
      );
      passes = dealt_one _ _ c.in-Ok.worker _ _ c.in-Some.pass _ pushed c.in-Some.ensures.items c.in-Ok.ensures.pass was.passes;
    }

pub begin-requires : goal.begin-requires
begin-requires c = record {
  ready = (All-pop (IsReady (arc_value c.args.shared).table) _ _ (Some c.in-Some.pass) c.in-Some.ensures.items c.loop-pass.invariant.ready).1;
}
