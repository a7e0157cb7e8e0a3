use Rattle.check_judge.proofs.{◌≡◌, Option, Some, slice_index_or, take_more, Registered, Closed, map_push, close_at}
use Rattle.check_judge.proofs.recorded.files_recorded.Goals as goal

any : Closed
any = record { mark = Registered 0 0; entry = 0; tag = 0 }

pub returns-in_default-clause-only : goal.returns-in_default-clause-only
returns-in_default-clause-only c = λ apart others each same.
    let at = close_at c.args.catalogue.now others c.args.lines.now any same c.loop-i-test.true c.index-lines-i.is in
    let recorded = c.in_default.ensures.only apart (slice_index_or others c.loop-i.i any) (each c.loop-i.i any at.0) at.1 in
    let none = c.in_default.is in
    cc

pub loop-i-preserved : goal.loop-i-preserved
loop-i-preserved c = record {
  recorded = rw (
    c.in_ok-push.ensures.items,
    map_push,
    c.loop-i.invariant.recorded,
    c.in-Some.ensures.recorded,
    c.index-lines-i.is,
    take_more c.args.lines.now c.loop-i.i c.index-lines-i.result c.loop-i-test.true,
    map_push,
  );
  only = λ apart others each same.
      let i = c.loop-i.i in
      let at = close_at c.args.catalogue.now others c.args.lines.now any same c.loop-i-test.true c.index-lines-i.is in
      let recorded : ◌≡◌ {A = Option Closed} (Some c.in-Some.file) (Some (slice_index_or others i any)) =
      c.in-Some.ensures.only apart (slice_index_or others i any) (each i any at.0) at.1 in
      let file : c.in-Some.file ≡ slice_index_or others i any = cc in
      rw (c.in_ok-push.ensures.items, c.loop-i.invariant.only apart others each same, file, take_more others i any at.0);
}
