use Rattle.fx_server.proofs.Words.{◌≡◌, ◌∙◌, length, rules, length-set}
use Rattle.fx_server.proofs.FromEnd.{left_one, placed_one}
use Rattle.fx_server.proofs.placing.place_all.Goals as goal

pub loop-worker-preserved : goal.loop-worker-preserved
loop-worker-preserved c =
    let was = c.loop-worker.invariant in
    let all = c.args.workers.items in let items = c.loop-worker.workers.items in let less = c.pop.new.self.items in
    let at : c.len.result ≡ length less = search rules in
    record {
      count = length-set c.loop-worker.places c.len.result c.of.result ∙ was.count;
      left = left_one all items less c.in-Some.worker was.left c.in-Some.ensures.items;
      placed = rw at (placed_one c.loop-worker.places c.of.result all items less c.in-Some.worker was.left c.in-Some.ensures.items was.count c.of.ensures was.placed);
    }
