use Rattle.fx_server.proofs.Words.{◌≡◌, ◌+◌, ◌++◌, All, None, length, map, reverse, arc_value, numbers_of_all, workers_in, TableWorker, IsReady}
use Rattle.fx_server.proofs.opening.deal.Given as goal

-- the workers so far have the first passes, and the others are left, the last one first
abbrev pub invariant-loop-pass : goal.invariant-loop-pass
invariant-loop-pass l = record {
  shares : All (λ (w : TableWorker). w.shared ≡ arc_value l.fn.shared) (workers_in l.workers.items);
  idle : All (λ (w : TableWorker). w.held ≡ None) (workers_in l.workers.items);
  ready : All (IsReady (arc_value l.fn.shared).table) l.passes.items;
  same : l.shared ≡ l.fn.shared;
  numbers : map (λ (w : TableWorker). w.numbers) (workers_in l.workers.items) ≡ numbers_of_all l.fn.installing (length (workers_in l.workers.items));
  count : length l.workers.items + length l.passes.items ≡ length l.fn.passes.items;
  passes : map (λ (w : TableWorker). w.pass) (workers_in l.workers.items) ++ reverse l.passes.items ≡ l.fn.passes.items;
}

abbrev pub decreases-loop-pass : goal.decreases-loop-pass
decreases-loop-pass l = length l.passes.items
