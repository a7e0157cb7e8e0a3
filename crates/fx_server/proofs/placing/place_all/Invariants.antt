use Rattle.fx_server.proofs.Words.{◌≡◌, Some, drop, length, map, take, workers_in, workers_at}
use Rattle.fx_server.proofs.placing.place_all.Given as goal

-- the last places have their workers
abbrev pub invariant-loop-worker : goal.invariant-loop-worker
invariant-loop-worker l = record {
  count : length l.places ≡ length l.fn.workers.items;
  left : l.workers.items ≡ take (length l.workers.items) l.fn.workers.items;
  placed : drop (length l.workers.items) (workers_at l.places) ≡ map Some (workers_in (drop (length l.workers.items) l.fn.workers.items));
}

abbrev pub decreases-loop-worker : goal.decreases-loop-worker
decreases-loop-worker l = length l.workers.items
