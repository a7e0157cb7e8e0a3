use Rattle.fx_ring.proofs.Words.{◌≡◌, ◌-◌, number_of_worker, IsReadyFor}
use Rattle.fx_ring.proofs.worker.work.Given as goal

abbrev pub invariant-loop-chain : goal.invariant-loop-chain
invariant-loop-chain g l = record {
  ready : IsReadyFor l.play l.worker;
  number : number_of_worker g.T.FileTable.view l.worker ≡ number_of_worker g.T.FileTable.view l.initial.worker;
}

abbrev pub decreases-loop-chain : goal.decreases-loop-chain
decreases-loop-chain g l = (g.T.FileTable.opening l.play.table.now).chains - (g.T.FileTable.view l.worker.pass).chain
