-- A place may go to another thread, with the worker that it owns.
use Rattle.fx_server.proofs.Words.{IsSend, owning_send, sendable}
use Rattle.fx_server.proofs.Sending.{at_place}
use Rattle.fx_server.specs.contracts.handle.WorkerPlace.{the_row, the_type}

pub send : IsSend the_row
send = owning_send the_type (search sendable, (search sendable, tt)) (λ d. at_place d.ptr d.worker) (λ k x w. tt)
