-- A handle may go to another thread, as its worker may.
use Rattle.fx_server.proofs.Words.{IsSend, owning_send, sendable}
use Rattle.fx_server.proofs.Sending.{at_handle}
use Rattle.fx_server.specs.contracts.handle.Handle.{the_row, the_type}

pub send : IsSend the_row
send = owning_send the_type (search sendable, (search sendable, tt)) (λ d. at_handle d.ptr d.worker) (λ k x w. tt)
