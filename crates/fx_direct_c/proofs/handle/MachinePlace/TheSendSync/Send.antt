-- A place may go to another thread, with the machine that it owns.
use denote.Param.Send.{IsSend, owning_send, sendable}
use Rattle.fx_direct_c.proofs.Sending.{at_place}
use Rattle.fx_direct_c.specs.contracts.handle.MachinePlace.{the_row, the_type}

pub send : IsSend the_row
send = owning_send the_type (search sendable, (search sendable, tt)) (λ d. at_place d.ptr d.slots) (λ k x w. tt)
