-- A worker at a pointer may go to another thread.
use Rattle.fx_server.proofs.Words.{Option, Some, None}
use mir.Raw.{raw}
use base.Shift.{Keyless}
use denote.Memory.{lone}
use denote.RawPtr.{Ptr}
use Rattle.std_alloc.proofs.SendSync.{lies}
use Rattle.std.proofs.Crossing.{frees}
use Rattle.fx_server.specs.Handle.{heap, handle_owns, place_owns}
use Rattle.fx_server.specs.contracts.worker.TableWorker.{the_row as W}
use Rattle.fx_server.specs.declared.worker.TableWorker.{TableWorker}
use Rattle.fx_server.proofs.worker.TableWorker.TheSendSync as worker

pub at_handle : (p : Ptr) (w : TableWorker) → Keyless (handle_owns p w)
at_handle p w = (lies W worker.the_send p w, frees.frees heap (raw (lone W.mir)) p)

pub at_place : (p : Ptr) (w : Option TableWorker) → Keyless (place_owns p w)
at_place p None = tt
at_place p (Some w) = at_handle p w
