-- A machine at a pointer may go to another thread.
use mir.Raw.{raw}
use base.Shift.{Keyless}
use denote.Memory.{lone}
use denote.RawPtr.{Ptr}
use Rattle.std.specs.Prelude.{Option, Some, None}
use Rattle.std_alloc.proofs.SendSync.{lies}
use Rattle.std.proofs.Crossing.{frees}
use Rattle.fx_direct.proofs.slots.DirectSlots.TheSendSync as slots
use Rattle.fx_direct_c.specs.MachineMemory.{machine_heap, machine_owns, machine_place_owns}
use Rattle.fx_direct.specs.contracts.slots.DirectSlots.{the_row as W}
use Rattle.fx_direct.specs.declared.slots.DirectSlots.{DirectSlots}

pub at_handle : (p : Ptr) (w : DirectSlots) → Keyless (machine_owns p w)
at_handle p w = (lies W slots.the_send p w, frees.frees machine_heap (raw (lone W.mir)) p)

pub at_place : (p : Ptr) (w : Option DirectSlots) → Keyless (machine_place_owns p w)
at_place p None = tt
at_place p (Some w) = at_handle p w
