-- A handle lends its machine.
use Rattle.std.specs.Borrow.{Lends, MutBor, Fml}
use Rattle.fx_direct_c.specs.declared.handle.MachineHandle.{MachineHandle}
use Rattle.fx_direct.specs.declared.slots.DirectSlots.{DirectSlots}
use Rattle.fx_direct_c.specs.contracts.handle.MachineHandle.{the_row}
use Rattle.fx_direct.specs.contracts.slots.DirectSlots as slots

-- the handle of this machine at the same pointer
abbrev pub with_slots : MachineHandle → DirectSlots → MachineHandle
with_slots h w = record h { slots = w }

-- the handle ends with the last value of the machine that r lends
abbrev pub LendsSlots : MutBor MachineHandle → MutBor DirectSlots → Fml
LendsSlots h r = Lends the_row slots.the_row h r (with_slots h.now)
