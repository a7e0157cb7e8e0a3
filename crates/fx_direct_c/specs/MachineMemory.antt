-- The memory of a machine that C has.
use base.Fml.{Fml, ftrue}
use base.Stored.{Coded}
use mir.Syntax.{Ty}
use denote.RawPtr.{Ptr}
use Rattle.std.specs.Box.Ownership.{box_owns}
use Rattle.std.specs.Prelude.{Option, Some, None}
use Rattle.std.specs.Coded.{coded_option}
use Rattle.std.specs.Global.{Global}
use Rattle.std_heap.specs.contracts.GlobalAllocator.TheImpl.{ghosts}
use Rattle.fx_direct.specs.contracts.slots.DirectSlots.{the_row}
use Rattle.fx_direct.specs.declared.slots.DirectSlots.{DirectSlots}

-- the allocator of all machines, whose type has this value alone
abbrev pub machine_heap : Global
machine_heap = record { memory = record { seal = tt } }

-- the right to free memory at a pointer
abbrev pub may_free_machine : Ty → Ptr → Fml
may_free_machine = ghosts.dealloc_token machine_heap

-- the machine lies at the pointer, and who owns it may free its memory: what a box of it owns
abbrev pub machine_owns : Ptr → DirectSlots → Fml
machine_owns = box_owns may_free_machine the_row

-- a place for a machine owns nothing, or the machine that lies at its pointer
abbrev pub machine_place_owns : Ptr → Option DirectSlots → Fml
machine_place_owns p None = ftrue
machine_place_owns p (Some w) = machine_owns p w

abbrev pub slots_coded : Coded DirectSlots
slots_coded = the_row.coded

abbrev pub machine_place_coded : Coded (Option DirectSlots)
machine_place_coded = coded_option slots_coded
