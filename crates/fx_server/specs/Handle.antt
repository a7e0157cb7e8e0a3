-- The memory of a worker that C has.
use base.Fml.{Fml, ftrue}
use base.Stored.{Coded}
use mir.Syntax.{Ty}
use denote.RawPtr.{Ptr}
use Rattle.fx_server.specs.Words.{Option, Some, None, Global}
use Rattle.std.specs.Box.Ownership.{box_owns}
use Rattle.std.specs.Coded.{coded_option}
use Rattle.std_heap.specs.contracts.GlobalAllocator.TheImpl.{ghosts}
use Rattle.fx_server.specs.contracts.worker.TableWorker.{the_row}
use Rattle.fx_server.specs.declared.worker.TableWorker.{TableWorker}

-- the allocator of all workers, whose type has this value alone
abbrev pub heap : Global
heap = record { memory = record { seal = tt } }

-- the right to free memory at a pointer
abbrev pub may_free : Ty → Ptr → Fml
may_free = ghosts.dealloc_token heap

-- the worker lies at the pointer, and who owns it may free its memory: what a box of it owns
abbrev pub handle_owns : Ptr → TableWorker → Fml
handle_owns = box_owns may_free the_row

-- a place for a worker owns nothing, or the worker that lies at its pointer
abbrev pub place_owns : Ptr → Option TableWorker → Fml
place_owns p None = ftrue
place_owns p (Some w) = handle_owns p w

abbrev pub worker_coded : Coded TableWorker
worker_coded = the_row.coded

abbrev pub place_coded : Coded (Option TableWorker)
place_coded = coded_option worker_coded
