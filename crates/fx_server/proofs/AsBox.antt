-- The handle, the place and the parts of its box own what a box of a worker owns.
use Rattle.fx_server.proofs.Words.{Some, Lender, Move}
use mir.Syntax.{impl, tnil, dnil}
use mathlib.Core.List.{[]}
use mathlib.Core.Path.{◌≡◌, refl}
use Rattle.std_alloc.proofs.BoxSteps.Form.{Bx}
use Rattle.std_heap.specs.contracts.GlobalAllocator.TheImpl.{ghosts, dict}
use Rattle.fx_server.specs.Lending.{with_worker}
use Rattle.std_heap.specs.contracts.Global as Heap
use Rattle.std_heap.proofs.Global.TheLaws as heap
use Rattle.fx_box.specs.contracts.BoxParts as Parts
use Rattle.fx_server.specs.contracts.worker.TableWorker as TableWorker
use Rattle.fx_server.proofs.worker.TableWorker.TheLaws as worker
use Rattle.fx_server.specs.contracts.handle.Handle as Handle
use Rattle.fx_server.specs.contracts.handle.WorkerPlace as WorkerPlace

abbrev pub E : Bx
E = record { row = TableWorker.the_row; laws = worker.the_row_laws; al = record { row = Heap.the_row; laws = heap.the_row_laws; g = ghosts; d = dict; drops = impl [] tnil dnil } }

-- a handle becomes the parts of its box
abbrev pub to_parts : Move E
to_parts = record {
  From = Handle.the_row;
  boxed = λ h. record { ptr = h.ptr; alloc = h.alloc; value = h.worker };
  takes = λ h us. refl;
  To = Parts.the_row TableWorker.the_row Heap.the_row ghosts;
  made = λ h. record { ptr = h.ptr; alloc = h.alloc; value = h.worker };
  gives = λ h us. refl;
  Ensures = λ h made. made.value ≡ h.worker;
  holds = λ h. refl;
  quiet = λ h f. refl;
}

-- the parts of a box become a place
abbrev pub to_place : Move E
to_place = record {
  From = Parts.the_row TableWorker.the_row Heap.the_row ghosts;
  boxed = λ parts. record { ptr = parts.ptr; alloc = parts.alloc; value = parts.value };
  takes = λ parts us. refl;
  To = WorkerPlace.the_row;
  made = λ parts. record { ptr = parts.ptr; alloc = parts.alloc; worker = Some parts.value };
  gives = λ parts us. refl;
  Ensures = λ parts made. made.worker ≡ Some parts.value;
  holds = λ parts. refl;
  quiet = λ parts f. refl;
}

-- a handle lends its worker
abbrev pub lender : Lender E
lender = record {
  row = Handle.the_row;
  boxed = λ h. record { ptr = h.ptr; alloc = h.alloc; value = h.worker };
  put = with_worker;
  takes = λ h us. refl;
  gives = λ h w us. refl;
  lies = λ w b o. refl;
}
