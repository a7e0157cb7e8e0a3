-- The handle, the place and the parts of its box own what a box of a machine owns.
use mir.Syntax.{impl, tnil, dnil}
use mathlib.Core.List.{[]}
use mathlib.Core.Path.{◌≡◌, refl}
use Rattle.std.specs.Prelude.{Some}
use Rattle.std_alloc.proofs.BoxSteps.Form.{Bx}
use Rattle.std_heap.specs.contracts.Global as Heap
use Rattle.std_heap.specs.contracts.GlobalAllocator.TheImpl.{ghosts, dict}
use Rattle.std_heap.proofs.Global.TheLaws as heap
use Rattle.fx_box.proofs.Lends.{Lender}
use Rattle.fx_box.proofs.Moves.{Move}
use Rattle.fx_box.specs.contracts.BoxParts as Parts
use Rattle.fx_direct.specs.contracts.slots.DirectSlots as DirectSlots
use Rattle.fx_direct.proofs.slots.DirectSlots.TheLaws as slots
use Rattle.fx_direct_c.specs.Lending.{with_slots}
use Rattle.fx_direct_c.specs.contracts.handle.MachineHandle as MachineHandle
use Rattle.fx_direct_c.specs.contracts.handle.MachinePlace as MachinePlace

abbrev pub E : Bx
E = record { row = DirectSlots.the_row; laws = slots.the_row_laws; al = record { row = Heap.the_row; laws = heap.the_row_laws; g = ghosts; d = dict; drops = impl [] tnil dnil } }

-- a handle becomes the parts of its box
abbrev pub to_parts : Move E
to_parts = record {
  From = MachineHandle.the_row;
  boxed = λ h. record { ptr = h.ptr; alloc = h.alloc; value = h.slots };
  takes = λ h us. refl;
  To = Parts.the_row DirectSlots.the_row Heap.the_row ghosts;
  made = λ h. record { ptr = h.ptr; alloc = h.alloc; value = h.slots };
  gives = λ h us. refl;
  Ensures = λ h made. made.value ≡ h.slots;
  holds = λ h. refl;
  quiet = λ h f. refl;
}

-- the parts of a box become a place
abbrev pub to_place : Move E
to_place = record {
  From = Parts.the_row DirectSlots.the_row Heap.the_row ghosts;
  boxed = λ parts. record { ptr = parts.ptr; alloc = parts.alloc; value = parts.value };
  takes = λ parts us. refl;
  To = MachinePlace.the_row;
  made = λ parts. record { ptr = parts.ptr; alloc = parts.alloc; slots = Some parts.value };
  gives = λ parts us. refl;
  Ensures = λ parts made. made.slots ≡ Some parts.value;
  holds = λ parts. refl;
  quiet = λ parts f. refl;
}

-- a handle lends its machine
abbrev pub lender : Lender E
lender = record {
  row = MachineHandle.the_row;
  boxed = λ h. record { ptr = h.ptr; alloc = h.alloc; value = h.slots };
  put = with_slots;
  takes = λ h us. refl;
  gives = λ h w us. refl;
  lies = λ w b o. refl;
}
