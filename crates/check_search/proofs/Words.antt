-- The names that most proofs of this crate use.
pub use Rattle.fx_plain.proofs.Cells.{by_equality}
pub use Rattle.check_search.specs.AtSlots.{has_slot, slot_claimed}
pub use Rattle.check_search.specs.Counted.{IsUneven, changes, is_change, to_come}
pub use Rattle.check_search.specs.Dead.{IsHopeless, NoneHelps, no_help}
pub use Rattle.check_search.specs.Machine.{Ends, HasNoEnd, IsEndOfClaims, IsLookedThrough, Standing, StepLeadsInside, allows, cell_at, cell_with}
pub use Rattle.check_search.specs.Machine.{cells_after, claim_at, is_staying, is_test, made, may_find, may_leave, may_stay, next, suits}
pub use Rattle.check_search.specs.Machine.{view, with_cell}
pub use Rattle.check_search.specs.Packed.{all_unpacked, numbered_cells, unpacked}
pub use Rattle.check_search.specs.Starts.{starting}
pub use Rattle.check_search.specs.declared.cell.Cell.{Cell}
pub use Rattle.check_search.specs.declared.claim.Claim.{Claim}
pub use Rattle.check_search.specs.declared.claim.Claim.TheVariants.{At, Full}
pub use Rattle.check_search.specs.declared.claim.Leaves.{Leaves}
pub use Rattle.check_search.specs.declared.claim.Leaves.TheVariants.{Empty, File, Same}
pub use Rattle.check_search.specs.declared.claim.Resident.{Resident}
pub use Rattle.check_search.specs.declared.claim.Condition.{Condition}
pub use Rattle.check_search.specs.declared.node.Packing.{Packing}
pub use Rattle.check_search.specs.declared.claim.Strand.{Strand}
pub use Rattle.std.proofs.Common.{All, Bool, Contains, IsTrue, List, None, Option, Some, [], ap, arith, cond, drop, drop-cons, eq-eqb, false, get_or}
pub use Rattle.std.proofs.Common.{if◌then◌else◌, inl, inr, length, map, not, option_copied, refl, slice_get, slice_index, slice_index_or, slice_set}
pub use Rattle.std.proofs.Common.{subst, suc, sym, take, true, zero, ℕ, ⊎_elim, ◌&&◌, ◌++◌, ◌+◌, ◌<◌, ◌==◌, ◌||◌, ◌∙◌, ◌∷◌, ◌≡◌, ◌≢◌, ◌≤◌, ◌⊎◌}
pub use Rattle.std.proofs.Common.{ne_eqb, rules}
pub use Rattle.std.proofs.lemmas.Bool.{cases_lt, and_parts, true≢false}
pub use Rattle.std.proofs.lemmas.List.{same_lists, get_or-map, get_or-set_other, length-map, length-set, drop_all, set_comm}
pub use Rattle.std.proofs.lemmas.List.Elements.{All-contains, All-map}
pub use Rattle.std.proofs.lemmas.Option.{get_or_from_slice_get, same_Some, slice_get-get_or, slice_get_read, slice_get_within}
pub use Rattle.std.proofs.lemmas.Result.{IfOk-weaker}
pub use Rattle.std.specs.Global.{Vec}
pub use Rattle.std.specs.List.{list_all, list_any, count_by}
pub use Rattle.std.specs.Prelude.{option_and_then, Any}
