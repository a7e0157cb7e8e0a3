-- The names of other crates that definitions and clauses here use, passed on from one place.
pub use Rattle.std.specs.Prelude.{ℕ, List, length, Contains, Option, Some, None, Bool, true, []}
pub use Rattle.std.specs.Prelude.{map, slice_index_or, false, IsTrue, All, IsPermutation}
pub use Rattle.std.specs.Prelude.{option_map, drop, not, IfSome, IfOk, OnOk}
pub use Rattle.fx_base.specs.Catalogue.{FileEntry, IsCatalogue}
pub use Rattle.fx_chain.specs.Completed.{Completed, all_completed, completed_of, negated}
pub use Rattle.fx_chain.specs.Completed.{next_member}
pub use Rattle.fx_chain.specs.Operation.{Operation, Asked, all_asked, operation_of, asked_of}
pub use Rattle.fx_chain.specs.declared.completion.Place.{Place}
pub use Rattle.fx_order.specs.Access.{IsOf, Table, Permits, table_with, file_removed_by, finding_of}
pub use Rattle.fx_order.specs.declared.access.Access.{Access}
pub use Rattle.std.specs.List.{list_all, AllByRecursion}
pub use Rattle.fx_chain.specs.Intents.{is_read, MayReach, answer_of, count_of}
pub use Rattle.std.specs.Global.{Vec}
pub use Rattle.fx_chain.specs.Explains.{first_member, canceled, severs}
pub use Rattle.fx_chain.specs.declared.completion.Completion.{Completion}
pub use Rattle.fx_order.specs.Slots.{ring_of_slots, table_of_slots}
pub use Rattle.fx_order.specs.declared.slots.Slots.{Slots}
pub use Rattle.fx_ring.specs.Ring.{RingContents, RingState, ring_of}
pub use Rattle.fx_ring.specs.Submission.{Reported, IsOneHistory, reported}
pub use Rattle.fx_order.specs.declared.access.ChainAccess.{ChainAccess}
pub use Rattle.fx_chain.specs.Runs.{runs_of}
pub use Rattle.fx_order.specs.Order.{IsOneOrder, table_of, IsOrderOf, ring_left}
pub use Rattle.std.specs.Option.{option_to_list}
pub use Rattle.fx_base.specs.declared.open_file.Closed.{Closed}
pub use Rattle.fx_chain.specs.Accepted.{IsAccepted, IsChain, IsWithinLimits, members_of}
pub use Rattle.fx_plain.specs.declared.table.TheConstants.{MOST_SLOTS}
