-- The names of other crates that definitions and clauses here use, passed on from one place.
pub use Rattle.std.specs.Prelude.{ℕ, List, map, Option, nat_le, Bool, true, false, [], length}
pub use Rattle.std.specs.Prelude.{slice_get, slice_set, Some, None, take, Contains, IsTrue, IfOk}
pub use Rattle.fx_base.specs.Identity.{Identity}
pub use Rattle.fx_chain.specs.Completed.{Completed, completed_of}
pub use Rattle.fx_chain.specs.Explains.{first_member}
pub use Rattle.fx_chain.specs.Operation.{Asked, all_asked}
pub use Rattle.fx_chain.specs.declared.completion.Place.{Place}
pub use Rattle.std.specs.List.{list_all, AllByRecursion}
pub use Rattle.fx_chain.specs.Runs.{runs_of}
pub use Rattle.fx_ring.specs.Ring.{RingState, IsRing}
pub use Rattle.fx_order.specs.Order.{table_of, IsOneOrder}
pub use Rattle.fx_order.specs.Requests.{IsChainDone}
pub use Rattle.fx_order.specs.declared.access.Access.{Access}
