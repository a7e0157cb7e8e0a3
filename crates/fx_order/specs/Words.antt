-- The names of other crates that definitions and clauses here use, passed on from one place.
pub use Rattle.std.specs.Prelude.{ℕ, List, [], map, filter, Option, Some, None, IsSome, length}
pub use Rattle.std.specs.Prelude.{slice_get, Contains, All, MatchOption, slice_index_or, IfOk}
pub use Rattle.std.specs.Prelude.{IsTrue, IfNone, IfSome, IsPermutation, OnErr, false, drop, take}
pub use Rattle.fx_base.specs.Identity.{Identity}
pub use Rattle.fx_base.specs.declared.open_file.Closed.{Closed}
pub use Rattle.fx_order.specs.declared.access.Access.{Access}
pub use Rattle.fx_order.specs.declared.access.ChainAccess.{ChainAccess}
pub use Rattle.fx_base.specs.Catalogue.{IsCatalogue, FileEntry}
pub use Rattle.fx_chain.specs.Accepted.{IsAccepted, IsWithinLimits, IsChain, members_of}
pub use Rattle.fx_chain.specs.Operation.{Asked, Operation, all_asked, asked_of, operation_of}
pub use Rattle.fx_chain.specs.Runs.{runs_of}
pub use Rattle.fx_chain.specs.declared.completion.Place.{Place}
pub use Rattle.fx_ring.specs.Ring.{RingContents, RingState, IsRing, ring_of, HasClosed}
pub use Rattle.fx_ring.specs.Submission.{IsOneHistory, Reported, reported}
pub use Rattle.std.specs.List.{AllZip}
pub use Rattle.fx_base.specs.declared.errno.Errno.TheVariants.{ENOMEM, ENOENT}
pub use Rattle.fx_chain.specs.Completed.{Completed, refusal, next_member, all_completed}
pub use Rattle.fx_chain.specs.Completed.{completed_of}
pub use Rattle.fx_chain.specs.Explains.{canceled, first_member, severs}
pub use Rattle.fx_chain.specs.Intents.{IsOpened, answer_at_table, bytes_asked, intents_of}
pub use Rattle.fx_chain.specs.Intents.{positions_of}
pub use Rattle.fx_chain.specs.Refusal.{refusal_of}
pub use Rattle.fx_order.specs.declared.slots.Slots.{Slots}
