-- The names of other crates that definitions and clauses here use, passed on from one place.
pub use Rattle.std.specs.Prelude.{ℕ, pos, List, [], length, slice_get, Option, Some, None, Result}
pub use Rattle.std.specs.Prelude.{Ok, Err, take, map, filter, All, Contains, IsTrue, Any, OnOk}
pub use Rattle.std.specs.Prelude.{string_bytes, IfOk, OnErr, false, IfNone, IfSome, not}
pub use Rattle.std.specs.Global.{Vec}
pub use Rattle.std.specs.List.{AllZip, AllByRecursion, list_any}
pub use Rattle.fx_base.specs.Identity.{Identity}
pub use Rattle.fx_base.specs.declared.open_file.Closed.{Closed}
pub use Rattle.fx_chain.specs.Completed.{Completed, completed, completed_of, next_member}
pub use Rattle.fx_chain.specs.Completed.{all_completed, negated, refusal}
pub use Rattle.fx_chain.specs.Intents.{answer_at_table, intents_of, positions_of, InstallsAt}
pub use Rattle.fx_chain.specs.Intents.{IsOpened, bytes_asked}
pub use Rattle.fx_chain.specs.Operation.{operation_of, Asked, Operation, asked_of, all_asked}
pub use Rattle.fx_chain.specs.declared.completion.Place.{Place}
pub use Rattle.fx_order.specs.Access.{IsOf, file_removed_by, accesses_of_chain, finding_of}
pub use Rattle.fx_order.specs.Access.{last_finding, accesses_of, Table, IsInRange, PermitsAll}
pub use Rattle.fx_order.specs.Access.{table_after, files_removed_in}
pub use Rattle.fx_order.specs.declared.access.Access.{Access}
pub use Rattle.fx_order.specs.declared.access.ChainAccess.{ChainAccess}
pub use Rattle.check_search.specs.Residents.{IsResident}
pub use Rattle.check_search.specs.declared.claim.Leaves.TheVariants.{Same, Empty, File}
pub use Rattle.check_search.specs.declared.claim.Claim.{Claim}
pub use Rattle.std.specs.Bool.{MatchBool}
pub use Rattle.fx_base.specs.Catalogue.{FileEntry, IsCatalogue, name_at}
pub use Rattle.fx_chain.specs.Explains.{canceled, first_member, severs}
pub use Rattle.fx_order.specs.Requests.{AreChainsDone, IsChainDone, IsRequestDone}
pub use Rattle.fx_ring.specs.Ring.{RingContents, RingState, new_ring, ring_of, HasCounted, IsRing}
pub use Rattle.fx_language.specs.Instruction.{Instruction, SubmitsAll, instruction_of}
pub use Rattle.fx_language.specs.Instruction.{instructions_of}
pub use Rattle.fx_script.specs.Play.{IsText, Prints, PrintsAll, IsNewRing, PrintsEnd}
pub use Rattle.fx_language.specs.Script.{Meaning, AreFiles}
pub use Rattle.check_lines.specs.Lines.{HasNoCloses, lines_of, IsMarkInRange, named_close}
pub use Rattle.check_lines.specs.Lines.{named_closes}
pub use Rattle.fx_order.specs.declared.listed_order.Order.{Order}
pub use Rattle.check_lines.specs.InRange.{AreInRange, IsFileInRange}
pub use Rattle.fx_plain.specs.declared.table.TheConstants.{MOST_SLOTS}
pub use Rattle.fx_order.specs.declared.ring_slots.RingSlots.{RingSlots}
pub use Rattle.fx_ring.specs.declared.ring.TheConstants.{MOST_REGISTRATIONS, MOST_SUBMISSIONS}
pub use Rattle.fx_order.specs.Slots.{ring_with_slots, table_of_slots}
pub use Rattle.fx_chain.specs.Runs.{runs_of}
pub use Rattle.fx_order.specs.Order.{IsOrderOf, ring_left, IsOneOrder}
pub use Rattle.fx_ring.specs.Submission.{IsOneHistory, Reported}
pub use Rattle.fx_order.specs.declared.listed_order.AccessPlace.{AccessPlace}
pub use Rattle.check_search.specs.AtSlots.{has_slot, keeps}
pub use Rattle.fx_base.specs.CloseList.{IsInOrderOfMark}
pub use Rattle.fx_chain.specs.Accepted.{IsWithinLimits, IsChain, members_of, IsAccepted}
pub use Rattle.fx_base.specs.declared.errno.Errno.TheVariants.{ENOMEM}
