-- The names of other crates that definitions and clauses here use, passed on from one place.
pub use Rattle.std.specs.Prelude.{ℕ, nat_le, List, length, map, take, IfSome, [], drop, Bool}
pub use Rattle.std.specs.Prelude.{Contains, Option, slice_index_or, true, nat_eq, IsTrue, None}
pub use Rattle.std.specs.Prelude.{Some, All, IfOk, IsPermutation, slice_set}
pub use Rattle.fx_base.specs.Catalogue.{FileEntry, IsCatalogue}
pub use Rattle.fx_base.specs.Identity.{Identity}
pub use Rattle.fx_chain.specs.Operation.{Asked, all_asked, asked_of}
pub use Rattle.fx_order.specs.Access.{Permits, Table, file_removed_by, table_with}
pub use Rattle.fx_order.specs.Access.{accesses_of_chain}
pub use Rattle.fx_order.specs.Slots.{table_of_slots, ring_of_slots}
pub use Rattle.fx_order.specs.declared.access.Access.{Access}
pub use Rattle.fx_order.specs.declared.access.Access.TheVariants.{Looks}
pub use Rattle.check_outcomes.specs.Rests.{IsNext, Rest, Rules, over, rules_of, step, HasMemory}
pub use Rattle.check_outcomes.specs.Rests.{settled_at}
pub use Rattle.check_outcomes.specs.Stands.{rest_in, HasEachNext, StepsChain}
pub use Rattle.check_outcomes.specs.Views.{not_begun, run_at}
pub use Rattle.fx_flight.specs.Events.{Happening, all_happenings, first_of_call, AllSettled, Called}
pub use Rattle.fx_flight.specs.Events.{LookCalled, LookAnswered, Freed, FileClosed, Answered}
pub use Rattle.fx_flight.specs.Events.{happening_of}
pub use Rattle.fx_flight.specs.Whole.{IsLegalBy, IsBetweenMembers, IsWholeIf}
pub use Rattle.fx_ring.specs.Ring.{RingState}
pub use Rattle.check_flight.specs.declared.state.WaitingLook.{WaitingLook}
pub use Rattle.fx_order.specs.declared.slots.Slots.{Slots}
pub use Rattle.check_flight.specs.declared.verdict.FlightVerdict.TheVariants.{Faulty, Legal}
pub use Rattle.check_flight.specs.declared.verdict.FlightVerdict.TheVariants.{NotLegal, Undecided}
pub use Rattle.indexmap.specs.IndexSet.{IndexSet, contains, IsEmpty}
pub use Rattle.fx_chain.specs.Completed.{Completed, all_completed, completed_of}
pub use Rattle.fx_order.specs.Order.{table_of}
pub use Rattle.fx_flight.specs.Flight.{IsFlight, IsLookDone, Moment, WasLogged, log_of, made_by}
pub use Rattle.fx_flight.specs.Flight.{FlightSetting, table_left_by, taken_in, IsLegalLog}
pub use Rattle.fx_flight.specs.Flight.{HasFlight}
pub use Rattle.check_flight.specs.declared.player.HeldFile.{HeldFile}
pub use Rattle.check_flight.specs.declared.plan.CallPlan.{CallPlan}
pub use Rattle.check_reason.specs.declared.reason.LogReason.{LogReason}
pub use Rattle.fx_chain.specs.Accepted.{IsWithinLimits}
pub use Rattle.std.specs.Option.{option_to_list}
