-- The names of other crates that definitions and clauses here use, passed on from one place.
pub use Rattle.std.specs.Prelude.{ℕ, ℤ, pos, negsuc, Bool, true, false, slice_index_or, None}
pub use Rattle.std.specs.Prelude.{nat_lt, List, length, not, Option, Some, slice_get, IfSome}
pub use Rattle.std.specs.Prelude.{IsTrue, zero, suc, nat_le, option_map, [], take, replicate}
pub use Rattle.std.specs.Prelude.{option_and_then, All, map, IfOk, Contains}
pub use Rattle.fx_base.specs.Identity.{Identity}
pub use Rattle.fx_chain.specs.declared.intent.Intent.{Intent}
pub use Rattle.fx_chain.specs.declared.intent.Intent.TheVariants.{Allocate, Look, Clear, Take}
pub use Rattle.check_certificate.specs.declared.certificate.OnlyFile.{OnlyFile}
pub use Rattle.check_certificate.specs.declared.certificate.OnlyFile.TheVariants.{Nothing}
pub use Rattle.check_certificate.specs.declared.certificate.OnlyFile.TheVariants.{PutBefore}
pub use Rattle.check_certificate.specs.declared.certificate.OnlyFile.TheVariants.{GoneAfter}
pub use Rattle.check_certificate.specs.declared.certificate.Holding.{Holding}
pub use Rattle.check_certificate.specs.declared.certificate.Point.{Point}
pub use Rattle.check_certificate.specs.declared.certificate.Point.TheVariants.{Gone, Event}
pub use Rattle.check_certificate.specs.declared.evidence.Evidence.{Evidence}
pub use Rattle.check_certificate.specs.declared.evidence.Evidence.TheVariants.{Removes, Sees, Full}
pub use Rattle.check_certificate.specs.declared.evidence.Evidence.TheVariants.{Empties, Installs}
pub use Rattle.check_certificate.specs.declared.evidence.Evidence.TheVariants.{Never}
pub use Rattle.fx_base.specs.declared.errno.Errno.TheVariants.{ECANCELED, ENOMEM}
pub use Rattle.fx_base.specs.Catalogue.{FileEntry, IsCatalogue}
pub use Rattle.fx_chain.specs.Completed.{Completed, is_error, refusal, completed_of}
pub use Rattle.fx_chain.specs.Intents.{is_read, bytes_read, intent_by, opened_by, IsIntent}
pub use Rattle.fx_chain.specs.Intents.{positions_of}
pub use Rattle.fx_chain.specs.MayAnswer.{may_answer, is_count}
pub use Rattle.fx_chain.specs.Operation.{Asked, Operation, asked_of, operation_of, all_asked}
pub use Rattle.fx_flight.specs.Events.{Happening, Called, Answered, LookCalled, LookAnswered}
pub use Rattle.fx_flight.specs.Events.{all_happenings, first_of_call, Freed, FileClosed, AllSettled}
pub use Rattle.fx_flight.specs.Events.{happening_of}
pub use Rattle.check_certificate.specs.declared.certificate.PointOrder.{PointOrder}
pub use Rattle.fx_order.specs.Access.{Table, Permits, table_with, IsOf}
pub use Rattle.fx_order.specs.declared.access.Access.TheVariants.{FindsFull, Looks, Takes, Clears}
pub use Rattle.fx_order.specs.declared.access.Access.TheVariants.{Puts, Allocates}
pub use Rattle.fx_flight.specs.Flight.{IsLookDone, IsLegalLog, Moment, made_by, Logged, Accesses}
pub use Rattle.fx_flight.specs.Flight.{WasLogged, log_of, table_left_by, FlightSetting}
pub use Rattle.std.specs.List.{list_all, list_any}
pub use Rattle.fx_base.specs.declared.mark.Mark.{Mark}
pub use Rattle.fx_base.specs.declared.mark.Mark.TheVariants.{Registered, Submitted}
pub use Rattle.fx_order.specs.Slots.{ring_of_slots}
pub use Rattle.fx_flight.specs.Faults.{IsFaultless}
pub use Rattle.std.specs.Option.{is_some, option_eq}
pub use Rattle.fx_chain.specs.declared.completion.Place.{Place}
pub use Rattle.check_certificate.specs.declared.walk.MemberAccess.{MemberAccess}
pub use Rattle.check_certificate.specs.declared.walk.Landing.{Landing}
pub use Rattle.check_certificate.specs.declared.walk.Leaving.{Leaving}
pub use Rattle.fx_flight.specs.declared.event.LogEvent.{LogEvent}
pub use Rattle.fx_order.specs.declared.slots.Slots.{Slots}
pub use Rattle.check_certificate.specs.declared.supposed.KnownOrders.{KnownOrders}
pub use Rattle.fx_order.specs.Requests.{IsRequestDone}
pub use Rattle.check_certificate.specs.declared.walk.WalkAim.{WalkAim}
pub use Rattle.check_certificate.specs.declared.walk.WalkAim.TheVariants.{Leaves, Lands, Misses}
