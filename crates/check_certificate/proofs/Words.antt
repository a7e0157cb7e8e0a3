-- The names that most proofs of this crate use.
pub use Rattle.fx_flight.proofs.Words.{Identity, Completed, next_member, canceled, severs, Asked, Place, AllSettled, Answered, Called, FileClosed, []}
pub use Rattle.fx_flight.proofs.Words.{Freed, Happening, LookAnswered, LookCalled, Accesses, IsBegun, IsFlight, MayAccess, Logged, MayFollow, Moment}
pub use Rattle.fx_flight.proofs.Words.{FlightSetting, WasLogged, log_of, made_by, taken_in, table_left_by, IsChainDone, IsRequestDone, Access, List}
pub use Rattle.fx_flight.proofs.Words.{ChainAccess, RingState, contains_cases, contains_head, contains_none, contains_tail, Contains, None, Option, ℕ}
pub use Rattle.fx_flight.proofs.Words.{Some, ap, append_assoc, arith, inl, inr, length, map, refl, rules, subst, suc, sym, take, zero, ⊎_elim, ◌++◌}
pub use Rattle.fx_flight.proofs.Words.{◌+◌, ◌-◌, ◌<◌, ◌∙◌, ◌∷◌, ◌≡◌, ◌≤◌, ◌⊎◌, append-nil, length-append, Contains-append_cases, Contains-append_left}
pub use Rattle.fx_flight.proofs.Words.{Contains-append_right}
pub use Rattle.fx_order.specs.declared.access.Access.TheVariants.{Allocates, Clears, FindsFull, Looks, Puts, Takes}
pub use Rattle.fx_order.proofs.Words.{Table, table_with, file_removed_by, option_to_list, FileEntry, slice_get, slice_index_or, cases_lt, cases_Bool}
pub use Rattle.fx_order.proofs.Words.{true, false, Bool, Submitted, Closed, table_of, by_equality, either_way, either_option, if◌then◌else◌, Permits}
pub use Rattle.fx_order.proofs.Words.{refusal, ECANCELED, Decides, false≢true, last_finding, nat_tests, negsuc, pos, ℤ, Decides-eqb, Decides-like}
pub use Rattle.fx_order.proofs.Words.{nil_from_length, IsOf, AllZip, installed, slice_get_within, take-map}
pub use Rattle.fx_order.proofs.Placed.{Has, placed, placed_by, placed-append, step_from, has_left, has_right, has_either, emptied, left_or_removed}
pub use Rattle.check_certificate.specs.Times.{IsOlderPart, IsPut, IsLeftAt, IsAccessAt, AreAccessTimes, IsEventTime, IsPutTime, IsGoneTime, AreTimes}
pub use Rattle.check_certificate.specs.Times.{IsMemberDoneBy}
pub use Rattle.check_certificate.specs.Absent.{IsAbsent, FindsFile, IsOnlyFile, is_negative, IsEmptyAtFirst, MayInstall, IsInEach}
pub use Rattle.check_certificate.specs.Answers.{IsImpossible, fits_refusal, is_severed}
pub use Rattle.check_certificate.specs.Cut.{asked_by, is_cut_wrongly, is_next}
pub use Rattle.check_certificate.specs.Evidence.{IsAccessMade, IsEventAt, slot_count, IsEvident, left_at, IsShownBy, IsEvidentOf, IsEvidentByLook}
pub use Rattle.check_certificate.specs.Evidence.{IsEvidentByMember, evidence_of}
pub use Rattle.check_certificate.specs.Forced.{TimedFlight, IsForced, IsOfCall, IsContradicted, IsInOrder, gap_of, log_of_beginning, is_of_no_call}
pub use Rattle.check_certificate.specs.Forced.{ring_of_beginning, is_registered}
pub use Rattle.check_certificate.specs.Holds.{first_answer, is_answered_at, shows_absent}
pub use Rattle.check_certificate.specs.Leaves.{is_apart, says}
pub use Rattle.check_certificate.specs.Made.{intended}
pub use Rattle.check_certificate.specs.Right.{known_of, leads_on, nothing, opposite}
pub use Rattle.check_certificate.specs.Said.{Given, given_of, slots_of, event_at, closes_file, frees_look}
pub use Rattle.check_certificate.specs.Supposed.{AreKnownOrders, IsKeptByNone, under}
pub use Rattle.check_certificate.specs.Taken.{IsNoOther, IsTakenThen, IsTaking, TakesNone}
pub use Rattle.check_certificate.specs.Walked.{IsWalked, AreAllRuledOut, AreRuledOut, AreRuledOutTo, IsCallRuledOut, IsRuledOut, end_of, member_of}
pub use Rattle.check_certificate.specs.Walks.{all_below, is_asked_ruled_out, is_ruled_out, is_call_ruled_out}
pub use Rattle.check_certificate.specs.declared.beginning.LogBeginning.{LogBeginning}
pub use Rattle.check_certificate.specs.declared.certificate.Holding.{Holding}
pub use Rattle.check_certificate.specs.declared.certificate.Point.{Point}
pub use Rattle.check_certificate.specs.declared.certificate.Point.TheVariants.{Event, Gone, Put, Access as At}
pub use Rattle.check_certificate.specs.declared.certificate.PointOrder.{PointOrder}
pub use Rattle.check_certificate.specs.declared.evidence.Evidence.{Evidence}
pub use Rattle.check_certificate.specs.declared.evidence.Evidence.TheVariants.{Sees, Empties, Finds, Installs, Never}
pub use Rattle.check_certificate.specs.declared.walk.WalkAim.{WalkAim}
pub use Rattle.check_certificate.specs.declared.walk.WalkAim.TheVariants.{Finds as Aimed, Leaves, Lands, Misses}
pub use Rattle.fx_base.specs.Catalogue.{bytes_at, part_of, size_at, IsCatalogue}
pub use Rattle.fx_base.specs.declared.errno.Errno.{Errno}
pub use Rattle.fx_base.specs.declared.errno.Errno.TheVariants.{ENOMEM}
pub use Rattle.fx_chain.proofs.Cases.{both_options}
pub use Rattle.fx_chain.proofs.MayAnswer.{table_may_answer, entry_opened}
pub use Rattle.fx_chain.specs.Completed.{is_error, completed_of}
pub use Rattle.fx_chain.specs.Intents.{answer_at_table, bytes_read, is_read, part_read, IsIntent, IsOpened, intents_of, none_if, opened_by}
pub use Rattle.fx_chain.specs.Intents.{list_intents, close_answer, positions_of}
pub use Rattle.fx_chain.specs.MayAnswer.{is_count, may_answer}
pub use Rattle.fx_chain.specs.Operation.{Operation, Opens, Reads, Closes, all_asked, asked_of, operation_of}
pub use Rattle.fx_chain.specs.Refusal.{refusal_of}
pub use Rattle.fx_chain.specs.declared.intent.Finding.TheVariants.{At as Found}
pub use Rattle.fx_chain.specs.declared.intent.Intent.{Intent}
pub use Rattle.fx_chain.specs.declared.intent.Intent.TheVariants.{Look, Clear, Take, Allocate, Put as Install}
pub use Rattle.fx_chain.specs.declared.request.Request.{Request}
pub use Rattle.fx_chain.specs.declared.request.Target.TheVariants.{Any, Slot}
pub use Rattle.fx_flight.proofs.Beginnings.{lasts, logged}
pub use Rattle.fx_flight.proofs.Chains.{answer_place}
pub use Rattle.fx_flight.proofs.InTime.{in_log, size_stays, made_by-parts, log_of-parts}
pub use Rattle.fx_flight.specs.Events.{first_of_call, all_happenings, happening_of}
pub use Rattle.fx_flight.specs.Laws.{IsCallOf}
pub use Rattle.fx_flight.specs.declared.event.LogEvent.{LogEvent}
pub use Rattle.fx_order.proofs.Accesses.{at_itself}
pub use Rattle.fx_order.proofs.Apart.{file_Decides, option_Decides, same_file, Own, own_both, own_none, own_weaker, once_between}
pub use Rattle.fx_order.proofs.ChainsFront.{front_is}
pub use Rattle.fx_order.proofs.Intents.{same_opened, zip_at, by_intents, as_many_intents}
pub use Rattle.fx_order.proofs.RequestCases.{each_placed, request_place}
pub use Rattle.fx_order.specs.Requests.{AreIntended, IsDoneAtTable, IsRefused}
pub use Rattle.std.proofs.lemmas.Bool.Decides.{Decides-and, Decides-ltb}
pub use Rattle.std.proofs.lemmas.Grind.{common_steps}
pub use Rattle.std.proofs.lemmas.List.{map_push, length-map}
pub use Rattle.std.proofs.lemmas.List.Elements.{All-get_or}
pub use Rattle.std.proofs.lemmas.Option.{slice_get-map, slice_get_read, slice_get-get_or, slice_get_past}
pub use Rattle.std.specs.List.{list_any, list_all}
pub use Rattle.std.specs.Prelude.{replicate, MatchOption, drop, not, option_map, ◌||◌, All, IfSome, IsSome, option_and_then, ◌&&◌, nat_lt}
