-- The names that most proofs of this crate use.
pub use Rattle.fx_base.specs.Identity.{Identity}
pub use Rattle.fx_chain.specs.Completed.{Completed, next_member, refusal}
pub use Rattle.fx_chain.specs.Explains.{canceled, first_member, severs}
pub use Rattle.fx_chain.specs.Operation.{Asked}
pub use Rattle.fx_chain.specs.declared.completion.Place.{Place}
pub use Rattle.fx_flight.specs.Events.{AllSettled, Answered, Called, FileClosed, Freed, Happening, LookAnswered, LookCalled, first_of_call}
pub use Rattle.fx_flight.specs.Events.{all_happenings}
pub use Rattle.fx_flight.specs.Flight.{Accesses, HasFlight, IsBegun, IsFlight, IsLegalLog, MayAccess, Logged, MayFollow, Moment, FlightSetting}
pub use Rattle.fx_flight.specs.Flight.{WasLogged, log_of, made_by, taken_in, table_left_by}
pub use Rattle.fx_order.specs.Requests.{IsChainDone, IsRequestDone, AreChainsDone}
pub use Rattle.fx_order.specs.declared.access.Access.{Access}
pub use Rattle.fx_order.specs.declared.access.ChainAccess.{ChainAccess}
pub use Rattle.fx_ring.specs.Ring.{RingState, IsRing}
pub use Rattle.fx_table.proofs.SumLemmas.{contains_cases, contains_head, contains_none, contains_tail, contains_map, contains_mapped}
pub use Rattle.std.proofs.Common.{Contains, List, None, Option, Some, [], ap, append_assoc, arith, inl, inr, length, map, refl, rules, subst, suc}
pub use Rattle.std.proofs.Common.{sym, take, zero, ℕ, ⊎_elim, ◌++◌, ◌+◌, ◌-◌, ◌<◌, ◌==◌, ◌∙◌, ◌∷◌, ◌≡◌, ◌≤◌, ◌⊎◌, Bool, true, false, if◌then◌else◌}
pub use Rattle.std.proofs.Common.{filter, slice_get, slice_index_or, drop}
pub use Rattle.std.proofs.lemmas.List.{append-nil, length-append, nil_from_length, take_all, length-set, map-append}
pub use Rattle.std.proofs.lemmas.List.Elements.{Contains-append_cases, Contains-append_left, Contains-append_right, All-contains, filter-append}
pub use Rattle.fx_base.specs.Catalogue.{FileEntry}
pub use Rattle.fx_chain.proofs.Cases.{both_ways, either_way}
pub use Rattle.fx_flight.specs.Faults.{IsFaultless, event_fault, fault_of_log, or_in_rest, progress_after}
pub use Rattle.fx_flight.specs.Laws.{IsCallOf, IsAllOver, answer_of_chain, calls_of, log_of_submission}
pub use Rattle.fx_order.specs.Access.{Permits, Table, PermitsAll, access_of, accesses_of, accesses_of_chain, file_removed_by, files_removed_in}
pub use Rattle.fx_order.specs.Order.{table_of, IsOneOrder}
pub use Rattle.fx_plain.proofs.Cells.{by_equality}
