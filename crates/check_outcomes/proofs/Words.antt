-- The names that most proofs of this crate use.
pub use Rattle.fx_base.specs.Identity.{Identity}
pub use Rattle.fx_order.proofs.Accesses.{at_itself, not_own, of_chain, own_first}
pub use Rattle.fx_order.proofs.RequestCases.{request_place, unless_refused}
pub use Rattle.fx_order.specs.declared.access.Access.{Access}
pub use Rattle.fx_order.specs.declared.access.Access.TheVariants.{Allocates, Clears, FindsFull, Looks, Puts, Takes}
pub use Rattle.fx_order.specs.declared.access.ChainAccess.{ChainAccess}
pub use Rattle.check_outcomes.specs.Idle.{AreIdle, IsLeft, are_reads, has_none}
pub use Rattle.fx_chain.specs.Intents.{is_read, IsIntent, IsOpened, MayReach, answer_at_table, answer_of, count_of, count_or_none, intents_of}
pub use Rattle.fx_chain.specs.Intents.{list_intents, positions_of, refusal_or}
pub use Rattle.check_outcomes.specs.Nodes.{AreAllStates, AreAtStart, AreClosed, EachOutcomeIsListed, HasEnd, HasTurn, IsListed, IsOver, StateView}
pub use Rattle.check_outcomes.specs.Nodes.{recorded_from, ring_at}
pub use Rattle.check_outcomes.specs.Parts.{AreParts, Parts, StaysIn}
pub use Rattle.check_outcomes.specs.Rests.{HasMemory, IsNext, IsNextOf, Rest, Rules, behind, over, rest_at, rules_of, settled_at, step, step_of}
pub use Rattle.std.proofs.lemmas.Bool.{and_parts, cases_Bool, cases_eq, ne_eqb, and_from, eqb-true, not-false}
pub use Rattle.check_outcomes.specs.Listed.{AreAllBy, IsAnswerIn, IsAtStart, IsExploredBy, IsExploredInTurn, IsConfirmedPlay, IsPossibleIn}
pub use Rattle.check_outcomes.specs.Listed.{IsStateExploredBy, IsRecordedAt, IsRecordedOf, OfEach, report_of_play, said_by, says, settled_in}
pub use Rattle.check_outcomes.specs.Listed.{states_of, IsFirstState, recorded_by, recorded_states}
pub use Rattle.check_outcomes.specs.Outcomes.{HasEachAnswer, HasEachEnd, HasEachReport, IsAnswer, IsPossible, IsReportBy, MayReport, ReportsOf}
pub use Rattle.check_outcomes.specs.Outcomes.{ring_following}
pub use Rattle.check_outcomes.specs.Reports.{AreRecordedClosed, EachReportIsListed, HasReport, LeadsOn, RecordedState}
pub use Rattle.check_outcomes.specs.Stands.{Settles, StepsChain, asks_from, gone_on, moved, rest_for, HasEachNext}
pub use Rattle.check_outcomes.specs.Tellings.{IsRecordedOn, all_recorded, answers_of}
pub use Rattle.check_outcomes.specs.Views.{ArePartsIn, IsInPart, IsOverIn, IsStepTo, is_state_idle, is_idle_at, not_begun, parts_by_numbers, rules_in}
pub use Rattle.check_outcomes.specs.Views.{HasReadsAloneIn, IsTurnOfPart, IsTurnOfReader, has_reads_at, run_at, runs_in, recorded_state_of, view_in}
pub use Rattle.check_outcomes.specs.Views.{view_of_state}
pub use Rattle.check_outcomes.specs.declared.submission.Progress.{Progress}
pub use Rattle.check_outcomes.specs.declared.closed.Claimed.{Claimed}
pub use Rattle.check_outcomes.specs.declared.outcomes.PossibleAnswer.{PossibleAnswer}
pub use Rattle.check_outcomes.specs.declared.outcomes.PossibleReport.{PossibleReport}
pub use Rattle.check_outcomes.specs.declared.state.PlayState.{PlayState}
pub use Rattle.check_outcomes.specs.declared.submission.PlayedSubmission.{PlayedSubmission}
pub use Rattle.fx_order.proofs.ChainsFront.{first_is, both_parts}
pub use Rattle.fx_order.proofs.Ordered.{each_history_is_an_order}
pub use Rattle.fx_order.specs.declared.slots.Slots.{Slots}
pub use Rattle.fx_table.proofs.SumLemmas.{contains_map, contains_mapped}
pub use Rattle.std.proofs.lemmas.List.{drop-drop, get_or_append_left, get_or_at, get_or-set_other, get_or-set_same, length-drop, map-set, drop_all}
pub use Rattle.std.proofs.lemmas.Option.{slice_get-get_or}
pub use Rattle.std.specs.List.{list_all, AllZip}
pub use Rattle.std.specs.Prelude.{Err, IfSome, Ok, slice_set, MatchOption, option_map}
pub use Rattle.fx_order.proofs.Words.{◌≡◌, refl, ℕ, ◌+◌, ◌-◌, ◌<◌, List, [], length, map, sym, ap, ◌∙◌, arith, slice_index_or, All, Bool, IsTrue}
pub use Rattle.fx_order.proofs.Words.{Completed, length-map, Asked, runs_of, first_member, table_of_slots, All-contains, AllByRecursion, true, false}
pub use Rattle.fx_order.proofs.Words.{false≢true, Chain, members_of, ⊎_elim, ◌≤◌, subst, Contains, Some, Completion, Place, all_completed}
pub use Rattle.fx_order.proofs.Words.{completed_of, ring_of_slots, IsOneOrder, RingState, ring_of, Reported, recursion_from_All, IsAccepted}
pub use Rattle.fx_order.proofs.Words.{IsOrderOf, RingContents, ring_left, suc, ◌∷◌, ◌++◌, Closed, Vec, all_asked, append_assoc, nil_from_length}
pub use Rattle.fx_order.proofs.Words.{Option, None, if◌then◌else◌, MatchBool, FileEntry, length-append, append-nil, by_equality, either_way}
pub use Rattle.fx_order.proofs.Words.{next_member, canceled, severs, IsChainDone, IsRequestDone, inl, inr, Table, Permits, contains_head, ◌==◌}
pub use Rattle.fx_order.proofs.Words.{PermitsAll, table_with, table_after, IsSome, accesses_of, accesses_of_chain, AreChainsDone, eq-eqb, ◌&&◌, not}
pub use Rattle.fx_order.proofs.Words.{asked_of, Request, ◌⊎◌, All-nil, All-cons, All-append, Operation, Reads, ECANCELED, refusal, All-head, All-tail}
pub use Rattle.fx_order.proofs.Words.{filter, cond, cases_lt, file_removed_by, files_removed_in, IsPermutation, IsPermutation-refl}
pub use Rattle.fx_order.proofs.Words.{IsPermutation-cons, IsPermutation-sym, IsPermutation-trans, IsPermutation-middle, option_to_list, get_or-map}
pub use Rattle.fx_order.proofs.Words.{get_or_from_slice_get, IfOk, Result, zero, ℤ, pos, negsuc, Contains-append_right, Errno, Opens, Updates, Any}
pub use Rattle.fx_order.proofs.Words.{IsCatalogue, refusal_of, IsRefused, IsDoneAtTable, All-weaker, either_case, table_of, take, drop, map-append}
pub use Rattle.fx_order.proofs.Words.{take_all, take-append-drop, slice_get, slice_get_within, All-map, operation_of, IfOk-weaker, ◌*◌, drop-map, ◌↔◌}
pub use Rattle.fx_order.proofs.Words.{rules}
pub use Rattle.std.proofs.lemmas.List.Elements.{All-from_recursion, Contains-append_left, Contains-push, All-push}
pub use Rattle.check_outcomes.specs.Choices.{HasEachOf, Intends, IsNextAccess, HasEach}
pub use Rattle.fx_chain.specs.declared.intent.Intent.TheVariants.{Allocate, Look}
pub use Rattle.std.proofs.lemmas.List.Sorted.{All-permutation, IsPermutation-append_comm, IsPermutation-append_left, IsPermutation-append_right}
pub use borrow.Author.Count.{below_more}
pub use Rattle.std.proofs.lemmas.Slice.Eq.{slice_eq-Decides}
pub use Rattle.fx_order.proofs.Apart.{file_Decides}
pub use Rattle.fx_order.proofs.Intents.{single, same_opened, zip_at}
