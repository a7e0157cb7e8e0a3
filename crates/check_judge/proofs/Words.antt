-- The names that most proofs of this crate use.
pub use Rattle.check_lines.proofs.Words.{All-append, All-cons, All-head, All-nil, All-tail, AllByRecursion, AreInRange, Asked, Closed, Completed}
pub use Rattle.check_lines.proofs.Words.{Decides-eqb, ENOMEM, Err, Errno, FileEntry, HasNoCloses, IsBytes, IsCloseInRange, IsCompletionInRange}
pub use Rattle.check_lines.proofs.Words.{IsFileInRange, IsPlaceInRange, IsReportBefore, IsRing, Lines, MOST_SLOTS, MOST_SUBMISSIONS, Mark, NamedClose}
pub use Rattle.check_lines.proofs.Words.{Ok, Place, Prints, PrintsReport, ReadsReport, Registered, Reported, RingContents, RingState, Submitted}
pub use Rattle.check_lines.proofs.Words.{Table, all_completed, and_from, append-nil, are_runs, cases_Bool, completed_of, drop_more, fault_of}
pub use Rattle.check_lines.proofs.Words.{is_without, lines_of, lines_text, name_of, named_close_of, nat_tests, negated, negsuc, nil_from_length, of_z}
pub use Rattle.check_lines.proofs.Words.{pos, result_line, ring_of, ring_with_slots, runs_of, slice_eq-Decides, string_bytes, table_of_slots}
pub use Rattle.check_lines.proofs.Words.{take_rest, teardown_text, to_z, w32, ℤ, ◌-◌, ◌^◌, ◌↔◌}
pub use Rattle.check_search.proofs.Words.{All, All-contains, All-map, Any, Bool, Contains, Ends, IfOk-weaker, IsEndOfClaims, IsTrue, List, None}
pub use Rattle.check_search.proofs.Words.{Option, Some, Standing, Vec, [], ap, arith, by_equality, cases_lt, cells_after, cond, drop, drop_all}
pub use Rattle.check_search.proofs.Words.{eq-eqb, false, get_or, get_or-map, get_or_from_slice_get, has_slot, if◌then◌else◌, inl, inr, is_staying}
pub use Rattle.check_search.proofs.Words.{length, length-map, length-set, map, may_stay, ne_eqb, next, not, refl, rules, same_Some, slice_get}
pub use Rattle.check_search.proofs.Words.{slice_get-get_or, slice_get_read, slice_get_within, slice_index, slice_index_or, slice_set, slot_claimed}
pub use Rattle.check_search.proofs.Words.{subst, suc, sym, take, true, zero, ℕ, ⊎_elim, ◌++◌, ◌+◌, ◌<◌, ◌==◌, ◌||◌, ◌∙◌, ◌∷◌, ◌≡◌, ◌≢◌, ◌≤◌, ◌⊎◌}
pub use Rattle.check_search.specs.declared.claim.Claim.TheVariants.{At, Full}
pub use Rattle.check_search.specs.declared.cell.Cell.{Cell}
pub use Rattle.check_search.specs.declared.claim.Claim.{Claim}
pub use Rattle.check_search.specs.declared.claim.Condition.{Condition}
pub use Rattle.check_search.specs.declared.claim.Leaves.TheVariants.{Empty, Same}
pub use Rattle.check_search.specs.declared.claim.Leaves.{Leaves}
pub use Rattle.check_search.specs.declared.claim.Resident.{Resident}
pub use Rattle.check_search.specs.declared.claim.Strand.{Strand}
pub use Rattle.fx_order.specs.declared.access.Access.{Access}
pub use Rattle.fx_order.proofs.Words.{All-weaker, AreChainsDone, Chain, Closes, Contains-append_right, Contains-permutation, IfOk, IsAccepted}
pub use Rattle.fx_order.proofs.Words.{IsChain, IsChainDone, IsOneOrder, IsOrderOf, IsPermutation-sym, IsRequestDone, Opens, Operation, Permits}
pub use Rattle.fx_order.proofs.Words.{PermitsAll, Reads, Request, Result, Updates, accepted-chains, accesses_of, accesses_of_chain, add-zero}
pub use Rattle.fx_order.proofs.Words.{all_asked, append_assoc, asked_of, canceled, chains_of, changed_at, completed, contains_cases, contains_head}
pub use Rattle.fx_order.proofs.Words.{contains_none, contains_tail, drop-map, either_case, either_way, file_removed_by, files_removed_in, filter}
pub use Rattle.fx_order.proofs.Words.{filter-append, first_member, get_or_default, length-take-le, members-are-runs, members_of, name_at, next_member}
pub use Rattle.fx_order.proofs.Words.{operation_of, positions_of, refusal, ring_left, severs, slice_get_past, table_after, table_of, table_with}
pub use Rattle.fx_order.proofs.Words.{take-append-drop, take-length, take_all, take_more, zero-add, AllZip}
pub use Rattle.fx_order.specs.declared.access.ChainAccess.{ChainAccess}
pub use Rattle.fx_order.specs.declared.slots.Slots.{Slots}
pub use Rattle.check_judge.specs.Step.{IsCommandVerdict, BeginsWith, IsMet, ContinuesText, IsStep, LeadsNowhere, LeadsTo}
pub use Rattle.check_judge.specs.Claims.{AreDone, AreMembersDone, AreAppended, AreClaims, Concludes, Expected, Fits, IsAllocationInRange}
pub use Rattle.check_judge.specs.Claims.{IsAnsweredBy, IsDecided, IsMade, LeavesSo, Possibly, answer, found_by, left_by, touched}
pub use Rattle.check_judge.specs.Kept.{IsOfRing, IsRingKept}
pub use Rattle.check_judge.specs.Played.{Brings, IsBrought, IsKnown, HasNoOrder, IsCell, IfRefuted, ShowsFile, AreStrands, seen, strand_for}
pub use Rattle.check_judge.specs.Ordered.{MayPrintAllBy, MayPrintBy, PrintsAllBy}
pub use Rattle.check_judge.specs.Places.{AreListsOf, IsListFor, AreAccessPlaces, AreChainsListed, IsChainListed, own_places, place_at}
pub use Rattle.check_judge.specs.Places.{places_of_chain}
pub use Rattle.check_judge.specs.Recorded.{AreApart, AreFrom, HasDistinctMarks, HasLines, Installed, IsFileAtSlot, MayBeClosed, MayCloseAll}
pub use Rattle.check_judge.specs.Recorded.{OneInstalled, Yields, YieldsKnown}
pub use Rattle.check_judge.specs.Verdict.{CameBy, IsRecordedOutcome, IsRefuted, recorded_report}
pub use Rattle.check_judge.specs.declared.judgement.Fault.{Fault}
pub use Rattle.check_judge.specs.declared.recorded.Recorded.{Recorded}
pub use Rattle.check_lines.proofs.Entries.{all_closed, all_of_ring, end_printed, few_of_ring, one_at, shown}
pub use Rattle.check_lines.proofs.ReportTexts.{name_without_end, printed_lines}
pub use Rattle.check_lines.specs.Lines.{AreLinesInRange, named_close, named_closes}
pub use Rattle.check_lines.specs.LinesView.{lines_in}
pub use Rattle.check_lines.specs.declared.report_lines.ClosedLine.{ClosedLine}
pub use Rattle.check_search.proofs.Reaching.{mapped_at, no_any}
pub use Rattle.check_search.specs.AtSlots.{keeps}
pub use Rattle.fx_base.specs.Catalogue.{bytes_at, part_of}
pub use Rattle.fx_base.specs.Tags.{tag_completion, tags_of}
pub use Rattle.fx_chain.specs.Intents.{IsOpened, answer_at_table, bytes_read, intents_of, list_intents}
pub use Rattle.fx_language.specs.Instruction.{Instruction, SubmitsAll, instruction_of, instructions_of}
pub use Rattle.fx_language.specs.Script.{AreFiles, Meaning}
pub use Rattle.fx_order.proofs.Accesses.{accesses_of_chain-append, not_own, of_chain, own_first}
pub use Rattle.fx_order.proofs.ChainsFront.{all_of_rest, both_parts, few_completions, first_is, first_run, others_completed, own_completed, parts_of}
pub use Rattle.fx_order.proofs.ChainsFront.{length-done}
pub use Rattle.fx_order.proofs.Histories.{each_order_is_a_history}
pub use Rattle.fx_order.proofs.OneRing.{NonePast, no_file_that_stays_is_closed, none_past, ring_with_files, shows_ring, each_closed_file_is_known}
pub use Rattle.fx_order.proofs.OneRing.{in_limits, each_report_leads_to_one_ring}
pub use Rattle.fx_order.proofs.Placed.{Removes, emptied, removes_contained, same_size, Has, has_either, left_from, placed, placed-append}
pub use Rattle.fx_order.proofs.Placed.{removed_from}
pub use Rattle.fx_order.proofs.RequestCases.{completion_so, each_placed, few_made}
pub use Rattle.fx_order.specs.declared.access.Access.TheVariants.{Allocates, FindsFull, Looks, Takes}
pub use Rattle.fx_order.specs.declared.listed_order.AccessPlace.{AccessPlace}
pub use Rattle.fx_order.specs.declared.listed_order.Order.{Order}
pub use Rattle.fx_order.specs.declared.ring_slots.RingSlots.{RingSlots}
pub use Rattle.fx_plain.proofs.Cells.{each_set, read_default, unchanged}
pub use Rattle.fx_ring.specs.Ring.{new_ring}
pub use Rattle.fx_table.proofs.SumLemmas.{each_all}
pub use Rattle.std.proofs.Common.{add-one, add_comm, flat_map, int_lt, is_lt, length-append, length-drop, option_to_list, true≢false}
pub use Rattle.std.proofs.lemmas.List.{get_or-drop, get_or-take, get_or_past, get_or_read_under, length-take, length_push, map_push, drop-drop}
pub use Rattle.std.proofs.lemmas.List.Elements.{All-filter, All-get_or, All-more}
pub use Rattle.std.proofs.lemmas.List.Sums.{list_all-from_AllPass}
pub use Rattle.std.proofs.lemmas.Option.{slice_get_cases}
pub use Rattle.std.proofs.lemmas.Result.{err_from_is_err_and, on_ok_weaker}
pub use Rattle.std.proofs.lemmas.Slice.Zip.{AllZip-long, all_zipped_more}
pub use Rattle.check_lines.proofs.CompletionTexts.{no_bytes, each_request}
pub use Rattle.fx_chain.specs.declared.intent.Finding.TheVariants.{At as FoundAt}
pub use Rattle.fx_order.proofs.Intents.{single, as_many_intents}
