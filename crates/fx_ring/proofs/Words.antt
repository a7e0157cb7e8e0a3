-- The names that most proofs of this crate use.
pub use Rattle.fx_base.specs.Catalogue.{FileEntry}
pub use Rattle.fx_base.specs.CloseList.{IsInOrderOfMark}
pub use Rattle.fx_base.specs.CloseListView.{CloseListView}
pub use Rattle.fx_base.specs.declared.errno.Errno.{Errno}
pub use Rattle.fx_base.specs.declared.mark.Mark.{Mark}
pub use Rattle.fx_base.specs.declared.mark.Mark.TheVariants.{Registered, Submitted}
pub use Rattle.fx_base.specs.declared.open_file.Closed.{Closed}
pub use Rattle.fx_chain.proofs.Accepted.{accepted-each, accepted-length, all_weights-small, applied}
pub use Rattle.fx_chain.proofs.Cases.{either_case, either_option}
pub use Rattle.fx_chain.specs.Accepted.{IsAccepted, IsChain, IsShortRun, members_of}
pub use Rattle.fx_chain.specs.Answers.{Answers, AnswersAtTable, AppliesEntry, AppliesList, MayClose, OpensAt, Refuses, installed, is_bad_entry}
pub use Rattle.fx_chain.specs.Completed.{Completed, all_completed, completed_of, next_member}
pub use Rattle.fx_chain.specs.Explains.{Explains, canceled, first_member, severs}
pub use Rattle.fx_chain.specs.Operation.{Asked, Operation, all_asked, asked_of, operation_of}
pub use Rattle.fx_chain.specs.Performs.{PlaysChain, player}
pub use Rattle.fx_chain.specs.Runs.{runs_of}
pub use Rattle.fx_chain.specs.Weights.{all_installs, all_weights, installs_of, weight_of}
pub use Rattle.fx_chain.specs.declared.chain.Chain.{Chain}
pub use Rattle.fx_chain.specs.declared.completion.Completion.{Completion}
pub use Rattle.fx_chain.specs.declared.completion.Place.{Place}
pub use Rattle.fx_chain.specs.declared.fault.TheConstants.{MOST_MEMBERS}
pub use Rattle.fx_chain.specs.declared.request.Request.{Request}
pub use Rattle.fx_chain.specs.declared.request.Target.{Target}
pub use Rattle.fx_plain.proofs.Cells.{by_equality, changed_else, changed_here, read_default}
pub use Rattle.fx_plain.proofs.Leading.{closes_in-then, same_size, legal_behind}
pub use Rattle.fx_plain.proofs.Prepared.{opening_is_start, opens_alike, same_identity, stays_at_rest}
pub use Rattle.fx_plain.specs.Contents.{Contents, leaving, state_of, file_at, slot_at}
pub use Rattle.fx_plain.specs.History.{IsLegal, Leads, action_of, close_of, closed_by, closes_in, part_of_chain, state_after, ◌▷▷◌, ◌▷◌, held_by}
pub use Rattle.fx_plain.specs.Laws.{IsInstalled, installed_by}
pub use Rattle.fx_plain.specs.State.{IsSettled, State, opening, vacant, files_in_order as files_in_order_of_state, files_of as files_of_state}
pub use Rattle.fx_plain.specs.Step.{after, changed_at, with_removed}
pub use Rattle.fx_plain.specs.Table.{identity_of, more_leaving, number_of, numbered}
pub use Rattle.fx_plain.specs.declared.event.Action.{Action}
pub use Rattle.fx_plain.specs.declared.event.Action.TheVariants.{Allocate, Clear, Close, Look, Put, Take}
pub use Rattle.fx_plain.specs.declared.event.Event.{Event}
pub use Rattle.fx_plain.specs.declared.event.File.{File}
pub use Rattle.fx_plain.specs.declared.table.TheConstants.{MOST_SLOTS}
pub use Rattle.fx_ring.specs.Calls.{ListsFiles}
pub use Rattle.fx_ring.specs.OpenRings.{IsAloneAt, IsKeptOpen, OpenRingContents, begun_after, chain_less, chains_to, number_if, ring_led_by}
pub use Rattle.fx_ring.specs.OpenRings.{table_with_files}
pub use Rattle.fx_ring.specs.Outcomes.{HasRoomFor}
pub use Rattle.fx_ring.specs.Playing.{number_of_worker, state_of_worker, IsReadyFor}
pub use Rattle.fx_ring.specs.Registration.{file_after, file_listed, files_after, is_bad_file, registered, removed_by_number, removed_from, updated}
pub use Rattle.fx_ring.specs.Ring.{AreEntries, HasClosed, HasCounted, IsAtRest, IsRing, RingContents, RingState, ring_files_in_order, files_of_ring}
pub use Rattle.fx_ring.specs.Ring.{ring_of, ring_with, with_table}
pub use Rattle.fx_ring.specs.Slots.{AreFresh, CanRetire, SetsList, SetsNumber, SetsSlot, closes_of_removed, file_removed, files_at}
pub use Rattle.fx_ring.specs.Submission.{ExplainsParts, IsOneHistory, Reported}
pub use Rattle.fx_ring.specs.Tags.{are_bad_tags, is_bad_tag, no_tags, tag_at, tags_for}
pub use Rattle.fx_ring.specs.Work.{AreCutInto, HasRoom, HasWorked, InstallAtMost, IsEnoughFor, WorkerState, completions_of_chain, run_of_chain}
pub use Rattle.fx_ring.specs.Work.{worker_state}
pub use Rattle.fx_ring.specs.declared.outcome.Outcome.{Outcome}
pub use Rattle.fx_ring.specs.declared.ring.TheConstants.{MOST_SUBMISSIONS}
pub use Rattle.fx_ring.specs.declared.worker.Worker.{Worker}
pub use Rattle.fx_table.proofs.Chains.{part_of_drawn, some_times, in_part}
pub use Rattle.fx_table.proofs.SumLemmas.{contains_cases, contains_head, contains_map, contains_mapped, contains_none, contains_tail, each_all}
pub use Rattle.fx_table.proofs.SumLemmas.{sum_map, sum_of}
pub use Rattle.fx_table.specs.Calls.{Draws, Use}
pub use Rattle.fx_table.specs.Closing.{ClosesTable, times_drawn}
pub use Rattle.fx_table.specs.Numbers.{numbers_for}
pub use Rattle.fx_table.specs.Opening.{HasSameFiles, IsGivenBack, IsOpenedFor, Opening, size_of, start_of, state_at}
pub use Rattle.fx_table.specs.Pass.{IsIdle, IsOfDrawnChains, PassView, event_of, new_pass, new_passes, IsFront}
pub use Rattle.fx_table.specs.Settling.{IsSettledSoFar}
pub use Rattle.fx_table.specs.declared.limits.TheConstants.{MAX_CHAINS, PASS_LOOKS}
pub use Rattle.std.proofs.Common.{All, Bool, Contains, IsPermutation, List, None, Option, Some, [], add-one, ap, append-nil, append_assoc, arith, eqb}
pub use Rattle.std.proofs.Common.{cond, count_by, drop, eq-eqb, false, filter, flat_map, if◌then◌else◌, inl, inr, length, length-append, map, nat_lt}
pub use Rattle.std.proofs.Common.{ne_eqb, negsuc, not, option_to_list, pos, refl, rules, slice_get, slice_index_or, subst, suc, sum_by, sym, take, ℕ}
pub use Rattle.std.proofs.Common.{true, vec_capacity, vec_len, zero, ℤ, ⊎_elim, ◌*◌, ◌++◌, ◌+◌, ◌-◌, ◌<◌, ◌==◌, ◌||◌, ◌∙◌, ◌∷◌, ◌≡◌, ◌≢◌, ◌≤◌, ◌⊎◌}
pub use Rattle.std.proofs.Math.Seq.{drop-cons, drop-length}
pub use Rattle.std.proofs.lemmas.Bool.{cases_lt, false≢true, le-ltb, leb-false, lt-ltb, or_from, or_parts}
pub use Rattle.std.proofs.lemmas.Bool.Decides.{nat_tests}
pub use Rattle.std.proofs.lemmas.List.{drop-drop, get_or-map, get_or_past, length-map, map-append, map-id, take_all}
pub use Rattle.std.proofs.lemmas.List.Concat.{length-flat_map}
pub use Rattle.std.proofs.lemmas.List.Elements.{All-append, All-cons, All-contains, All-head, All-map, All-more, All-nil, All-tail, All-weaker}
pub use Rattle.std.proofs.lemmas.List.Elements.{All-filter, Contains-append_cases, filter-append, filter_passes, recursion_from_All}
pub use Rattle.std.proofs.lemmas.List.Folds.{flat_map-map}
pub use Rattle.std.proofs.lemmas.List.Filters.{sum_by-filter_both}
pub use Rattle.std.proofs.lemmas.List.FromFn.{get_or-map-range_with_len, get_or-range_with_len, length-map-range_with_len, length-range_with_len}
pub use Rattle.std.proofs.lemmas.List.Sorted.{All-permutation, Contains-permutation, IsNonDecreasingBy-from_sort_by_key, IsPermutation-append_comm}
pub use Rattle.std.proofs.lemmas.List.Sorted.{IsPermutation-append_left, IsPermutation-append_right, IsPermutation-filter_both, IsPermutation-map}
pub use Rattle.std.proofs.lemmas.List.Sorted.{IsPermutation-refl, IsPermutation-sym, IsPermutation-trans, length_permutation}
pub use Rattle.std.proofs.lemmas.List.Sums.{sum_by-append, sum_by-cons, sum_by-drop_more, sum_by-le, sum_by-take-drop, sum_by_more_le}
pub use Rattle.std.proofs.lemmas.Map.Keys.{IsDistinct-IsPermutation, IsDistinct-cons, apart_from_distinct}
pub use Rattle.std.proofs.lemmas.Option.{slice_get_past, slice_get-get_or}
pub use Rattle.std.proofs.lemmas.Simd.{map-map}
pub use Rattle.std.specs.List.{list_any, range_with_len, zip, IsDistinct}
pub use Rattle.std.specs.List.Sorted.{IsNonDecreasingBy}
pub use Rattle.fx_chain.proofs.ChainGoesOn.{explained_count}
pub use Rattle.fx_table.proofs.Seats.{begins_at_rest, start_is}
pub use Rattle.fx_plain.proofs.LawFiles.{HoldsOfAll, holds_of_closes, all_closes_in, every_removed_file_is_closed}
pub use Rattle.fx_plain.proofs.LawHolds.{closed_at_most_once, no_close_while_held}
pub use Rattle.fx_table.proofs.Calls.{looks_least}
pub use Rattle.std.proofs.lemmas.Grind.{common_steps}
