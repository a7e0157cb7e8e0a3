-- The names that most proofs of this crate use.
pub use Rattle.fx_base.specs.Catalogue.{FileEntry, IsCatalogue, name_at}
pub use Rattle.fx_base.specs.CloseList.{mark_cmp}
pub use Rattle.fx_base.specs.contracts.mark.MarkOrd.TheImpl.{ghosts}
pub use Rattle.fx_base.specs.declared.errno.Errno.{Errno}
pub use Rattle.fx_base.specs.declared.errno.Errno.TheVariants.{EBADF, ECANCELED, ENFILE, ENOMEM}
pub use Rattle.fx_base.specs.declared.mark.Mark.{Mark}
pub use Rattle.fx_base.specs.declared.mark.Mark.TheVariants.{Submitted}
pub use Rattle.fx_base.specs.declared.open_file.Closed.{Closed}
pub use Rattle.fx_chain.proofs.Cases.{both_ways, either_case, either_option, either_way, same_cases, same_options, both_options}
pub use Rattle.fx_chain.proofs.Accepted.{accepted-chains, members-are-runs, applied}
pub use Rattle.fx_chain.proofs.EntryKinds.{list_installs-cons}
pub use Rattle.fx_chain.specs.Accepted.{IsAccepted, IsChain, IsWithinLimits, members_of}
pub use Rattle.fx_chain.specs.Answers.{Answers, AnswersAtTable, AppliesList, MayClose, ReadsAt, Refuses, TakesAt, installed}
pub use Rattle.fx_chain.specs.Refusal.{is_bad_entry, refusal_of}
pub use Rattle.fx_chain.specs.Chains.{chains_of}
pub use Rattle.fx_chain.specs.Completed.{Completed, all_completed, completed, completed_of, next_member, refusal}
pub use Rattle.fx_chain.specs.Explains.{Explains, canceled, first_member, severs}
pub use Rattle.fx_chain.specs.Faults.{is_long_update}
pub use Rattle.fx_chain.specs.Intents.{InstallsAt, IsOpened, allocated, answer_at_table, close_answer, completion_of_read, count_of, intents_of}
pub use Rattle.fx_chain.specs.Intents.{list_intents, positions_from, positions_of, read_answer, intent_by}
pub use Rattle.fx_chain.specs.Operation.{Asked, Closes, Opens, Operation, Reads, Updates, all_asked, asked_of, operation_of}
pub use Rattle.fx_chain.specs.Runs.{runs_of}
pub use Rattle.fx_chain.specs.Weights.{all_installs, installs_of, list_installs}
pub use Rattle.fx_chain.specs.declared.chain.Chain.{Chain}
pub use Rattle.fx_chain.specs.declared.completion.Completion.{Completion}
pub use Rattle.fx_chain.specs.declared.completion.Place.{Place}
pub use Rattle.fx_chain.specs.declared.fault.TheConstants.{MOST_MEMBERS}
pub use Rattle.fx_chain.specs.declared.intent.Intent.{Intent}
pub use Rattle.fx_chain.specs.declared.request.Request.{Request}
pub use Rattle.fx_chain.specs.declared.request.Target.{Target}
pub use Rattle.fx_chain.specs.declared.request.Target.TheVariants.{Any, Slot}
pub use Rattle.fx_chain.specs.declared.request.TheConstants.{LONGEST_UPDATE}
pub use Rattle.fx_order.specs.Access.{Allocates, Clears, FindsFull, Looks, Permits, PermitsAll, Puts, Table, Takes, access_of, accesses_of}
pub use Rattle.fx_order.specs.Access.{accesses_of_chain, file_removed_by, files_removed_in, table_after, table_with, with_file, IsOf, last_finding}
pub use Rattle.fx_order.specs.Laws.{AreKnown, EachClosedFileIsKnown, EachHistoryIsAnOrder, EachOrderIsAHistory, EachReportLeadsToOneRing, IsOfNext}
pub use Rattle.fx_order.specs.Laws.{NoFileThatStaysIsClosed}
pub use Rattle.fx_order.specs.Order.{IsOneOrder, IsOrderOf, ring_left, table_of}
pub use Rattle.fx_order.specs.Requests.{AreChainsDone, IsChainDone, IsDoneAtTable, IsRefused, IsRequestDone, AreIntended, IsOwnEntry, LacksMemory}
pub use Rattle.fx_order.specs.Slots.{ring_of_slots, table_of_slots, ring_with_slots}
pub use Rattle.fx_order.specs.declared.access.Access.{Access}
pub use Rattle.fx_order.specs.declared.access.ChainAccess.{ChainAccess}
pub use Rattle.fx_order.specs.declared.slots.Slots.{Slots}
pub use Rattle.fx_plain.proofs.Cells.{by_equality, named, named_same}
pub use Rattle.fx_plain.proofs.LawHolds.{placed_one, present, tally, tally_all, tally_start}
pub use Rattle.fx_plain.proofs.Leading.{closes_in-then, leads_then}
pub use Rattle.fx_plain.proofs.Prepared.{opening_is_start, same_identity}
pub use Rattle.fx_plain.specs.Contents.{file_at, state_of}
pub use Rattle.fx_plain.specs.History.{AllReleaseTheirOwn, AllowsAll, Leads, action_of, close_of, closed_by, closes_in, held_by, part_of_chain}
pub use Rattle.fx_plain.specs.History.{state_after, ◌▷▷◌, ◌▷◌, ReleasesItsOwn}
pub use Rattle.fx_plain.specs.Laws.{IsStart}
pub use Rattle.fx_plain.specs.State.{IsSettled, State, opening, vacant}
pub use Rattle.fx_plain.specs.Step.{Allows, after, changed_at, with_removed}
pub use Rattle.fx_plain.specs.Table.{identity_of, numbered}
pub use Rattle.fx_plain.specs.declared.event.Action.{Action}
pub use Rattle.fx_plain.specs.declared.event.Action.TheVariants.{Allocate, Clear, Full, Look, Put, Release, Take}
pub use Rattle.fx_plain.specs.declared.event.Event.{Event}
pub use Rattle.fx_plain.specs.declared.event.File.{File}
pub use Rattle.fx_ring.proofs.Rings.{file_told, not_yet, ring_so}
pub use Rattle.fx_ring.specs.Ring.{HasClosed, IsRing, RingContents, RingState, ring_of, ring_with}
pub use Rattle.fx_ring.specs.Submission.{ExplainsParts, IsOneHistory, Reported}
pub use Rattle.fx_table.proofs.SumLemmas.{contains_cases, contains_head, contains_none, contains_tail}
pub use Rattle.fx_table.specs.Numbers.{numbers_for}
pub use Rattle.std.proofs.Common.{All, Bool, Contains, Decides, IfOk, IsPermutation, IsSome, IsTrue, List, None, Option, Result, Some, [], ap}
pub use Rattle.std.proofs.Common.{append_assoc, arith, cond, drop, eq-eqb, false, filter, if◌then◌else◌, inl, inr, length, map, min, negsuc, not, pos}
pub use Rattle.std.proofs.Common.{refl, rules, slice_get, slice_index_or, subst, suc, sym, take, true, zero, ℕ, ℤ, ⊎_elim, ◌&&◌, ◌*◌, ◌++◌, ◌+◌, ◌-◌}
pub use Rattle.std.proofs.Common.{◌<◌, ◌==◌, ◌↔◌, ◌∙◌, ◌∷◌, ◌≡◌, ◌≢◌, ◌≤◌, ◌⊎◌, add-zero, zero-add}
pub use Rattle.std.proofs.Math.ListN.{get_or-eq_default}
pub use Rattle.std.proofs.Math.Seq.{drop-append_seam, split_at, take-append_seam, take-length}
pub use Rattle.std.proofs.lemmas.Bool.{cases_lt, false≢true, le-ltb, leb-false, lt-ltb, not-true, or_parts, cases_Bool}
pub use Rattle.std.proofs.lemmas.Bool.Decides.{Decides-eqb, Decides-like, nat_tests, Decides-not, not_from_Decides, same_from_decides}
pub use Rattle.std.proofs.lemmas.List.{append-nil, drop-map, get_or-map, length-append, length-map, map-append, take-append-drop, take-map, take_all}
pub use Rattle.std.proofs.lemmas.List.{take_more, get_or_default, nil_from_length, length-take-le}
pub use Rattle.std.proofs.lemmas.List.Elements.{All-append, All-cons, All-head, All-map, All-nil, All-tail, All-weaker, Contains-append_cases}
pub use Rattle.std.proofs.lemmas.List.Elements.{Contains-append_right, filter-append, All-contains, Contains-get_or, recursion_from_All}
pub use Rattle.std.proofs.lemmas.List.Sorted.{Contains-permutation, IsPermutation-cons, IsPermutation-map, IsPermutation-middle, IsPermutation-more}
pub use Rattle.std.proofs.lemmas.List.Sorted.{IsPermutation-pop_more, IsPermutation-refl, IsPermutation-sym, IsPermutation-trans, length_permutation}
pub use Rattle.std.proofs.lemmas.List.Sorted.{sum_by-IsPermutation, IsPermutation-push_more}
pub use Rattle.std.proofs.lemmas.List.Sums.{sum_by-append, sum_by-cons, sum_by-le}
pub use Rattle.std.proofs.lemmas.Map.Keys.{IsDistinct-IsPermutation, IsDistinct-cons, apart_from_distinct}
pub use Rattle.std.proofs.lemmas.Option.{slice_get_past, get_or_from_slice_get, slice_get_within}
pub use Rattle.std.proofs.lemmas.Result.{IfOk-weaker}
pub use Rattle.std.specs.Bool.{MatchBool}
pub use Rattle.std.specs.Cmp.Lexicographic.{bytes_decides}
pub use Rattle.std.specs.Global.{Vec}
pub use Rattle.std.specs.List.{list_any, remove, sum_by, AllByRecursion, AllZip, IsDistinct}
pub use Rattle.std.specs.Option.{option_to_list, option_eq}
pub use Rattle.std.specs.Ordering.{is_lt, int_eq}
pub use Rattle.fx_chain.specs.declared.intent.Finding.TheVariants.{At, Free}
