-- The names that most proofs of this crate use.
pub use Rattle.fx_order.proofs.Words.{mark_cmp, Mark, Place, Table, with_file, ring_with_slots, table_of_slots, HasClosed, Decides-eqb, nat_tests}
pub use Rattle.fx_order.proofs.Words.{sum_by-cons, Errno, Submitted, Closed, is_bad_entry, Asked, runs_of, by_equality, Reported, sum_by-le}
pub use Rattle.fx_ring.proofs.Words.{RingContents, ring_of, Event, FileEntry, IsInOrderOfMark, CloseListView, Registered, explained_count, MOST_SLOTS}
pub use Rattle.fx_ring.proofs.Words.{IsRing, files_of_ring, ExplainsParts, IsOneHistory, drop-length, ring_files_in_order}
pub use Rattle.fx_script.proofs.Words.{RingState, Instruction, MakesSparse, RegistersList, SetsRange, SubmitsAll, Unregisters, UpdatesRing}
pub use Rattle.fx_script.proofs.Words.{instruction_of, IsCallRefused, Prints, PrintsReport, PrintsClosed, PrintsEnd}
pub use Rattle.std.proofs.Common.{◌⊎◌, to_z, of_z, Bool, Option, drop, false, List, None, if◌then◌else◌, suc, w32, ℕ, ◌∙◌, ◌≡◌, ⊎_elim, ◌↔◌}
pub use Rattle.std.proofs.Common.{slice_index_or, take, ◌++◌, ◌+◌, ◌≤◌, ap, inr, length, sym, ◌-◌, All, Some, [], not, rules, arith, zero, refl, ◌∷◌}
pub use Rattle.std.proofs.Common.{inl, true, Ok, nat_le, subst, take-append-drop, ◌<◌, IfSome, Err, nat_lt, string_bytes, get_or, map, ◌%◌, ◌/◌, ◌==◌}
pub use Rattle.std.proofs.Common.{◌^◌, unwrap_or, IfNone, w64, nat_cmp, Ordering, Equal, true≢false, ne_eqb, length-append, take_at, append-nil}
pub use Rattle.std.proofs.Common.{append_assoc, FitsSigned, flat_map, sum_by, option_to_list, MatchOption, is_lt, Contains, pos, ℤ, ◌||◌, codes}
pub use Rattle.std.proofs.Common.{decimal, negsuc, ◌&&◌}
pub use Rattle.check_lines.specs.Calls.{after_call, call_of, unless_refused, IsCall, memory_word, IsNoSubmission}
pub use Rattle.check_lines.specs.ClosedView.{named_close_of}
pub use Rattle.check_lines.specs.Front.{AreAll, AreFirst, HasLength, IsCut}
pub use Rattle.check_lines.specs.InRange.{AreInRange, IsFileInRange}
pub use Rattle.check_lines.specs.Laws.{ReportsHaveEachRequest, BeginsWithOneResult, PlaysBeginWithNoClose}
pub use Rattle.check_lines.specs.Lines.{HasNoCloses, IsCloseInRange, IsCompletionInRange, IsMarkInRange, IsPlaceInRange, IsResultInRange, NamedClose}
pub use Rattle.check_lines.specs.Lines.{is_without, line_of_tag, named_line, IsReportBefore, Lines, ReadsReport, lines_of, lines_text}
pub use Rattle.fx_base.specs.declared.errno.Errno.TheVariants.{ENOMEM, EAGAIN, EBADF, EBUSY, EINVAL, EMFILE, ENXIO}
pub use Rattle.fx_chain.proofs.Cases.{either_case, either_option, both_options}
pub use Rattle.fx_chain.proofs.Runs.{are_runs}
pub use Rattle.fx_chain.specs.Completed.{all_completed, completed_of, Completed, negated}
pub use Rattle.fx_chain.specs.Faults.{fault_of}
pub use Rattle.fx_language.specs.Words.{is_digit, is_decimal, number_up_to}
pub use Rattle.fx_order.specs.declared.ring_slots.RingSlots.{RingSlots}
pub use Rattle.fx_order.specs.declared.slots.Slots.{Slots}
pub use Rattle.fx_print.specs.Text.{completion_line, completion_lines, got_text, mark_text, result_line, closes_text, too_many_line, teardown_text}
pub use Rattle.fx_print.specs.Text.{name_of, place_text}
pub use Rattle.fx_ring.proofs.ListSteps.{good_files, files_upto, upto_here, upto_next, removed_next, upto_none, upto_all}
pub use Rattle.fx_ring.proofs.Origins.{registered_rings, updated_rings, few_removed, removed_entries}
pub use Rattle.fx_ring.proofs.Rings.{counted_still, none_rings, IsEntry, entries_of}
pub use Rattle.fx_ring.specs.Registration.{is_bad_file, removed_from, removed_by_number, file_after}
pub use Rattle.fx_ring.specs.Tags.{tag_at, tags_given, are_bad_tags, tags_for}
pub use Rattle.fx_ring.specs.declared.ring.TheConstants.{MOST_REGISTRATIONS, MOST_SUBMISSIONS}
pub use Rattle.hex.specs.Hex.{IsBytes, encode_lower, decode_of, is_hex_digit}
pub use Rattle.std.proofs.lemmas.Bool.{or_parts, cases_Bool, and_from, and_parts, lt-leb, or_from}
pub use Rattle.std.proofs.lemmas.Int.{ints, to_z-of_z}
pub use Rattle.std.proofs.lemmas.List.{nil_from_length, map-append, append_cancel_left, drop_more, flat_map_more, length-map, take_rest}
pub use Rattle.std.proofs.lemmas.List.Elements.{All-nil, All-tail, All-head, All-append, All-cons, All-push}
pub use Rattle.std.proofs.lemmas.List.Folds.{flat_map-map, list_all-append}
pub use Rattle.std.proofs.lemmas.List.Sorted.{length_permutation, sum_by-IsPermutation, All-permutation, ranks_by, sorted_far}
pub use Rattle.std.proofs.lemmas.Slice.Eq.{slice_eq-Decides, strip_prefix_is}
pub use Rattle.std.specs.Fmt.{signed_decimal, digit_glyph, digits_onto}
pub use Rattle.std.specs.Io.{StartsWith}
pub use Rattle.std.specs.List.{list_all, AllByRecursion, list_any}
