-- The names that most proofs of this crate use.
pub use Rattle.check_lines.proofs.Words.{IsResultInRange, CloseListView, ENOMEM, negated, fault_of, MOST_SLOTS, closes_text, teardown_text}
pub use Rattle.check_lines.proofs.Words.{completion_lines, none_rings, MOST_SUBMISSIONS, lt-leb, Slots, ring_with_slots}
pub use Rattle.check_outcomes.proofs.Words.{All-push, All-permutation, HasEachEnd, HasEachReport, IsAnswer, IsPossible, ring_following, IsReportBy}
pub use Rattle.check_outcomes.proofs.Words.{MayReport, ReportsOf, Table, Contains-append_left, Errno, all_asked, ChainAccess, IsAccepted}
pub use Rattle.fx_order.proofs.Words.{Completed, completed_of, cases_Bool, FileEntry, All-nil, IsPermutation-sym, Place, bytes_decides, either_way}
pub use Rattle.fx_order.proofs.Words.{contains_head, All-cons, Contains-append_right, IsPermutation-refl, IsPermutation-middle, Closed, Asked}
pub use Rattle.fx_order.proofs.Words.{AreKnown, ring_left, All-contains, IsPermutation-trans, IsPermutation-cons}
pub use Rattle.std.proofs.Common.{None, arith, drop, inl, length, string_bytes, suc, take, zero, ◌++◌, ◌^◌, false, inr, ◌+◌, ◌<◌, ◌∙◌, ◌≡◌, ap, refl}
pub use Rattle.std.proofs.Common.{⊎_elim, ◌∷◌, ◌⊎◌, Bool, Option, slice_get, true, ◌≤◌, [], subst, map, ℕ, slice_index_or, List, Some, sym, Global}
pub use Rattle.std.proofs.Common.{String, ltb-true, add-one, length-append, append_assoc, take_all, append-nil, take-append-drop, Bor, IsPermutation}
pub use Rattle.std.proofs.Common.{option_to_list, All, IfSome, ◌-◌, Contains, IsTrue, min, string_eq, not, true≢false, rules, option_map, reverse}
pub use Rattle.check_lines.proofs.Cuts.{from_here}
pub use Rattle.check_lines.proofs.Entries.{AreOf, all_closed, all_of_ring, few_of_ring, shown, refusal_other, end_printed}
pub use Rattle.check_lines.specs.Calls.{call_of, after_call, IsCall, IsLineOf, accepted_following, AnswersFound}
pub use Rattle.check_outcomes.specs.declared.outcomes.PossibleAnswer.{PossibleAnswer}
pub use Rattle.check_outcomes.specs.declared.outcomes.PossibleReport.{PossibleReport}
pub use Rattle.check_texts.specs.Layers.{AreAllCounted, AreCounted, AreExits, AreRests, AreWaysBy, AreWaysOf, IsLayer, IsRest, bare, commands_in}
pub use Rattle.check_texts.specs.Layers.{rests_in, ways_at, ways_by}
pub use Rattle.check_texts.specs.Rings.{AreStagesFrom, Grows, HasEachFrom, HasEachLast, HasEachNextStage, HasEachSaidFrom, LeadsRing, LeadsAll}
pub use Rattle.check_texts.specs.Rings.{MayEnd, MayLeadAllTo, MayLeadTo, MaySay, Stage, count_after, count_after_all, kept_text, said_in, stage}
pub use Rattle.check_texts.specs.Rings.{stage_of, stage_reported, stages_of, AreSaidFrom, IsAskedIn, AreRings}
pub use Rattle.check_texts.specs.Texts.{FoundMemory, IsReportFound, IsTextFound, MayAnswerIn, PrintsAllFound, HasFound}
pub use Rattle.check_texts.specs.Ways.{AreBare, AreDistinct, AreWays, CountsUpTo, GoesBy, HasWays, IsBare, IsWay, ways_after}
pub use Rattle.check_texts.specs.declared.layers.Exits.{Exits}
pub use Rattle.check_texts.specs.declared.layers.Layer.{Layer}
pub use Rattle.check_texts.specs.declared.request_answers.Said.{Said}
pub use Rattle.check_texts.specs.declared.rests.KeptExit.{KeptExit}
pub use Rattle.check_texts.specs.declared.rests.KeptWays.{KeptWays}
pub use Rattle.check_texts.specs.declared.walk.Reached.{Reached}
pub use Rattle.fx_language.specs.Instruction.{Instruction, SetsRange, SubmitsAll, instruction_of, instructions_of}
pub use Rattle.fx_language.specs.Script.{Meaning}
pub use Rattle.fx_language.specs.declared.command.Command.{Command}
pub use Rattle.fx_order.specs.declared.ring_slots.RingSlots.{RingSlots}
pub use Rattle.fx_order.proofs.OneRing.{ring_with_files, shows_ring, each_closed_file_is_known}
pub use Rattle.fx_ring.specs.Ring.{IsRing, RingState, ring_of, RingContents, files_of_ring, new_ring, HasClosed}
pub use Rattle.fx_ring.specs.Submission.{IsOneHistory, Reported, reported}
pub use Rattle.fx_script.specs.Play.{Prints, PrintsReport, IsText, PrintsAll, PrintsEnd}
pub use Rattle.fx_script.specs.Text.{report_text}
pub use Rattle.fx_table.proofs.SumLemmas.{contains_map, contains_mapped, contains_none, each_all, contains_only, contains_tail}
pub use Rattle.std.proofs.lemmas.List.{nil_from_length, map-append, map_more, length-map, take_rest, flat_map_more, drop_all, reverse-append}
pub use Rattle.std.proofs.lemmas.List.Elements.{Contains-push, Contains-push_cases, Contains-append_cases, All-weaker, All-contains_itself, All-pop}
pub use Rattle.std.proofs.lemmas.List.Folds.{Any-from_list_any, list_any_at, concat-append}
pub use Rattle.std.specs.List.{list_any, concat, flat_map}
pub use Rattle.std.proofs.lemmas.Option.{slice_get-map, slice_get_within, get_or_from_slice_get, slice_get_read}
pub use Rattle.std.specs.Global.{Vec}
pub use Rattle.check_lines.proofs.Calls.{Answers, Call, Tells, answers, called_ring, called_submissions, few_told, not_refused, one_line_of}
