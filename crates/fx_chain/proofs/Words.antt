-- The names that most proofs of this crate use.
pub use Rattle.fx_base.specs.Catalogue.{FileEntry, bytes_at, name_at, IsCatalogue}
pub use Rattle.fx_chain.specs.Accepted.{IsAccepted, IsChain, IsShortRun, IsWithinLimits, members_of}
pub use Rattle.fx_chain.specs.Answers.{Answers, AppliesEntry, AppliesList, MayClose, is_bad_entry, AnswersAtTable, OpensAt, ReadsAt, TakesAt}
pub use Rattle.fx_chain.specs.Chains.{chains_from, chains_of}
pub use Rattle.fx_chain.specs.Completed.{Completed, all_completed, completed_of, next_member, refusal}
pub use Rattle.fx_chain.specs.Contexts.{PlayerActs, IsSamePlayer, player_view}
pub use Rattle.fx_chain.specs.Explains.{AnswersAfter, Explains, canceled, first_member, severs}
pub use Rattle.fx_chain.specs.Faults.{HasNoFault, IsFirstFault, fault_after, fault_of_next, fault_of, first_fault, has_bad_flags, is_long_read}
pub use Rattle.fx_chain.specs.Faults.{is_long_update, or_later}
pub use Rattle.fx_chain.specs.Intents.{entry_installs, installs_of, list_installs, weight_of, positions_from, IsOpened, answer_at_table, entry_named}
pub use Rattle.fx_chain.specs.Intents.{opened_by, DependsOnFindings, InstallsAt}
pub use Rattle.fx_chain.specs.Operation.{Asked, Closes, Opens, Operation, Reads, Updates, all_asked, asked_of, is_fixed, is_link, operation_of}
pub use Rattle.fx_chain.specs.Performs.{Acts, ActsSo, AnswersNext, PlayerView, PlaysMembers, player}
pub use Rattle.fx_chain.specs.Removals.{IsRelease, IsRetirement}
pub use Rattle.fx_chain.specs.Runs.{AreRuns, AreTheOnlyRuns, IsInRun, but_last, in_front, is_over, open_run, runs_of}
pub use Rattle.fx_chain.specs.Weights.{all_installs, all_weights}
pub use Rattle.fx_chain.specs.declared.chain.Chain.{Chain}
pub use Rattle.fx_chain.specs.declared.completion.Place.{Place}
pub use Rattle.fx_chain.specs.declared.fault.CutFault.{CutFault}
pub use Rattle.fx_chain.specs.declared.fault.TheConstants.{MOST_MEMBERS}
pub use Rattle.fx_chain.specs.declared.request.Request.{Request}
pub use Rattle.fx_plain.specs.History.{closed_by, closes_in, ◌▷▷◌, ◌▷◌}
pub use Rattle.fx_plain.specs.declared.event.Action.{Action}
pub use Rattle.fx_plain.specs.declared.event.Action.TheVariants.{Clear, Look, Put, Release, Take}
pub use Rattle.fx_table.specs.Calls.{Adds, Cleared, Taken, Use, both_uses, no_use, one_look, one_number, PlacedFile}
pub use Rattle.fx_table.specs.Opening.{Opening, size_of}
pub use Rattle.fx_table.specs.Pass.{IsFront, IsIdle, PassView}
pub use Rattle.fx_table.specs.declared.limits.TheConstants.{CHAIN_NUMBERS, MAX_CHAINS}
pub use Rattle.fx_table.specs.declared.values.Retired.{Retired}
pub use Rattle.std.proofs.Common.{All, Bool, Err, List, None, Ok, Option, Result, Some, [], ap, append_assoc, arith, drop, false, filter, inl, inr, ℕ}
pub use Rattle.std.proofs.Common.{if◌then◌else◌, int_le, int_lt, is_some, length, length-append, map, nat_lt, negsuc, not, of_z, pos, refl, rules, ℤ}
pub use Rattle.std.proofs.Common.{slice_index_or, subst, suc, sym, take, to_z, true, vec_capacity, vec_len, w32, zero, ◌&&◌, ◌*◌, ◌++◌, ◌+◌, ◌-◌, ◌<◌}
pub use Rattle.std.proofs.Common.{◌==◌, ◌||◌, ◌∙◌, ◌∷◌, ◌≡◌, ◌≢◌, ◌≤◌, ◌⊎◌, MatchOption, add-zero, ◌↔◌, IsTrue, slice_get}
pub use Rattle.std.proofs.lemmas.Bool.{MatchBool-at_false, MatchBool-at_true, and_right, cases_Bool, ne_eqb, not-true}
pub use Rattle.std.proofs.lemmas.Int.{to_z-of_z, to_z_pos}
pub use Rattle.std.proofs.lemmas.List.{append-nil, drop-map, drop_all, drop_at, drop_more, length-map, length-take-le, map-append, map_more, take-map}
pub use Rattle.std.proofs.lemmas.List.{take-append-drop, take_all, take_at, take_more}
pub use Rattle.std.proofs.lemmas.List.Elements.{All-cons, All-drop, All-head, All-nil, All-push, All-tail, All-take, All-weaker, filter-append}
pub use Rattle.std.proofs.lemmas.List.Sums.{AllPass-from_list_all, list_all-from_AllPass, sum_by-append, sum_by-cons}
pub use Rattle.std.specs.Bool.{MatchBool}
pub use Rattle.std.specs.List.{flat_map, list_all, list_any, sum_by}
pub use Rattle.std.proofs.Math.Seq.{drop-cons}
pub use Rattle.fx_base.specs.declared.errno.Errno.TheVariants.{ECANCELED}
pub use Rattle.fx_chain.specs.Refusal.{refusal_of, slot_refusal, list_refusal}
pub use Rattle.fx_chain.specs.declared.request.Target.{Target}
pub use Rattle.fx_plain.specs.declared.event.File.{File}
pub use Rattle.fx_table.specs.declared.values.Doing.{Doing}
pub use Rattle.fx_table.specs.declared.values.Hold.{Hold}
pub use Rattle.fx_table.proofs.Calls.{adds_nothing, adds_then, looks_least, numbers_least}
pub use Rattle.std.specs.Result.{result_ok}
pub use Rattle.fx_base.specs.AddFault.{has_name}
pub use Rattle.fx_chain.specs.MayAnswer.{may_answer}
pub use Rattle.fx_chain.specs.declared.intent.Finding.TheVariants.{At, Free, Full}
pub use Rattle.fx_chain.specs.declared.request.Target.TheVariants.{Any, Slot}
pub use Rattle.std.proofs.lemmas.Slice.Eq.{bytes_eq-Decides}
pub use Rattle.std.specs.Prelude.{IfSome, string_bytes}
pub use Rattle.std.proofs.lemmas.Grind.{common_steps}
