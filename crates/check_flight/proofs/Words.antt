-- The names that most proofs of this crate use.
pub use Rattle.check_outcomes.proofs.Words.{Access, AllByRecursion, AreChainsDone, Asked, Bool, Chain, ChainAccess, Completed, Completion, Contains}
pub use Rattle.check_outcomes.proofs.Words.{Contains-append_left, Contains-append_right, FileEntry, HasMemory, Identity, IfOk-weaker, IsChainDone}
pub use Rattle.check_outcomes.proofs.Words.{IsNext, IsPermutation, IsPermutation-sym, List, Looks, MatchBool, None, Option, Permits, Place, Request}
pub use Rattle.check_outcomes.proofs.Words.{Rest, RingState, Rules, Slots, Some, Table, [], accesses_of_chain, all_asked, all_completed, ap}
pub use Rattle.check_outcomes.proofs.Words.{append-nil, append_assoc, arith, asked_of, behind, below_more, both_parts, by_equality, canceled}
pub use Rattle.check_outcomes.proofs.Words.{cases_Bool, cases_eq, completed_of, contains_head, drop, drop_all, either_way, eq-eqb, eqb-true, false}
pub use Rattle.check_outcomes.proofs.Words.{false≢true, file_Decides, file_removed_by, filter, get_or-map, get_or-set_other, get_or-set_same}
pub use Rattle.check_outcomes.proofs.Words.{get_or_append_left, get_or_at, if◌then◌else◌, inl, inr, length, length-append, length-drop, length-map}
pub use Rattle.check_outcomes.proofs.Words.{map, map-append, members_of, moved, ne_eqb, next_member, nil_from_length, not, not_begun, option_to_list}
pub use Rattle.check_outcomes.proofs.Words.{over, refl, rest_at, ring_of_slots, rules_of, run_at, settled_at, severs, slice_eq-Decides}
pub use Rattle.check_outcomes.proofs.Words.{slice_index_or, slice_set, step, step_of, subst, suc, sym, table_of, table_of_slots, table_with, take}
pub use Rattle.check_outcomes.proofs.Words.{take-append-drop, take_all, true, zero, ℕ, ⊎_elim, ◌++◌, ◌+◌, ◌-◌, ◌<◌, ◌==◌, ◌∙◌, ◌∷◌, ◌≡◌, ◌≤◌, ◌⊎◌}
pub use Rattle.check_outcomes.specs.declared.submission.Progress.{Progress}
pub use Rattle.fx_flight.proofs.Words.{Accesses, AllSettled, Answered, Called, Contains-append_cases, FileClosed, FlightSetting, Freed, Happening}
pub use Rattle.fx_flight.proofs.Words.{IsBegun, IsFlight, Logged, LookAnswered, LookCalled, MayAccess, MayFollow, Moment, WasLogged, log_of, made_by}
pub use Rattle.fx_flight.proofs.Words.{rules, table_left_by, taken_in}
pub use Rattle.fx_order.proofs.Words.{Contains-get_or, Contains-permutation, IsWithinLimits, length-take-le, take-append_seam, take-map, take_more}
pub use Rattle.check_flight.specs.Judged.{IsAccessFollowed, IsCallFollowed, IsFrontOf, IsWhollyFollowed, catalogue_in, flight_view, flight_views}
pub use Rattle.check_flight.specs.Judged.{log_in, requests_of, rest_of, rules_of_log, runs_of_calls, IsInitialState, IsNextFront, HaveNoFlight}
pub use Rattle.check_flight.specs.Judged.{IsReached, IsReachedBy, IsReachedFrom, IsStatePassed, IsTableOf, event_at, IsAccessPassage, IsCopy}
pub use Rattle.check_flight.specs.Judged.{IsPassage, IsTakenIn, IsRight, IsWaitDeniedIn}
pub use Rattle.check_flight.specs.Player.{AreCallsMade, AreFilesTaken, AreFoundHeld, HasMadeFlight, IsCallDone, IsCallLogged, IsCallMade}
pub use Rattle.check_flight.specs.Player.{IsLookAnswered, IsMarked, IsMemberMade, IsPlanned, IsRingOf, MovesOn, accesses_in, accesses_of_plan}
pub use Rattle.check_flight.specs.Player.{answers_in, answers_of_plan, begun_by, file_number, IsMembersEnd}
pub use Rattle.check_flight.specs.States.{AreAnswers, AreCalls, AreFewer, AreFollowed, AreLooksSeen, ArePassed, AreReached, AreWaitsDenied, AreWith}
pub use Rattle.check_flight.specs.States.{AreWithout, FlightView, GoesOnTo, IsLed, IsNumbered, IsOneDenied, IsStateFollowed, IsStopped, HasNoFlightBy}
pub use Rattle.check_flight.specs.States.{IsInTurn, IsInTurnIf, LeadsByCall, StepsByAccess, rest_after, runs_with, setting_of, origin_of}
pub use Rattle.check_flight.specs.declared.player.HeldFile.{HeldFile}
pub use Rattle.check_flight.specs.declared.judged.ChainCall.{ChainCall}
pub use Rattle.check_flight.specs.declared.judged.JudgedLog.{JudgedLog}
pub use Rattle.check_flight.specs.declared.player.FlightCall.{FlightCall}
pub use Rattle.check_flight.specs.declared.reached.ReachedStates.{ReachedStates}
pub use Rattle.check_flight.specs.declared.state.FlightState.{FlightState}
pub use Rattle.check_flight.specs.declared.state.WaitingLook.{WaitingLook}
pub use Rattle.check_outcomes.proofs.ChainAccesses.{AreRight, last_of, settles}
pub use Rattle.check_outcomes.proofs.Lists.{inside_at, one_more_at, one_more_of}
pub use Rattle.fx_flight.specs.Events.{all_happenings, first_of_call, happening_of}
pub use Rattle.fx_flight.specs.Flight.{IsLookDone, IsLegalLog}
pub use Rattle.fx_flight.specs.Whole.{IsBetweenMembers, IsWholeIf, AreOfMembers}
pub use Rattle.fx_flight.specs.declared.event.LogEvent.{LogEvent}
pub use Rattle.fx_order.proofs.Apart.{same_file}
pub use Rattle.indexmap.specs.IndexSet.{IndexSet, Updates}
pub use Rattle.std.proofs.Common.{IsTrue, nat_eq, nat_le, add-zero}
pub use Rattle.std.proofs.Math.Seq.{drop-cons}
pub use Rattle.std.proofs.lemmas.Bool.{leb-true, cases_lt, le-leb, leb-false, lt-leb, not-false}
pub use Rattle.std.proofs.lemmas.Fn.{filter_same}
pub use Rattle.std.proofs.lemmas.List.{get_or-drop, length-set, length-take, take-take, get_or_default}
pub use Rattle.std.proofs.lemmas.List.Elements.{Contains-push_cases, All-contains, All-contains_itself, All-filter, filter_passes, Contains-push}
pub use Rattle.check_flight.specs.declared.plan.CallPlan.{CallPlan}
pub use Rattle.fx_flight.proofs.Beginnings.{lasts, logged as was_logged}
pub use Rattle.fx_flight.proofs.InTime.{made_by-parts, in_log as was_read, seen as was_seen, size_stays}
pub use Rattle.fx_table.proofs.SumLemmas.{contains_map, contains_tail, contains_mapped}
