-- The names that these proofs cite, passed on from one place. Declares nothing.
pub use Rattle.atomic_table.proofs.Lists.{set_here, set_else, at_set, at_map, exchanged, at_index}
pub use Rattle.atomic_table.specs.Seated.{TableId}
pub use Rattle.atomic_table.specs.Table.{Act, keeps, Valid, stepped, carried_after, step, gives, rest, takes, Allows, Final, Seen, opening, put_back}
pub use Rattle.fx_base.specs.declared.open_file.Closed.{Closed}
pub use Rattle.table_range.specs.Groups.{is_in, question_place, group_place, group_size, groups_in, group_at, group_of, group_start, group_len}
pub use Rattle.table_range.specs.Counts.{owing, uncounted, account, HasQuestionOf, HasVisitedFull, bit_of, lowered, raised, with_question}
pub use Rattle.table_range.specs.declared.groups.TheConstants.{RANGE_END}
pub use Rattle.fx_lasting.specs.holds.HoldsAgree.{IsIn, HoldAgrees, MayBeUncharged, GuardAgrees, GlanceAgrees, Heats, LogAgrees, ViewAgrees, HoldsAt}
pub use Rattle.fx_lasting.specs.holds.HoldsAgree.{WorkAgrees, IsAllowed, IsIdleIn, IsToVisit, NamesNode, StillNames}
pub use Rattle.fx_lasting.specs.Agrees.{Agrees}
pub use Rattle.fx_lasting.specs.nodes.NodesAgree.{NodeAgrees, Does, OwnerAgrees, Nodes, Home, IsFileOfNode, Labels}
pub use Rattle.fx_lasting.specs.slots.SlotAgrees.{Names, IsSeated, SlotAgrees}
pub use Rattle.fx_lasting.specs.AtWork.{IsAtWork, IsReleasing, HasPlace, MayPlace}
pub use Rattle.fx_lasting.specs.range.Groups.{RangeCounts}
pub use Rattle.fx_lasting.specs.Counts.{tally, owed}
pub use Rattle.fx_lasting.specs.Ends.{LetsChargeGo, LetsFileGo, Parked, TakenOut}
pub use Rattle.fx_lasting.specs.life.Cuts.{seats}
pub use Rattle.table_seats.proofs.Gathered.{AreGathered}
pub use Rattle.table_seats.proofs.Together.{HasLaws, Moves, find_pass, its_pass, its_range, not_there, stepped as seats_step, opens as seats_open}
pub use Rattle.table_seats.proofs.Together.{renewed, reseated as seats_reseated, known, learned as seats_learn}
pub use Rattle.table_seats.specs.Seats.{dealt, first_alone, first_view, joined, new_logs, spent, without_first}
pub use Rattle.table_seats.specs.Together.{HasSeen, Together}
pub use Rattle.fx_lasting.specs.Laws.{AimsKeep, TakesBesideKeep, ReplacesHeldKeep, HasToLetGo, IsOffCount, TakesOutKeep, ExchangesKeep, HasPass}
pub use Rattle.fx_lasting.specs.Laws.{GlancesKeep, AnnouncesKeep, ConfirmsKeep, WithdrawsKeep, TakesOnceKeep, HeatsKeep, SplitsKeep, JoinsKeep}
pub use Rattle.fx_lasting.specs.Laws.{LowersKeep, RaisesKeep, AsksKeep, ChecksKeep, BreaksKeep, BeginsKeep, CountsKeep, DecidesKeep, IsGroup}
pub use Rattle.fx_lasting.specs.Laws.{PeeksKeep, InstallsKeep, StepsDownKeep, LettingGoKeeps, SeeksKeep, BirthsKeep, RestsKeep, VisitsKeep}
pub use Rattle.fx_lasting.specs.Laws.{ChargesKeep, ParksKeep, ResumesKeep, SettlesKeep, HasItsPlace, RecallsTagKeep, TagsKeep, NumbersKeep}
pub use Rattle.fx_lasting.specs.Laws.{ReadsTagKeep, ReadsNumberKeep, RetiresKeep, IsInRange, ListsKeep, SkimsKeep, IsPassed, SeesKeep, FinishesKeep}
pub use Rattle.fx_lasting.specs.Laws.{SwapsOutKeep, MayAnnounce, EndsItsHoldKeep, SwapsHeldKeep, TakesHeldKeep, Kind}
pub use Rattle.fx_lasting.specs.nodes.LabelSteps.{RecallsTag, Tags, Numbers, ReadsTag, ReadsNumber}
pub use Rattle.fx_lasting.specs.nodes.Labels.{number_of_mark, label_of, as_written}
pub use Rattle.fx_lasting.specs.nodes.KeepSteps.{Parks, Resumes, SettlesNode}
pub use Rattle.fx_lasting.specs.life.Layout.{list_place, slot_place, hold_place, node_place, stock_start, stock_for, stock_of, stocks_back, tag_place}
pub use Rattle.fx_lasting.specs.life.Layout.{number_place, PlacesAreInside, PlacesAreApart, LabelsAreApart, NodesAreInOneLine, IsNoLabel, words_for, nodes_for}
pub use Rattle.fx_lasting.specs.life.Opens.{AreNamed, OpensWith}
pub use Rattle.fx_lasting.specs.slots.Deeds.{Deed, untouched, over, heated, has_acted, has_heated}
pub use Rattle.fx_lasting.specs.Fields.{heat_unit, count_in, heat_in, IsHot, cold_takes, birth_word, retirement_amount, announced, charge, IsListedIn}
pub use Rattle.fx_lasting.specs.Fields.{full_name_in, file_node_in, file_word_of, empty_word_of, without_file, name_mask, most_carried, MayCarry}
pub use Rattle.fx_lasting.specs.Passes.{alone_in, node_of_number, HasNoFile, Shared, Sat, state_at_start, slots_of, range_at_start, nodes_of, first_stock}
pub use Rattle.fx_lasting.specs.Passes.{word_of, hold_word_of, lengths, state_after_all, IsHistory, new_log, first_log, held_in, if_file, held_of, taking}
pub use Rattle.fx_lasting.specs.Passes.{taken_of, tag_word_of, number_word_of, HoldsOn, HoldsAlone, HoldsBesides, is_guarding}
pub use Rattle.fx_lasting.specs.nodes.Stocks.{Whereabouts, at_slot, in_stock, IsInStock, NamesItsNode, IsStockOf, StockAgrees}
pub use Rattle.fx_lasting.proofs.slot_lemmas.SlotWords.{name_of_file, same_full_name, empty_name_made, empty_file_made, empty_takes_made, name_left}
pub use Rattle.fx_lasting.proofs.slot_lemmas.SlotWords.{no_file_left, no_takes_left, mask_leaves_name, name_carried, full_name_carried, entry_carried}
pub use Rattle.fx_lasting.proofs.slot_lemmas.SlotWords.{takes_carried, heat_carried, takes_are_few, one_less}
pub use Rattle.std.specs.Prelude.{bit_and, sum_by, Contains, Ok, Err, Result, is_some, not, option_map, ok_or, vec_len, is_ok, ◌==◌, ◌&&◌}
pub use Rattle.fx_lasting.specs.nodes.Phases.{Phase, owner, file_in, file_if_numbered, removed_in, written_in, free, placed, seated, leaving, retired, emptied}
pub use Rattle.fx_lasting.specs.nodes.Phases.{kept}
pub use Rattle.fx_lasting.specs.Runs.{Runs}
pub use Rattle.fx_lasting.specs.Tables.{hold_at, retired_at, doing_in, numbers_of_pass, pass_of, opening_of, view_of, IsBetweenCalls, Knows, IsSeatOf, meetings}
pub use Rattle.fx_lasting.specs.Tables.{changes_at, MeetsMore, IsPassOf, IsPassOfTable, first_passes, as_first}
pub use Rattle.fx_lasting.specs.declared.pass.LastingPass.{LastingPass}
pub use Rattle.fx_lasting.specs.declared.table.LastingTable.{LastingTable}
pub use Rattle.fx_lasting.specs.Effects.{TakesAs, At, rested, Lists, Skims, IsOnList, as_listed, round_at, round_from, new_round, Announces, Shows, Confirms}
pub use Rattle.fx_lasting.specs.Effects.{Withdraws, glance_after, Takes, HeatsSlot, StepsDown, TakesOut, slot_of, pass_at, pass_event, pass_in, IsInside}
pub use Rattle.fx_lasting.specs.Effects.{Stepped, Goes, Glances, Exchanges, LettingGo, Seeks, Births, Rests, Visits, Charges, Retires, first_visit}
pub use Rattle.fx_lasting.specs.Effects.{retiring_work, Found, Installs, Removes, Turns, Asks, Peeks, as_asked, as_stocked, IsWatching, changes_in, IsOvertaken}
pub use Rattle.fx_lasting.specs.Effects.{HasGap, as_swapped, NamesANode, Lowers, Checks, Breaks, Raises, Begins, Counts, Decides, Sees, HasAnnounced}
pub use Rattle.fx_lasting.specs.Effects.{HasItsHold, EndsItsHold, announcing, guarded_round, guarding, leaving_work, removal_work}
pub use Rattle.fx_lasting.specs.holds.Visits.{HasVisited, round_to}
pub use Rattle.fx_lasting.specs.nodes.Searches.{next_of}
pub use Rattle.table_range.specs.declared.views.Change.{Change}
pub use Rattle.table_range.specs.declared.views.Change.TheVariants.{Outside, Lowered, Inside}
pub use Rattle.table_range.specs.declared.views.Survey.{Survey}
pub use Rattle.table_range.specs.declared.views.Survey.TheVariants.{None as NotAsked, Covered}
pub use Rattle.fx_lasting.specs.declared.view.Glance.{Glance}
pub use Rattle.fx_lasting.specs.declared.view.Glance.TheVariants.{None as Nothing, Hot, Cold, Heating}
pub use Rattle.fx_lasting.specs.declared.view.Log.{Log}
pub use Rattle.fx_lasting.specs.declared.view.Round.{Round}
pub use Rattle.fx_lasting.specs.declared.view.Start.{Start}
pub use Rattle.fx_lasting.specs.declared.view.View.{View}
pub use Rattle.fx_lasting.specs.declared.view.Watch.{Watch}
pub use Rattle.fx_lasting.specs.slots.Watches.{ActsAt, ReplacesAt, AnotherDid, HasActed, HasReplaced, IsAsSeen, WatchAgrees, without_slot}
pub use Rattle.fx_lasting.specs.declared.view.Work.{Work}
pub use Rattle.fx_lasting.specs.declared.view.Work.TheVariants.{Idle, Announced, Counted, Guarded, Owing, Yielding, Searching, Placing, Renewing, Retiring}
pub use Rattle.fx_lasting.specs.declared.view.Work.TheVariants.{Nearing, Relieving, Emptying, Keeping}
pub use Rattle.fx_lasting.specs.declared.view.Written.{Written}
pub use Rattle.fx_lasting.specs.declared.view.Placement.{Placement}
pub use Rattle.fx_lasting.specs.declared.view.Written.TheVariants.{Nothing as Unlabelled, Tag, Label}
pub use Rattle.fx_plain.proofs.Cells.{changed_here, changed_else, by_equality, read_default, named_same}
pub use Rattle.fx_plain.specs.Contents.{state_of, Contents, slot_at, node_at, moved_node}
pub use Rattle.fx_plain.specs.History.{◌▷◌, held_by, held_after, part_of_pass, IsSeenBy, action_of, ◌▷▷◌, ReleasesItsOwn}
pub use Rattle.fx_plain.specs.State.{State, IsSettled, vacant, file_numbered}
pub use Rattle.fx_plain.specs.Step.{changed_at, with_removed, after}
pub use Rattle.fx_plain.specs.Table.{numbered, number_of, identity_of}
pub use Rattle.fx_plain.specs.declared.event.Action.{Action}
pub use Rattle.fx_plain.specs.declared.event.Action.TheVariants.{Look, Put, Take, Allocate, Close, Release, Full}
pub use Rattle.fx_plain.specs.declared.event.Event.{Event}
pub use Rattle.fx_plain.specs.declared.event.File.{File}
pub use Rattle.fx_table.proofs.SumLemmas.{contains_head, contains_map, contains_only, stands_at, one_if, bit_here, bit_else, once_is, one_more_at, one_less_at}
pub use Rattle.fx_table.proofs.SumLemmas.{counted_once, found_sum, sum_at, sum_two, sum_set, sum_le_at, sum_of, sum_zero_at, sum_only, contains_tail}
pub use Rattle.fx_table.proofs.SumLemmas.{contains_none, sum_zero, sum_map, contains_alone, each_all, read_at}
pub use Rattle.fx_words.specs.Words.{name_in, entry_in, last_node}
pub use Rattle.std.proofs.Common.{IsTrue, ◌↔◌, bit_or, eq-eqb, ne_eqb, length-append, true, map, get_or, IsSome, ◌*◌, get_or-set_other}
pub use Rattle.std.proofs.Common.{get_or-set_same, ◌/◌, lt-ltb, le-ltb, Option, Some, None, IfSome, slice_index, ◌+◌, ◌-◌, ◌%◌, ◌^◌, false, eqb, inl}
pub use Rattle.std.proofs.Common.{◌++◌, ◌⊎◌, inr, ⊎_elim, length-set, ◌≡◌, ◌≢◌, ℕ, zero, suc, ◌<◌, ◌≤◌, Bool, cond, nat_lt, List, [], ◌∷◌, length}
pub use Rattle.std.proofs.Common.{set, sym, refl, ap, ◌∙◌, subst, arith, rules, All, reverse, vec_capacity, suc-mul, add-one, append_assoc}
pub use Rattle.std.proofs.Math.Nat.{mul-le-mul_right, mod-eq_of_lt, le-mul_of_pos_right}
pub use Rattle.std.proofs.lemmas.List.{length-map, set-get_or, append-nil, set-set, length-replicate, get_or_default}
pub use Rattle.std.proofs.lemmas.List.FromFn.{length-map-range_with_len, get_or-map-range_with_len, length-range_with_len}
pub use Rattle.std.proofs.lemmas.List.Sums.{sum_by-cons}
pub use Rattle.std.specs.Int.{bit_at, w64, trailing_zeros}
pub use Rattle.std.specs.List.{range_with_len, AllWithin}
pub use Rattle.fx_table.proofs.FullSlots.{full_few}
pub use Rattle.fx_table.specs.FullSlots.{full_in, if_full}
pub use Rattle.fx_lasting.specs.life.Lives.{logs_in, IsNewPass, IsIdleSeatOf, AllAreIdle}
pub use Rattle.std.specs.Mem.Slots.{slots_items, slots_len, IsFull, slots_filled}
pub use lib.ListN.{get_elem?}
pub use mathlib.Core.Logic.{dite}
pub use mathlib.Core.Option.{some, none, some-injective, some-ne-none}
pub use native.Mathlib.Decide.{ℕ_discrete, dec_le}
pub use Rattle.std.proofs.lemmas.List.Elements.{All-contains, Contains-append_left, All-set, AllWithin-more_set}
pub use Rattle.fx_table.proofs.Calls.{seen_further, adds_then, adds_nothing, learned_so}
pub use Rattle.fx_table.specs.Calls.{Adds, LookedUp, ReleasesFile, Released, Use, no_use, one_number, one_look, IsNewFile, Placed, Taken, LookedAfter}
pub use Rattle.fx_table.specs.Opening.{Opening, HasSameFiles, state_at}
pub use Rattle.fx_table.specs.Pass.{PassView, IsIdle, IsFileRemoval, new_pass, new_passes}
pub use Rattle.fx_table.specs.Showing.{Learns}
pub use Rattle.fx_table.specs.declared.values.Doing.{Doing}
pub use Rattle.fx_table.specs.declared.values.Doing.TheVariants.{Holding, Idle as DoesNothing}
pub use Rattle.fx_table.specs.declared.values.Hold.{Hold}
pub use Rattle.fx_lasting.specs.slots.ByNode.{FitsMiss, WasSo, WasIn, SaysIf, SawIf, FailedIf, HasTriedIf, WasOvertaken, WasOvertakenIn}
pub use Rattle.fx_lasting.specs.slots.ByKey.{LookedByKey, HeldByKey, fault_for, TriesKey, KeysAreOfOneFile, KeysComeBack}
pub use Rattle.fx_lasting.specs.declared.answers.Miss.{Miss}
pub use Rattle.fx_lasting.specs.declared.key_answers.KeyFault.{KeyFault}
pub use Rattle.fx_table.specs.declared.values.Retired.{Retired}
pub use Rattle.fx_lasting.specs.declared.life.layout.TheConstants.{MOST_NODES, MOST_SLOTS, MOST_PASSES, MOST_INSTALLING}
pub use Rattle.std.proofs.lemmas.Bool.{not-false}
pub use Rattle.fx_lasting.specs.range.Questions.{HasAsked, AsksSo, DecidesIf}
pub use Rattle.fx_lasting.specs.slots.AtEmpty.{FitsSight, SeesFile, WasLost, HadGap, FellShort, FallsShort, FailsToFill, LooksFor}
pub use Rattle.fx_plain.proofs.Prepared.{inside_behind, opens_inside, numbered_anew, opening_is_start}
pub use Rattle.fx_lasting.specs.holds.FinishSteps.{Finishes}
pub use mathlib.Core.List.{map-append}
pub use Rattle.atomic_table.specs.declared.shared.Seat.{Seat}
pub use Rattle.fx_table.specs.Closing.{ClosesTable, times_drawn}
pub use Rattle.fx_table.proofs.Chains.{IsReady, fits, one_dealt, all_dealt, AreDealt}
pub use Rattle.fx_table.proofs.Seats.{gathered, last_of}
pub use Rattle.fx_lasting.specs.Bounds.{slot_word_in, node_word_in, AreBounded}
pub use Rattle.fx_lasting.specs.life.Closing.{files_at_slots, with_slot}
pub use Rattle.fx_table.proofs.Shells.{AreAtHome, AreStored, at_home, file_at, files_are, AreComing, none_came, none_named, some_came, none_there, file_put}
pub use Rattle.fx_table.proofs.Shells.{Becomes, in_place, none_left}
pub use Rattle.std.proofs.Math.ListN.{get_or-eq_default, replicate}
pub use Rattle.std.proofs.lemmas.Nat.Bits.{bit_at-zero, bit_at-trailing_zeros, bit_at_above}
pub use Rattle.std.proofs.lemmas.Nat.{div-mul-add, mod-mul-add, shr-shr}
pub use Rattle.fx_lasting.specs.slots.PutSteps.{Aims, TakesBeside, ReplacesHeld}
pub use Rattle.fx_lasting.specs.slots.SwapSteps.{SwapsOut, HasEmptied, SwapsHeld, TakesHeld, HasRemoved}
pub use prog.Atomic.{either}
pub use Rattle.fx_lasting.specs.range.Tries.{IsPlacing, HasAllocated, StillPlaces, group_steps}
pub use Rattle.std.specs.Mem.Slots.Ownership.{Filled}
pub use Rattle.table_range.proofs.GroupSlots.{few_groups, group_back, group_short, in_group, is_group, of_group, by_size, in_range_so, was_in}
pub use Rattle.table_range.proofs.GroupSlots.{group_by}
pub use Rattle.fx_lasting.specs.range.Scans.{LeadsToAll, EachFrom, EachInGroup, EachInRange, WasFull}
pub use Rattle.table_range.proofs.Counting.{AskAlike, CountAlike, counts_same, moved_one, counts_alone, counts_emptied, counts_filled}
pub use Rattle.fx_lasting.specs.slots.ReplaceByKey.{FreesFirst, TakesOn, TriedRenewal, RenewsAlone, PutsAlone, IsBeside, TriedReplaceHeld, Compared}
pub use Rattle.fx_lasting.specs.slots.ReplaceByKey.{HoldsBeside, aim_at}
pub use Rattle.fx_lasting.specs.slots.RemoveByKey.{TriedOutHeld, LeftAlone}
pub use Rattle.fx_lasting.specs.declared.key.Key.{Key}
pub use Rattle.table_seats.proofs.Moving.{alone_is_dealt, IsRule, may_join, may_split, may_show as seats_show, last_is_dealt, rest_is_dealt}
pub use Rattle.table_seats.proofs.Moving.{IsGathering}
