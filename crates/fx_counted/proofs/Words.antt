-- The names that these proofs cite, passed on from one place. Declares nothing.
pub use Rattle.atomic_table.proofs.Lists.{at_map, at_set, set_else, set_here}
pub use Rattle.atomic_table.specs.Seated.{TableId}
pub use Rattle.atomic_table.specs.Table.{Act, Allows, Final, Seen, Valid, carried_after, gives, keeps, rest, step, stepped, takes, Splits}
pub use Rattle.atomic_table.specs.declared.shared.Seat.{Seat}
pub use Rattle.fx_base.specs.declared.open_file.Closed.{Closed}
pub use Rattle.fx_counted.specs.Agrees.{Agrees, Does, HasShape, Home, IsGone, IsSeated, LogAgrees, Names, NodeAgrees, OwnerAgrees, PlacesNext}
pub use Rattle.fx_counted.specs.Agrees.{SlotAgrees, ViewAgrees, WorkAgrees}
pub use Rattle.fx_counted.specs.Changing.{HasToReport, InRange, begun, difference}
pub use Rattle.fx_counted.specs.Control.{ControlCounts, added, added_of, changes_of, in_change, removed_by, removed_of}
pub use Rattle.fx_counted.specs.Counts.{all_looks, look_in, looks, looks_after}
pub use Rattle.fx_counted.specs.Cuts.{seats}
pub use Rattle.fx_counted.specs.Draws.{DrawsCount}
pub use Rattle.fx_counted.specs.Firsts.{AreFirstWords}
pub use Rattle.fx_counted.specs.Goes.{Goes}
pub use Rattle.fx_counted.specs.Laws.{AnswersKeep, BeginsKeep, BirthsKeep, ClearsKeep, DrawsKeep, EndsKeep, ExchangesKeep, HasPass, InstallsKeep}
pub use Rattle.fx_counted.specs.Laws.{IsInRange, JoinsKeep, LoadsKeep, LooksKeep, MayChange, ReleasesKeep, RestsKeep, RetiresKeep, SplitsKeep}
pub use Rattle.fx_counted.specs.Laws.{TakesKeep, place_of, word_of}
pub use Rattle.fx_counted.specs.Layout.{HasNode, PlacesAreApart, PlacesAreInside, control_place, draw_place, home_place, homes_for, node_place}
pub use Rattle.fx_counted.specs.Layout.{slot_of, slot_place, words_for}
pub use Rattle.fx_counted.specs.Lives.{AllAreIdle, IsIdleSeatOf, IsNewPass, Leaves, logs_in}
pub use Rattle.fx_counted.specs.Moves.{HasPlace}
pub use Rattle.fx_counted.specs.Opens.{OpensWith, first_file, home_for, node_for, word_for}
pub use Rattle.fx_counted.specs.Passes.{IsNumber, Sat, Shared, chain_in, chain_numbers, doing_in, drawn_of, end_in, first_log, first_or, held_in}
pub use Rattle.fx_counted.specs.Passes.{held_of, holding, looks_of, new_log, next_in, opening_of, pass_of, placing, shown, slots_of, state_after_all}
pub use Rattle.fx_counted.specs.Passes.{steps_of, ended_of}
pub use Rattle.fx_counted.specs.Phases.{Phase, closed, emptied, file_in, leaving, owner, placed, retired, seated, spare, unborn}
pub use Rattle.fx_counted.specs.Searching.{HasAllocated, HasFoundAllFull, IsPlacing, Proceeds, StillPlaces, Tries}
pub use Rattle.fx_counted.specs.Tables.{IsBetweenCalls, IsPassOf, IsPassOfTable, is_idle, opening_of_table, view_of}
pub use Rattle.fx_counted.specs.Effects.{Births, DrawsChain, Exchanges, GoesOn, Installs, IsInside, LetsGo, Looks, Releases, Removes, Rests, Retires}
pub use Rattle.fx_counted.specs.Effects.{SaysFull, Stepped, TakesOut, chain_given, holds_now, turned}
pub use Rattle.fx_counted.specs.declared.pass.CountedPass.{CountedPass}
pub use Rattle.fx_counted.specs.declared.table.CountedTable.{CountedTable}
pub use Rattle.fx_counted.specs.declared.view.Change.{Change}
pub use Rattle.fx_counted.specs.declared.view.Change.TheVariants.{More, Outside, Same}
pub use Rattle.fx_counted.specs.declared.view.Log.{Log}
pub use Rattle.fx_counted.specs.declared.view.Start.{Start}
pub use Rattle.fx_counted.specs.declared.view.View.{View}
pub use Rattle.fx_counted.specs.declared.view.Work.{Work}
pub use Rattle.fx_counted.specs.declared.view.Work.TheVariants.{Between, Emptying, Placing}
pub use Rattle.fx_plain.proofs.Cells.{changed_else, changed_here}
pub use Rattle.fx_plain.specs.Contents.{Contents, IsPrepared, state_of}
pub use Rattle.fx_plain.specs.History.{IsLegal, ReleasesItsOwn, action_of, held_after, held_by, part_of_pass, ◌▷▷◌, ◌▷◌}
pub use Rattle.fx_plain.specs.State.{IsSettled, State}
pub use Rattle.fx_plain.specs.Step.{changed_at, with_removed}
pub use Rattle.fx_plain.specs.Table.{number_of, numbered}
pub use Rattle.fx_plain.specs.declared.event.Action.{Action}
pub use Rattle.fx_plain.specs.declared.event.Action.TheVariants.{Allocate, Clear, Close, Full, Look, Put, Release, Take}
pub use Rattle.fx_plain.specs.declared.event.Event.{Event}
pub use Rattle.fx_plain.specs.declared.event.File.{File}
pub use Rattle.fx_table.proofs.SumLemmas.{contains_head, contains_map, contains_mapped, contains_only, each_all, read_at, stands_at, bit_else}
pub use Rattle.fx_table.proofs.SumLemmas.{bit_here, once_is, once_more, one_if, one_less_at, one_more_at, times, found_sum, sum_at, sum_le_at}
pub use Rattle.fx_table.proofs.SumLemmas.{sum_map, sum_of, sum_set, sum_two, sum_zero, sum_zero_at, contains_alone}
pub use Rattle.fx_table.proofs.FullSlots.{full_all, full_else, full_few, full_here}
pub use Rattle.fx_table.specs.FullSlots.{first_at, full_in, if_full}
pub use Rattle.fx_table.specs.Shells.{AreBack, AreFirstHomes}
pub use Rattle.fx_table.specs.Calls.{Adds, Draws, Use, both_uses, no_use, one_look, one_number}
pub use Rattle.fx_table.specs.Closing.{ClosesTable, times_drawn}
pub use Rattle.fx_table.specs.Numbers.{numbers_for, numbers_up_to, once}
pub use Rattle.fx_table.specs.Opening.{HasSameFiles, range_of, size_of, start_of}
pub use Rattle.fx_table.specs.Pass.{IsIdle, PassView, event_of, new_pass, next_number, retired_of, hold_of}
pub use Rattle.fx_table.specs.Settling.{IsSettledSoFar}
pub use Rattle.fx_table.specs.Tasks.{activity_of, retiring}
pub use Rattle.fx_table.specs.declared.limits.TheConstants.{MAX_CHAINS, MAX_PASSES}
pub use Rattle.fx_table.specs.declared.values.Retired.{Retired}
pub use Rattle.fx_table.specs.declared.values.Task.TheVariants.{Holding, Idle, Retiring}
pub use Rattle.fx_words.proofs.Parts.{entry_made, entry_more, name_made, name_more, named_suc, takes_made, takes_more}
pub use Rattle.fx_words.specs.Words.{born, control_word_of, end_amount_of, full_word_of, name_in, named, node_in, one_change, retire_amount_of}
pub use Rattle.fx_words.specs.Words.{slot_word_of, takes_in}
pub use Rattle.std.proofs.Common.{Bool, IsSome, List, None, Option, Some, [], ap, arith, cond, eq-eqb, eqb, false, get_or, get_or-set_other}
pub use Rattle.std.proofs.Common.{get_or-set_same, inl, inr, le-ltb, length, length-set, lt-ltb, map, nat_eq, nat_lt, refl, reverse, rules, set}
pub use Rattle.std.proofs.Common.{slice_index, subst, suc, sym, true, vec_capacity, zero, ℕ, ⊎_elim, ◌%◌, ◌&&◌, ◌*◌, ◌++◌, ◌+◌, ◌-◌, ◌<◌, ◌^◌, ◌∙◌}
pub use Rattle.std.proofs.Common.{◌∷◌, ◌≡◌, ◌≢◌, ◌≤◌, ◌⊎◌, not}
pub use Rattle.std.proofs.Math.Nat.{mul-add, mul-le-mul_left, mul-le-mul_right}
pub use Rattle.std.proofs.lemmas.List.{append-nil, length-map, set-get_or}
pub use Rattle.std.proofs.lemmas.List.Elements.{All-contains, Contains-append_left}
pub use Rattle.std.proofs.lemmas.List.Sums.{count_by-le-length, sum_by-append, sum_by-cons}
pub use Rattle.std.specs.List.{range_with_len}
pub use Rattle.std.specs.Mem.Slots.{IsFull, slots_items, slots_len}
pub use Rattle.std.specs.Prelude.{Contains, count_by, is_some, option_map, sum_by, ℤ}
pub use lib.ListN.{get_elem?}
pub use mathlib.Core.Logic.{dite}
pub use mathlib.Core.Option.{none, some, some-injective, some-ne-none}
pub use native.Mathlib.Decide.{dec_le, ℕ_discrete}
pub use Rattle.fx_table.proofs.Calls.{adds_then, cleared_so, placed_so, new_here, taken_so, seen_again, learned_so}
pub use Rattle.fx_table.specs.declared.values.Hold.{Hold}
pub use Rattle.fx_plain.proofs.Prepared.{inside_behind, opens_inside, numbered_anew}
pub use Rattle.fx_table.proofs.Seats.{gathered, last_of}
pub use Rattle.table_seats.proofs.Gathered.{AreGathered, total_of_seat, each_rests, its_log as gathered_log, of_only, total, whole as gathered_whole}
pub use Rattle.table_seats.proofs.Together.{HasLaws, Moves, its_pass as seats_pass, not_there, of_one, total_same, known, learned as seats_learn}
pub use Rattle.table_seats.proofs.Together.{opens as seats_open, reseated as seats_reseated, stepped as seats_step}
pub use Rattle.table_seats.specs.Seats.{dealt, first_alone, first_view, new_logs, shown_view, without_first}
pub use Rattle.table_seats.specs.Together.{HasSeen, lengths}
pub use Rattle.fx_table.proofs.Growing.{Grows, grows_none, grows_one, part_mine, each_changed}
pub use Rattle.fx_table.proofs.Chains.{some_there, some_times, IsReady, fits, one_dealt, all_dealt}
pub use Rattle.table_seats.proofs.Moving.{may_observe, IsDealing, IsGathering}
