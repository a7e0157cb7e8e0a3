-- The names that most proofs of this crate use.
pub use Rattle.atomic_table.proofs.Lists.{at_set, set_again, set_else, set_here}
pub use Rattle.atomic_table.specs.Seated.{TableId}
pub use Rattle.atomic_table.specs.Table.{Allows, Joins, Splits, gives, keeps, rest, step, takes, opening as table_opening}
pub use Rattle.atomic_table.specs.declared.shared.Seat.{Seat}
pub use Rattle.fx_base.specs.declared.open_file.Closed.{Closed}
pub use Rattle.fx_baton.specs.Lives.{IsIdleSeatOf, IsNewPass, logs_in}
pub use Rattle.fx_baton.specs.Passes.{HasCalled, HasGivenBack, HasSeenMore, HasTable, IsPassOf, UsesNext, first_own, is_idle, next_of, pass_after}
pub use Rattle.fx_baton.specs.Passes.{view_of}
pub use Rattle.fx_baton.specs.Rule.{PutsBack, Grabs, HasFreshNumbers, IsAway, IsHome, IsKept, IsLog, IsTurn, IsView, Knows, Seated, Shared, Takes}
pub use Rattle.fx_baton.specs.Rule.{begin_of, file_held, file_in_hand, holds_by, leaving_count, lent_view, seats, log_after, opening_of, removals_by}
pub use Rattle.fx_baton.specs.Rule.{view_after}
pub use Rattle.fx_baton.specs.Tables.{IsPassOfTable}
pub use Rattle.fx_baton.specs.declared.pass.BatonPass.{BatonPass}
pub use Rattle.fx_baton.specs.declared.view.Call.{Call}
pub use Rattle.fx_baton.specs.declared.view.Log.{Log}
pub use Rattle.fx_baton.specs.declared.view.Start.{Start}
pub use Rattle.fx_baton.specs.declared.view.View.{View}
pub use Rattle.fx_plain.specs.Contents.{Contents, IsTable, is_leaving, leaving, node_at, removed_at, state_of}
pub use Rattle.fx_plain.specs.History.{IsLegal, IsSeenBy, Leads, ReleasesItsOwn, action_of, close_of, held_after, held_by, part_of_pass, ◌▷▷◌, ◌▷◌}
pub use Rattle.fx_plain.specs.State.{IsSettled, State, opening}
pub use Rattle.fx_plain.specs.Step.{Steps, changed_at, with_removed}
pub use Rattle.fx_plain.specs.Table.{EndsHold, LetsLeave, closed_by_release, closed_by_retirement, identity_of, more_leaving, numbered}
pub use Rattle.fx_plain.specs.declared.event.Action.TheVariants.{Allocate, Clear, Close, Full, Look, Put, Release, Take}
pub use Rattle.fx_plain.specs.declared.event.Event.{Event}
pub use Rattle.fx_plain.specs.declared.event.File.{File}
pub use Rattle.fx_plain.specs.declared.node.Node.{Node}
pub use Rattle.fx_table.proofs.Calls.{seen_again, seen_further, new_here, cleared_so, placed_so, taken_so, prepared_again}
pub use Rattle.fx_table.proofs.Histories.{held_mine, held_other, legal_then, one_author, part_mine, part_other}
pub use Rattle.fx_table.proofs.SumLemmas.{contains_head, contains_map, contains_mapped, contains_none, contains_only, bit_here, once_is, one_if}
pub use Rattle.fx_table.proofs.SumLemmas.{one_less_at, one_more_at, sum_at, sum_le_at, sum_map, sum_set, sum_zero_at, stands_at, contains_alone}
pub use Rattle.fx_table.proofs.Chains.{all_are_drawn, drawn_few, drawn_inside, next_is_its_own, fits, one_dealt, all_dealt}
pub use Rattle.fx_table.specs.Closing.{ClosesTable, times_drawn}
pub use Rattle.fx_table.specs.Files.{HasFile}
pub use Rattle.fx_table.specs.Numbers.{number_following, numbers_for, pass_of_chain, pass_of_number}
pub use Rattle.fx_table.specs.Opening.{Opening, size_of, state_at}
pub use Rattle.fx_table.specs.Pass.{IsFront, IsHoldOf, IsRetiredOf, PassView, hold_of, new_pass, IsFileHold, retired_of}
pub use Rattle.fx_table.specs.Turns.{HasDrawnInTurn}
pub use Rattle.fx_table.specs.declared.values.Task.{Task}
pub use Rattle.fx_table.specs.declared.values.Task.TheVariants.{Holding, Idle, Retiring}
pub use Rattle.std.proofs.Common.{Bool, List, [], ap, arith, cond, eqb, false, get_or, inl, inr, length, map, refl, reverse, set, subst, sym, true}
pub use Rattle.std.proofs.Common.{vec_capacity, ℕ, ⊎_elim, ◌*◌, ◌++◌, ◌+◌, ◌-◌, ◌<◌, ◌∙◌, ◌∷◌, ◌≡◌, ◌≢◌, ◌≤◌, ◌⊎◌}
pub use Rattle.std.specs.Prelude.{Contains, None, Option, Some, if◌then◌else◌, is_some, not, option_map, sum_by, ◌&&◌, ◌==◌}
pub use lib.ListN.{get_elem?}
pub use mathlib.Core.Logic.{dite}
pub use mathlib.Core.Option.{none, some, some-injective}
pub use native.Mathlib.Decide.{ℕ_discrete}
pub use Rattle.fx_table.specs.Tasks.{activity_of, retiring}
pub use Rattle.fx_baton.specs.Turns.{holds_now, actions_of, doing_of, events_of, use_of, table_of_seats, by, table_of_loan}
pub use Rattle.fx_table.proofs.Growing.{Grows}
pub use Rattle.fx_table.proofs.Seats.{IsAnew, gathered, last_of}
pub use Rattle.table_seats.proofs.Gathered.{AreGathered, each_rests, its_log as gathered_log, numbers, of_only, pass_of, whole as gathered_whole}
pub use Rattle.table_seats.proofs.Together.{HasLaws, Moves, its_pass, not_there, started, known, opens as seats_open, reseated as seats_reseated}
pub use Rattle.table_seats.proofs.Together.{stepped}
pub use Rattle.table_seats.specs.Together.{HasSeen}
pub use Rattle.table_seats.specs.Seats.{dealt, first_alone, first_view, front_in, shown_view, without_first, joined, spent}
pub use Rattle.std.proofs.lemmas.Option.{none-some}
pub use Rattle.std.proofs.lemmas.List.{append-nil, set-get_or}
pub use Rattle.table_seats.proofs.Moving.{IsDealing, IsGathering, IsRule, alone_is_dealt, may_join as seats_join, may_observe, may_show as seats_show}
pub use Rattle.table_seats.proofs.Moving.{may_split as seats_split}
