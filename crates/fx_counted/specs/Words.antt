-- The names of other crates and of types that definitions and clauses here use, from one place.
pub use Rattle.std.specs.Prelude.{ℕ, true, List, length, slice_index, Option, Some, None, Contains}
pub use Rattle.std.specs.Prelude.{count_by, sum_by, false, [], zero, suc, nat_lt, option_map, map}
pub use Rattle.std.specs.Prelude.{reverse, All, refl, IfSome}
pub use Rattle.fx_base.specs.Identity.{Identity}
pub use Rattle.fx_plain.specs.History.{held_by, part_of_pass, ◌▷◌, IsSeenBy}
pub use Rattle.fx_plain.specs.Table.{numbered}
pub use Rattle.fx_plain.specs.declared.event.File.{File}
pub use Rattle.fx_plain.specs.declared.event.Event.{Event}
pub use Rattle.fx_plain.specs.declared.table.TheConstants.{MOST_SLOTS}
pub use Rattle.fx_table.specs.declared.limits.TheConstants.{CHAIN_NUMBERS, MAX_CHAINS, MAX_PASSES}
pub use Rattle.fx_table.specs.declared.limits.TheConstants.{PASS_LOOKS, FIRST_CHAIN_NUMBER}
pub use Rattle.fx_table.specs.Opening.{range_of, HasSameFiles, Opening, state_at, size_of}
pub use Rattle.fx_table.specs.Opening.{IsGivenBack, opening_of_chains}
pub use Rattle.fx_words.specs.Words.{name_in, entry_in, takes_in, born, node_in, one_change, bias}
pub use Rattle.fx_words.specs.Words.{full_word_of, control_word_of, slot_word_of, retire_amount_of}
pub use Rattle.fx_counted.specs.declared.view.Log.{Log}
pub use Rattle.fx_counted.specs.declared.view.Start.{Start}
pub use Rattle.fx_counted.specs.declared.view.View.{View}
pub use Rattle.fx_counted.specs.declared.view.Work.{Work}
pub use Rattle.fx_counted.specs.declared.view.Work.TheVariants.{Between, Placing, Emptying}
pub use Rattle.fx_table.specs.declared.values.Task.TheVariants.{Idle, Holding, Retiring}
pub use Rattle.fx_table.specs.Pass.{IsFront, next_number, PassView, IsIdle, IsHoldOf, IsRetiredOf}
pub use Rattle.fx_table.specs.Pass.{retired_of, new_passes}
pub use Rattle.fx_counted.specs.declared.view.Change.{Change}
pub use Rattle.fx_counted.specs.declared.view.Change.TheVariants.{Outside, Same, More, Less}
pub use Rattle.fx_table.specs.FullSlots.{full_in, if_full, first_at}
pub use Rattle.fx_plain.specs.declared.event.Action.{Action}
pub use Rattle.fx_plain.specs.declared.event.Action.TheVariants.{Look, Release, Put, Allocate, Full}
pub use Rattle.fx_plain.specs.declared.event.Action.TheVariants.{Close, Clear, Take}
pub use Rattle.fx_plain.specs.Contents.{Contents, state_of, IsPrepared}
pub use Rattle.table_seats.specs.Seats.{Seats, without_first, first_alone, joined, spent}
pub use Rattle.table_seats.specs.Seats.{first_view}
pub use Rattle.fx_table.specs.Numbers.{numbers_up_to, once}
pub use Rattle.atomic_table.specs.Table.{Step, rest, step, Splits, Joins, Allows, opening, Me}
pub use Rattle.fx_table.specs.Calls.{Use, no_use, one_look, one_number, Adds, Draws, Looked}
pub use Rattle.fx_table.specs.Calls.{Released, Placed, Cleared, Taken, HasRetired}
pub use Rattle.fx_table.specs.Tasks.{retiring, activity_of}
pub use Rattle.atomic_table.specs.declared.shared.Seat.{Seat}
pub use Rattle.fx_plain.specs.State.{IsSettled}
pub use Rattle.fx_counted.specs.declared.pass.CountedPass.{CountedPass}
pub use Rattle.fx_table.specs.Closing.{ClosesTable}
pub use Rattle.fx_table.specs.Shells.{IsShellOf}
