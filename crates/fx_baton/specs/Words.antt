-- The names of other crates and of types that definitions and clauses here use, from one place.
pub use Rattle.std.specs.Prelude.{ℕ, List, [], Some, None, true, false, Bool, map, Option, Contains}
pub use Rattle.std.specs.Prelude.{sum_by, length, option_map, All, refl}
pub use Rattle.atomic_table.specs.Table.{step, Splits, Joins, Allows, Me, Step}
pub use Rattle.fx_plain.specs.Contents.{Contents, IsTable, state_of, leaving}
pub use Rattle.fx_plain.specs.declared.event.Event.{Event}
pub use Rattle.fx_table.specs.declared.values.Task.{Task}
pub use Rattle.fx_table.specs.declared.values.Task.TheVariants.{Idle, Holding, Retiring}
pub use Rattle.fx_baton.specs.declared.view.Log.{Log}
pub use Rattle.fx_baton.specs.declared.view.View.{View}
pub use Rattle.fx_baton.specs.declared.view.Start.{Start}
pub use Rattle.table_seats.specs.Seats.{without_first, first_alone, joined, spent, first_view}
pub use Rattle.table_seats.specs.Seats.{front_in, Seats}
pub use Rattle.atomic_table.specs.declared.shared.Seat.{Seat}
pub use Rattle.fx_plain.specs.State.{opening, IsSettled}
pub use Rattle.fx_table.specs.declared.limits.TheConstants.{PASS_LOOKS, FIRST_CHAIN_NUMBER}
pub use Rattle.fx_table.specs.declared.limits.TheConstants.{MAX_PASSES, MAX_CHAINS}
pub use Rattle.fx_baton.specs.declared.pass.BatonPass.{BatonPass}
pub use Rattle.fx_plain.specs.History.{IsSeenBy, IsLegal, part_of_pass, held_by, ◌▷▷◌, close_of}
pub use Rattle.fx_plain.specs.History.{◌▷◌}
pub use Rattle.fx_table.specs.Numbers.{chains_of_pass, numbers_for, number_following}
pub use Rattle.fx_table.specs.Numbers.{pass_of_number}
pub use Rattle.fx_table.specs.Pass.{PassView, IsFront, IsIdle, retired_of, new_passes}
pub use Rattle.fx_table.specs.Opening.{state_at, Opening, opening_with, start_of, IsGivenBack}
pub use Rattle.fx_table.specs.Opening.{size_of, range_of}
pub use Rattle.fx_table.specs.Calls.{Adds, Use, no_use, one_look, one_number}
pub use Rattle.fx_table.specs.Tasks.{activity_of, retiring}
pub use Rattle.fx_baton.specs.declared.view.Call.{Call}
pub use Rattle.fx_plain.specs.declared.event.File.{File}
pub use Rattle.fx_plain.specs.Table.{numbered, closed_by_release, closed_by_retirement, number_of}
pub use Rattle.fx_plain.specs.declared.table.TheConstants.{MOST_SLOTS}
pub use Rattle.fx_table.specs.Closing.{ClosesTable}
