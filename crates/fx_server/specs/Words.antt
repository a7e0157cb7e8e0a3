-- The names of other crates and of types that definitions and clauses here use, from one place.
pub use Rattle.std.specs.Prelude.{ℕ, ℤ, pos, Bool, true, false, Option, Some, None, Result, Ok, Err}
pub use Rattle.std.specs.Prelude.{List, zero, suc, nat_lt, map, length, slice_index_or, All, IfOk}
pub use Rattle.std.specs.Prelude.{IfErr}
pub use Rattle.fx_base.specs.Identity.{Identity}
pub use Rattle.fx_table.specs.Calls.{LookedUp, Placed, Released, Taken, HasRetired}
pub use Rattle.fx_table.specs.Opening.{Opening, start_of, state_at, lasting_opening, size_of}
pub use Rattle.fx_table.specs.Pass.{PassView, IsIdle, IsHoldOf}
pub use Rattle.fx_table.specs.declared.values.Hold.{Hold}
pub use Rattle.fx_table.specs.declared.values.Retired.{Retired}
pub use Rattle.fx_server.specs.declared.answers.CoreOutcome.{CoreOutcome}
pub use Rattle.fx_server.specs.declared.answers.TheConstants.{NO_OUTCOME}
pub use Rattle.fx_server.specs.declared.codes.TheConstants.{AGAIN, DONE, EMPTY, FULL, IDLE, NO_SLOT}
pub use Rattle.fx_server.specs.declared.codes.TheConstants.{STALE, DROPPED, BUSY, IN_USE, READER}
pub use Rattle.fx_server.specs.declared.codes.TheConstants.{BAD_ARGUMENT, NO_MEMORY}
pub use Rattle.fx_server.specs.declared.worker.Held.{Held}
pub use Rattle.fx_lasting.specs.slots.ByKey.{LookedByKey, IsKeyOf}
pub use Rattle.fx_lasting.specs.Tables.{view_of, opening_of_table, first_passes, IsPassOfTable}
pub use Rattle.fx_lasting.specs.declared.key.Key.{Key}
pub use Rattle.fx_lasting.specs.declared.key_answers.KeyFault.{KeyFault}
pub use Rattle.fx_lasting.specs.declared.pass.LastingPass.{LastingPass}
pub use Rattle.fx_plain.specs.History.{◌▷◌, ◌▷▷◌, IsLegal, part_of_pass}
pub use Rattle.fx_plain.specs.Laws.{IsInstalled, IsStart}
pub use Rattle.fx_plain.specs.State.{State, vacant}
pub use Rattle.fx_plain.specs.declared.event.Event.{Event}
pub use Rattle.fx_plain.specs.declared.event.File.{File}
pub use Rattle.fx_lasting.specs.nodes.Labels.{number_of_mark}
pub use Rattle.fx_lasting.specs.declared.life.layout.TheConstants.{MOST_INSTALLING, MOST_SLOTS}
pub use Rattle.fx_lasting.specs.declared.life.layout.TheConstants.{MOST_PASSES}
pub use Rattle.fx_server.specs.declared.file_numbers.FileNumbers.{FileNumbers}
pub use Rattle.std.specs.Global.{Global, Box}
pub use Rattle.fx_table.specs.declared.values.Doing.TheVariants.{Holding}
pub use Rattle.std.specs.Borrow.{Lends, MutBor, Fml, sem}
pub use Rattle.fx_lasting.specs.declared.table.LastingTable.{LastingTable}
pub use Rattle.fx_server.specs.declared.shared.Shared.{Shared}
pub use Rattle.std.specs.Arc.{arc_value}
