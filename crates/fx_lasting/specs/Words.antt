-- The names of other crates and of types that definitions and clauses here use, from one place.
pub use Rattle.std.specs.Prelude.{ℕ, List, slice_index, Bool, true, false, [], Option, zero, suc}
pub use Rattle.std.specs.Prelude.{nat_lt, min, slice_set, map, count_by, Some, IsSome, bit_and, not}
pub use Rattle.std.specs.Prelude.{replicate, length, Err, Contains, sum_by, flat_map, Result, Ok}
pub use Rattle.std.specs.Prelude.{IsTrue, is_some, option_map, reverse, vec_len, vec_capacity, All}
pub use Rattle.std.specs.Prelude.{IfOk, IfSome, IfErr}
pub use Rattle.fx_plain.specs.declared.event.Event.{Event}
pub use Rattle.fx_lasting.specs.declared.view.Start.{Start}
pub use Rattle.fx_base.specs.Identity.{Identity}
pub use Rattle.fx_plain.specs.declared.event.File.{File}
pub use Rattle.fx_lasting.specs.declared.view.Log.{Log}
pub use Rattle.fx_lasting.specs.declared.view.Work.{Work}
pub use Rattle.fx_lasting.specs.declared.view.Work.TheVariants.{Yielding, Counted, Keeping}
pub use Rattle.fx_lasting.specs.declared.view.Work.TheVariants.{Announced, Guarded, Owing}
pub use Rattle.fx_lasting.specs.declared.view.Work.TheVariants.{Searching, Placing, Renewing}
pub use Rattle.fx_lasting.specs.declared.view.Work.TheVariants.{Nearing, Relieving, Emptying}
pub use Rattle.table_range.specs.Groups.{group_place, groups_in, group_at, group_of, is_in}
pub use Rattle.table_range.specs.Groups.{question_place, group_size}
pub use Rattle.fx_lasting.specs.declared.view.Round.{Round}
pub use Rattle.fx_lasting.specs.declared.view.View.{View}
pub use Rattle.atomic_table.specs.Table.{Step, rest, step, Splits, Joins, Allows, Me}
pub use Rattle.fx_plain.specs.History.{◌▷◌, IsSeenBy, part_of_pass, state_after, action_of, IsLegal}
pub use Rattle.fx_plain.specs.History.{held_by, ◌▷▷◌}
pub use Rattle.fx_plain.specs.Table.{numbered, identity_of}
pub use Rattle.fx_plain.specs.declared.event.Action.{Action}
pub use Rattle.fx_plain.specs.declared.event.Action.TheVariants.{Look, Release, Put, Allocate}
pub use Rattle.fx_plain.specs.declared.event.Action.TheVariants.{Close, Take, Clear}
pub use Rattle.fx_words.specs.Words.{entry_in, name_in, named, slot_word_of, last_node}
pub use Rattle.table_range.specs.Counts.{account, CountsAll, HasQuestionOf, bit_of, uncounted}
pub use Rattle.table_range.specs.Counts.{lowered, raised, with_question, RangeCounts}
pub use Rattle.table_range.specs.declared.groups.TheConstants.{RANGE_END, MOST_GROUPS}
pub use Rattle.table_range.specs.declared.views.Survey.{Survey}
pub use Rattle.table_range.specs.declared.views.Survey.TheVariants.{Covered}
pub use Rattle.table_range.specs.declared.views.Change.{Change}
pub use Rattle.table_range.specs.declared.views.Change.TheVariants.{Outside, Lowered, Inside}
pub use Rattle.fx_lasting.specs.declared.view.Glance.{Glance}
pub use Rattle.fx_lasting.specs.declared.view.Glance.TheVariants.{Hot, Cold, Heating}
pub use Rattle.fx_lasting.specs.declared.view.Placement.{Placement}
pub use Rattle.fx_lasting.specs.declared.view.Written.TheVariants.{Nothing, Tag, Label}
pub use Rattle.std.specs.Int.{bit_at}
pub use Rattle.fx_lasting.specs.declared.life.layout.TheConstants.{MOST_INSTALLING, MOST_SLOTS}
pub use Rattle.fx_lasting.specs.declared.life.layout.TheConstants.{MOST_PASSES, MOST_NODES}
pub use Rattle.fx_lasting.specs.declared.life.layout.TheConstants.{STOCK_SPACING}
pub use Rattle.fx_lasting.specs.declared.view.Written.{Written}
pub use Rattle.fx_plain.specs.Contents.{Contents, state_of}
pub use Rattle.fx_lasting.specs.declared.view.Watch.{Watch}
pub use Rattle.fx_lasting.specs.declared.key.Key.{Key}
pub use Rattle.fx_lasting.specs.declared.key_answers.PutOverKey.TheVariants.{Missed, Replaced}
pub use Rattle.fx_lasting.specs.declared.pass.LastingPass.{LastingPass}
pub use Rattle.atomic_table.specs.Seated.{TableId}
pub use Rattle.fx_table.specs.Opening.{Opening, lasting_opening, start_of, state_at, HasSameFiles}
pub use Rattle.fx_table.specs.Opening.{size_of, range_of}
pub use Rattle.fx_table.specs.Pass.{PassView, IsFront, new_passes, IsFileRemoval, IsIdle, IsHoldOf}
pub use Rattle.fx_table.specs.Pass.{IsRetiredOf}
pub use Rattle.fx_table.specs.declared.values.Doing.TheVariants.{Holding}
pub use Rattle.fx_table.specs.declared.values.Hold.{Hold}
pub use Rattle.fx_table.specs.declared.values.Retired.{Retired}
pub use Rattle.table_seats.specs.Seats.{Seats, first_view}
pub use Rattle.std.specs.List.{range_with_len}
pub use Rattle.fx_plain.specs.State.{IsSettled, vacant}
pub use Rattle.fx_base.specs.declared.mark.Mark.{Mark}
pub use Rattle.fx_base.specs.declared.mark.Mark.TheVariants.{Registered, Submitted}
pub use Rattle.fx_table.specs.Calls.{Adds, no_use, IsNewFile, one_number, LookedUp, ReleasesFile}
pub use Rattle.fx_table.specs.Calls.{IsHandedOut, Looked, Released, Placed, HasRetired}
pub use Rattle.fx_lasting.specs.declared.tried.TriedPut.{TriedPut}
pub use Rattle.fx_lasting.specs.declared.tried.TriedPut.TheVariants.{At}
pub use Rattle.fx_lasting.specs.declared.answers.Miss.{Miss}
pub use Rattle.fx_lasting.specs.declared.key_answers.KeyFault.{KeyFault}
pub use Rattle.fx_table.specs.declared.values.LookFault.TheVariants.{Spent}
pub use Rattle.fx_base.specs.declared.open_file.Closed.{Closed}
