-- The names that these proofs cite, passed on from one place. Declares nothing.
pub use Rattle.fx_lasting.proofs.Words.{state_at_start, as_first, first_passes, opening_of, view_of, HeldByKey, LookedByKey, fault_for, IsSeenBy}
pub use Rattle.fx_lasting.proofs.Words.{action_of, part_of_pass, ◌▷▷◌, ◌▷◌, State, file_numbered, vacant, after, Action, Close, Look, Put, Release}
pub use Rattle.fx_lasting.proofs.Words.{Take, Event, File, Adds, LookedUp, ReleasesFile, Use, one_look, Opening, PassView, new_pass, Doing, Holding}
pub use Rattle.fx_lasting.proofs.Words.{Hold, Retired, All, Bool, Err, List, None, Ok, Option, Result, [], ap, arith, cond, false, inl, inr, le-ltb}
pub use Rattle.fx_lasting.proofs.Words.{length, lt-ltb, length-append, map, nat_lt, ne_eqb, refl, reverse, rules, set, subst, suc, suc-mul, sym, zero}
pub use Rattle.fx_lasting.proofs.Words.{ℕ, ◌*◌, ◌++◌, ◌+◌, ◌-◌, ◌/◌, ◌<◌, ◌^◌, ◌∙◌, ◌∷◌, ◌≡◌, ◌≢◌, ◌≤◌, ◌⊎◌, append_assoc, length-map, length-set}
pub use Rattle.fx_lasting.proofs.Words.{map-append, get_or-map-range_with_len, length-map-range_with_len, range_with_len, Some, Contents, state_of}
pub use Rattle.fx_lasting.proofs.Words.{eq-eqb, dite, ℕ_discrete, dec_le}
pub use Rattle.fx_table.proofs.Words.{start_of, IsFront, event_of, drop, slice_index_or, take, get_or-map, take-append-drop, All-push}
pub use Rattle.fx_table.proofs.Words.{map-range_with_len_more, common_steps}
pub use Rattle.fx_plain.proofs.Words.{AllowsAll, state_after, IsInstalled, IsStart, installed_by, Allows, All-cons, All-nil}
pub use Rattle.fx_base.specs.Identity.{Identity}
pub use Rattle.fx_box.proofs.Lends.{Lender, lends}
pub use Rattle.fx_box.proofs.Moves.{Move, moves}
pub use Rattle.fx_lasting.specs.Passes.{empty_slots}
pub use Rattle.fx_lasting.specs.Tables.{opening_of_table}
pub use Rattle.fx_lasting.specs.declared.answers.PutEmpty.{PutEmpty}
pub use Rattle.fx_lasting.specs.declared.key_answers.KeyFault.TheVariants.{Stale}
pub use Rattle.fx_lasting.specs.declared.tried.TriedPut.{TriedPut}
pub use Rattle.fx_lasting.specs.declared.tried.TriedPut.TheVariants.{Again, At, Full}
pub use Rattle.fx_lasting.specs.range.Tries.{TriedSo}
pub use Rattle.fx_lasting.specs.slots.AtEmpty.{HasPutEmpty, HasSearched}
pub use Rattle.fx_lasting.specs.slots.ByKey.{IsKeyOf}
pub use Rattle.fx_lasting.specs.slots.RemoveByKey.{TakesAlone}
pub use Rattle.fx_server.specs.Answers.{ChecksCurrentAs, GetsAtAs, KeepsIfFound, PutsAt, ReleasesAs, RemovesAtAs, RetiresAny, UsesIfTried, empty_code}
pub use Rattle.fx_server.specs.Answers.{tried_code}
pub use Rattle.fx_server.specs.ByKey.{GetsAs, RemovesAs, RemovesByOne, ReplacesByOne}
pub use Rattle.fx_server.specs.EndsOfKeys.{DoneRemovalsEndKeys, DoneReplacementsEndKeys, HasEnded, KeysEndOnce, file_leaving}
pub use Rattle.fx_server.specs.FileNumbers.{NumbersAreDrawnOnce, NumbersLast, after_draw, after_draws, after_keep, first_numbers, number_after}
pub use Rattle.fx_server.specs.FileNumbers.{number_drawn, numbers_of_all, without_kept}
pub use Rattle.fx_server.specs.Files.{file_with}
pub use Rattle.fx_server.specs.FilesNumbers.{DrawsItsNumbers, FilesHaveTheirOwnNumbers, HaveDrawnNumbers, KeepsItsNumbers, WasDrawn, number_of_file}
pub use Rattle.fx_server.specs.FilesNumbers.{OpenedWorkersDrawTheirNumbers}
pub use Rattle.fx_server.specs.KeysFindFiles.{AKeyFindsItsFile, AreExportCalls, ExportsKeepNumbers, FilesInUseHaveTheirNumbers, IsExportCall, IsInUse}
pub use Rattle.fx_server.specs.KeysFindFiles.{ReturnsKey, find, get, get_at, insert, inserts, is_current, put_empty, puts_empty, release, remove}
pub use Rattle.fx_server.specs.KeysFindFiles.{remove_at, replace, replace_at, replaces, replaces_at}
pub use Rattle.fx_server.specs.Opened.{AreDealt, AreOpened, workers_in}
pub use Rattle.fx_server.specs.Outcomes.{IsDone, dropped_or, fault_code}
pub use Rattle.fx_server.specs.Places.{workers_at}
pub use Rattle.fx_server.specs.Worker.{TableWorker}
pub use Rattle.fx_server.specs.Workers.{HasLabel, IsGood, IsReady, IsRefused, IsRefusedAt, RetiresAs, hold_in, its_opening, its_pass, its_start}
pub use Rattle.fx_server.specs.Workers.{its_table}
pub use Rattle.fx_server.specs.declared.answers.CoreOutcome.{CoreOutcome}
pub use Rattle.fx_server.specs.declared.codes.TheConstants.{DONE, IN_USE, STALE}
pub use Rattle.fx_server.specs.declared.file_numbers.FileNumbers.{FileNumbers}
pub use Rattle.fx_table.specs.Calls.{HasRetired, PlacedFile}
pub use Rattle.fx_table.specs.Opening.{lasting_opening}
pub use Rattle.fx_table.specs.Pass.{IsHoldOf}
pub use Rattle.fx_table.specs.declared.values.LookFault.TheVariants.{Empty as EmptySlot, Spent}
pub use Rattle.std.proofs.Common.{pos, ℤ}
pub use Rattle.std.proofs.lemmas.List.{drop-set, drop_at, map-set, take_at}
pub use Rattle.std.proofs.lemmas.List.Elements.{All-head, All-map, All-pop, All-same, All-tail, All-weaker}
pub use Rattle.std.specs.Arc.{arc_value}
pub use Rattle.std.specs.Global.{Box}
pub use denote.Param.Send.{IsSend, owning_send, sendable}
pub use Rattle.fx_lasting.specs.declared.key.Key.{Key}
pub use Rattle.fx_lasting.specs.declared.key_answers.KeyFault.{KeyFault}
pub use Rattle.fx_lasting.specs.declared.life.layout.TheConstants.{MOST_INSTALLING}
pub use Rattle.fx_lasting.specs.declared.pass.LastingPass.{LastingPass}
pub use Rattle.fx_lasting.specs.declared.view.Start.{Start}
