-- The names that most proofs of this crate use.
pub use Rattle.fx_plain.proofs.Cells.{by_equality, changed_here, changed_else}
pub use Rattle.fx_plain.specs.Contents.{Contents, state_of, leaving, is_leaving, IsTable, node_at, removed_at, IsPrepared}
pub use Rattle.fx_plain.specs.History.{IsLegal, IsSeenBy, held_by, part_of_pass, ◌▷▷◌, ◌▷◌, part_of_chain, held_after, Leads, action_of}
pub use Rattle.fx_plain.specs.History.{AllReleaseTheirOwn}
pub use Rattle.fx_plain.specs.State.{State, opening, file_numbered, files_in_order, identities_of, IsSettled}
pub use Rattle.fx_plain.specs.Step.{changed_at, with_removed, after}
pub use Rattle.fx_plain.specs.declared.event.Action.{Action}
pub use Rattle.fx_plain.specs.declared.event.Event.{Event}
pub use Rattle.fx_table.specs.Calls.{Adds, Use, no_use, both_uses, Spends, one_number, IsNewFile, Placed, Cleared, Taken}
pub use Rattle.fx_table.specs.Closing.{ClosesTable, times_drawn}
pub use Rattle.fx_table.specs.Opening.{Opening, IsGivenBack, start_of, state_at, HasSameFiles, is_fresh_at_first}
pub use Rattle.fx_table.specs.Pass.{IsFront, PassView, event_of, next_number, retired_of, IsFileRemoval, IsOfDrawnChains, IsIdle, new_pass, hold_of}
pub use Rattle.fx_table.specs.Pass.{new_passes}
pub use Rattle.fx_table.specs.declared.values.Doing.{Doing}
pub use Rattle.std.proofs.Common.{All, List, [], ap, arith, cond, eq-eqb, eqb, false, inl, inr, length, map, ne_eqb, refl, reverse, set, subst, suc}
pub use Rattle.std.proofs.Common.{sym, take, true, zero, ℕ, ⊎_elim, ◌++◌, ◌+◌, ◌-◌, ◌<◌, ◌∙◌, ◌∷◌, ◌≡◌, ◌≢◌, ◌≤◌, ◌⊎◌, append_assoc, length-append}
pub use Rattle.std.proofs.Common.{◌*◌, ◌/◌, ◌%◌, mul-le-mul_right, lt_of_not-le, div-add-mod', mod-lt, drop, lt-ltb, le-ltb, rules}
pub use Rattle.std.proofs.lemmas.List.{reverse-append, map_push, nil_from_length, take-append-drop, length-map, get_or-map, get_or_default}
pub use Rattle.std.proofs.lemmas.List.{get_or_append_left, get_or_push, append_cancel_right, append-nil}
pub use Rattle.std.proofs.lemmas.List.Elements.{Contains-append_cases, Contains-append_left, Contains-append_right, All-push, All-contains}
pub use Rattle.std.proofs.lemmas.List.Elements.{filter-append, Contains-push, All-contains_itself}
pub use Rattle.std.proofs.lemmas.List.Sums.{sum_by-append, sum_by-cons, sum-map, sum_by-set, get_or-le-sum_by}
pub use Rattle.std.specs.List.{range_with_len, sum}
pub use Rattle.std.specs.Prelude.{Bool, Contains, None, count_by, sum_by, Option, Some, option_map, Result, ok_or, IsSome, flat_map, nat_lt}
pub use Rattle.std.specs.Prelude.{slice_index_or, vec_capacity}
pub use lib.ListN.{get_elem?}
pub use mathlib.Core.List.{map-append}
pub use mathlib.Core.Logic.{dite}
pub use mathlib.Core.Option.{some, some-injective, some-ne-none}
pub use native.Mathlib.Decide.{ℕ_discrete, dec_le}
pub use Rattle.fx_plain.specs.Table.{numbered, identity_of, slots_in_order, number_of}
pub use Rattle.fx_plain.specs.declared.event.File.{File}
pub use Rattle.fx_table.specs.Tasks.{activity_of, retiring}
pub use Rattle.fx_table.specs.declared.values.Retired.{Retired}
pub use Rattle.fx_table.specs.Numbers.{chains_of_pass, last_chain_of_pass, pass_of_chain, pass_of_number, numbers_for, once}
pub use Rattle.fx_table.specs.FullSlots.{if_full, full_in, first_at}
pub use Rattle.fx_base.specs.declared.open_file.Closed.{Closed}
pub use Rattle.fx_table.specs.Shells.{IsShell, IsShellOf, AreBack, file_in_place}
pub use Rattle.fx_plain.proofs.Leading.{same_shape, leads_then}
pub use Rattle.fx_plain.proofs.Prepared.{same_identity, settled_at_opening, opens_inside, opening_is_start}
pub use Rattle.fx_plain.specs.declared.event.Action.TheVariants.{Put, Clear, Take, Look, Allocate}
pub use Rattle.std.proofs.lemmas.Grind.{common_steps}
pub use Rattle.std.proofs.lemmas.List.FromFn.{map-range_with_len_more, get_or-map-range_with_len, length-map-range_with_len}
