-- The names that most proofs of this crate use.
pub use Rattle.fx_base.specs.declared.open_file.Closed.{Closed}
pub use Rattle.fx_plain.specs.Contents.{AllPlaced, At, Contents, Fresh, Gone, HaveOwnNumbers, IsCounted, IsTable, Leaving, Retired, SameButPlaced}
pub use Rattle.fx_plain.specs.Contents.{file_at, file_count_of, identity_in, file_named, is_fresh, is_leaving, is_retired, leaving, moved_node}
pub use Rattle.fx_plain.specs.Contents.{node_after_removal, node_after_retirement, node_at, nodes_without, opening_slot, placed_at, removed_at}
pub use Rattle.fx_plain.specs.Contents.{removed_count_of, slot_at, state_of}
pub use Rattle.fx_plain.specs.History.{AllowsAll, IsLegal, Leads, action_of, close_of, closed_by, closes_in, state_after, ◌▷▷◌, ◌▷◌}
pub use Rattle.fx_plain.specs.OwnNumbers.{HaveOwnOutside, IsFiled, IsOutside, IsRenumbered, IsVacant}
pub use Rattle.fx_plain.specs.Reserved.{with_rest}
pub use Rattle.fx_plain.specs.State.{IsSettled, State, file_numbered, files_in_order, files_of, identities_of, opening, vacant}
pub use Rattle.fx_plain.specs.Step.{Allows, Steps, after, changed_at, with_removed}
pub use Rattle.fx_plain.specs.Table.{EndsHold, LetsLeave, closed_by_release, closed_by_retirement, identity_of, more_leaving, number_of, numbered}
pub use Rattle.fx_plain.specs.Table.{slots_in_order}
pub use Rattle.fx_plain.specs.contracts.table.PlainTable.{the_view}
pub use Rattle.fx_plain.specs.declared.event.Action.{Action}
pub use Rattle.fx_plain.specs.declared.event.Action.TheVariants.{Allocate, Clear, Close, Look, Put, Release, Take, Full}
pub use Rattle.fx_plain.specs.declared.event.Event.{Event}
pub use Rattle.fx_plain.specs.declared.event.File.{File}
pub use Rattle.fx_plain.specs.declared.node.Node.{Node}
pub use Rattle.fx_plain.specs.declared.slot_span.SlotSpan.{SlotSpan}
pub use Rattle.std.proofs.Common.{All, Bool, IsSome, List, None, Option, Some, [], add-one, ap, append_assoc, arith, eq-eqb, false, if◌then◌else◌}
pub use Rattle.std.proofs.Common.{inl, inr, length, length-append, map, nat_lt, not, refl, replicate, rules, slice_index, slice_index_or, slice_set}
pub use Rattle.std.proofs.Common.{subst, suc, sym, take, true, vec_capacity, vec_len, zero, ℕ, ◌&&◌, ◌++◌, ◌+◌, ◌-◌, ◌<◌, ◌==◌, ◌^◌, ◌∙◌, ◌∷◌, ◌≡◌}
pub use Rattle.std.proofs.Common.{◌≢◌, ◌≤◌, ◌⊎◌, ne_eqb}
pub use Rattle.std.proofs.Math.ListN.{get_or-eq_default}
pub use Rattle.std.proofs.lemmas.Bool.{cases_lt, eqb-true, le-ltb, lt-ltb, false_from_ne_true}
pub use Rattle.std.proofs.lemmas.List.{append-nil, get_or-append-add, get_or-replicate, get_or-set_other, get_or-set_same, get_or_append_left}
pub use Rattle.std.proofs.lemmas.List.{get_or_default, length-replicate, length-set, nil_from_length, set-append_left, set-get_or, set-set, take_all}
pub use Rattle.std.proofs.lemmas.List.Sums.{get_or-le-sum_by, sum_by-cons, sum_by-set, sum_by-le, sum_by_more}
pub use Rattle.std.specs.Option.{option_to_list}
pub use Rattle.std.specs.Prelude.{sum, sum_by}
pub use Rattle.std.proofs.lemmas.List.Elements.{All-from_get_or, All-append, All-cons, All-nil}
pub use Rattle.fx_plain.specs.Laws.{IsAtSlot, IsInstalled, installed_by, IsClosed, IsStart, closed_of, closes_of, IsStillThere, IsClosedOnce}
pub use Rattle.fx_plain.specs.Laws.{released_by, releases_in}
