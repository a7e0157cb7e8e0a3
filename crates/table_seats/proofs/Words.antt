-- The names that most proofs about seats use.
pub use Rattle.atomic_table.proofs.Lists.{at_set, set_again}
pub use Rattle.atomic_table.specs.Table.{Allows, Joins, Splits, State as TableState, Me, keeps, step}
pub use Rattle.fx_plain.specs.History.{IsLegal, IsSeenBy}
pub use Rattle.fx_plain.specs.State.{IsSettled}
pub use Rattle.fx_plain.specs.declared.event.Event.{Event}
pub use Rattle.fx_table.proofs.Calls.{seen_again, seen_from_start}
pub use Rattle.fx_table.proofs.Growing.{Grows, grows_none}
pub use Rattle.fx_table.proofs.Histories.{IsWhole}
pub use Rattle.fx_table.proofs.Seats.{AreReseated, IsAnew, appended, each_seat, joined as seats_joined, logs_are, only_here, split, sum_gathered}
pub use Rattle.fx_table.proofs.SumLemmas.{bit_here, contains_alone, contains_map, contains_mapped, contains_none, contains_only, contains_reverse}
pub use Rattle.fx_table.proofs.SumLemmas.{contains_reversed, counted_once, found_by, found_sum, once_is, one_if, sum_at, sum_of, sum_set, sum_two}
pub use Rattle.fx_table.specs.Closing.{times_drawn}
pub use Rattle.fx_table.specs.Numbers.{once}
pub use Rattle.fx_table.specs.Opening.{start_of, state_at}
pub use Rattle.fx_table.specs.Pass.{PassView}
pub use Rattle.std.proofs.Common.{All, List, [], ap, arith, eqb, get_or, inl, inr, length, length-append, map, refl, reverse, set, subst, sym}
pub use Rattle.std.proofs.Common.{true, ℕ, ⊎_elim, ◌++◌, ◌+◌, ◌<◌, ◌∙◌, ◌∷◌, ◌≡◌, ◌≢◌, ◌≤◌}
pub use Rattle.std.proofs.lemmas.List.{length-map, length-reverse, set-get_or}
pub use Rattle.fx_table.proofs.Chains.{in_part, first_left, last_left}
pub use Rattle.std.proofs.lemmas.List.FromFn.{length-map-range_with_len}
pub use Rattle.std.proofs.lemmas.List.Sums.{sum_by-append}
pub use Rattle.std.specs.List.{range_with_len}
pub use Rattle.std.specs.Prelude.{Contains, count_by, flat_map, sum_by}
pub use Rattle.table_seats.specs.Together.{HasSeen, IsSeated, Together, lengths, logs_of}
pub use Rattle.table_seats.specs.Seats.{Seats, dealt, first_alone, first_view, front_in, joined, shown_view, spent, without_first}
pub use lib.ListN.{get_elem?}
pub use mathlib.Core.Option.{some}
