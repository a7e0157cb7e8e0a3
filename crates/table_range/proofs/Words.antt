-- The names that these proofs cite, passed on from one place. Declares nothing.
pub use Rattle.std.proofs.Common.{◌≡◌, ◌≢◌, ℕ, zero, suc, ◌+◌, ◌-◌, ◌*◌, ◌/◌, ◌%◌, ◌^◌, ◌<◌, ◌≤◌, Bool, true, false, cond, nat_lt, lt-ltb, le-ltb}
pub use Rattle.std.proofs.Common.{List, [], ◌∷◌, length, set, get_or, sym, refl, ap, ◌∙◌, subst, arith, Option, Some, None, IsSome, eq-eqb, ne_eqb}
pub use Rattle.std.proofs.Common.{◌⊎◌, ⊎_elim, inl, inr, bit_or, eqb}
pub use Rattle.std.specs.Prelude.{is_some, not, sum_by, Contains, slice_index}
pub use Rattle.std.specs.Int.{bit_at}
pub use lib.ListN.{get_elem?}
pub use mathlib.Core.Logic.{dite}
pub use mathlib.Core.Option.{some}
pub use native.Mathlib.Decide.{ℕ_discrete, dec_le}
pub use Rattle.atomic_table.proofs.Lists.{at_set}
pub use Rattle.fx_plain.proofs.Cells.{changed_here, changed_else}
pub use Rattle.fx_plain.specs.Step.{changed_at}
pub use Rattle.fx_plain.specs.declared.event.File.{File}
pub use Rattle.fx_table.proofs.FullSlots.{full_all, full_else, full_few, full_here}
pub use Rattle.fx_table.proofs.SumLemmas.{sum_set, sum_at, sum_le_at, contains_only, contains_alone, bit_here, bit_is, bit_else}
pub use Rattle.fx_table.specs.FullSlots.{full_in, if_full}
pub use Rattle.table_range.specs.Groups.{question_place, group_place, group_at, group_size, groups_in, group_of, group_start, group_len, is_in}
pub use Rattle.table_range.specs.Counts.{lowered, raised, bit_of, HasQuestionOf, with_question, owing, uncounted, account, GroupCounts, AreFull}
pub use Rattle.table_range.specs.Counts.{HasVisitedFull, RangeCounts}
pub use Rattle.table_range.specs.declared.groups.TheConstants.{MOST_IN_RANGE}
pub use Rattle.table_range.specs.declared.views.Change.{Change}
pub use Rattle.table_range.specs.declared.views.Change.TheVariants.{Outside, Lowered, Inside}
pub use Rattle.table_range.specs.declared.views.Survey.{Survey}
pub use Rattle.table_range.specs.declared.views.Survey.TheVariants.{None as NotAsked, Covered}
