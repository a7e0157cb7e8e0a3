-- The names of other crates and of types that definitions and clauses here use, from one place.
pub use Rattle.std.specs.Prelude.{ℕ, Bool, List, Option, Some, None, not, true, false, [], count_by}
pub use Rattle.std.specs.Prelude.{cond, drop, slice_index, slice_get, map, slice_index_or}
pub use Rattle.std.specs.Prelude.{slice_set, option_and_then, is_some, Contains, suc, take, IsTrue}
pub use Rattle.std.specs.Prelude.{IfSome}
pub use Rattle.std.specs.List.{list_any, list_all}
pub use Rattle.check_search.specs.declared.cell.Cell.{Cell}
pub use Rattle.check_search.specs.declared.claim.Claim.{Claim}
pub use Rattle.check_search.specs.declared.claim.Claim.TheVariants.{At, Full}
pub use Rattle.check_search.specs.declared.claim.Leaves.{Leaves}
pub use Rattle.check_search.specs.declared.claim.Leaves.TheVariants.{Empty, File, Same}
pub use Rattle.check_search.specs.declared.claim.Condition.{Condition}
pub use Rattle.check_search.specs.declared.claim.Condition.TheVariants.{Something, Anything}
pub use Rattle.check_search.specs.declared.claim.Condition.TheVariants.{Nothing, NothingToTake}
pub use Rattle.check_search.specs.declared.claim.Condition.TheVariants.{Bytes}
pub use Rattle.check_search.specs.declared.claim.Strand.{Strand}
pub use Rattle.check_search.specs.declared.claim.Resident.{Resident}
