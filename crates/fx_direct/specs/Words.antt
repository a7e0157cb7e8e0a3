-- The names of other crates and of types that definitions and clauses here use, from one place.
pub use Rattle.std.specs.Prelude.{ℕ, Bool, true, false, List, [], zero, suc, length, Some, None}
pub use Rattle.std.specs.Prelude.{Option, nat_lt, not, nat_le, slice_index_or, slice_set, Decides}
pub use Rattle.std.specs.Prelude.{MatchOption, IfOk, MatchResult, IfSome}
pub use Rattle.fx_direct.specs.declared.chain.ChainEnd.{ChainEnd}
pub use Rattle.fx_direct.specs.declared.chain.ChainOpen.{ChainOpen}
pub use Rattle.fx_direct.specs.declared.key.LifeKey.{LifeKey}
pub use Rattle.fx_direct.specs.declared.phase.Phase.{Phase}
pub use Rattle.fx_direct.specs.declared.phase.Slot.{Slot}
pub use Rattle.fx_direct.specs.declared.transition.Transition.{Transition}
pub use Rattle.std.specs.List.{AllByRecursion, list_any, sum_by}
pub use Rattle.fx_plain.specs.declared.event.Action.{Action}
pub use Rattle.fx_plain.specs.declared.event.Action.TheVariants.{Look, Release, Put, Clear, Take}
pub use Rattle.fx_plain.specs.declared.event.Action.TheVariants.{Allocate}
pub use Rattle.fx_plain.specs.declared.event.File.{File}
pub use Rattle.fx_plain.specs.History.{◌▷◌, ◌▷▷◌}
pub use Rattle.fx_direct.specs.declared.key.TheConstants.{MOST_LIVES, KINDS, MOST_SLOTS}
pub use Rattle.fx_direct.specs.declared.slot_order.SlotRange.{SlotRange}
pub use Rattle.fx_direct.specs.declared.chain.LifeChain.{LifeChain}
pub use Rattle.fx_direct.specs.declared.refusal.LifeRefusal.TheVariants.{Stale, Is, TooManyRequests}
pub use Rattle.fx_direct.specs.declared.refusal.LifeRefusal.TheVariants.{TooManyUsers}
