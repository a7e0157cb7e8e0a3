-- The names that most proofs of this crate use.
pub use Rattle.std.proofs.Common.{List, [], ◌∷◌, ◌++◌, length, refl, sym, ap, ◌∙◌, subst, Option, Some, None, eq-eqb, ne_eqb, arith, ◌≡◌, ◌≢◌, ℕ}
pub use Rattle.std.proofs.Common.{zero, suc, ◌+◌, ◌-◌, ◌<◌, ◌≤◌, ◌==◌, ◌&&◌, ◌⊎◌, inl, inr, Bool, true, false, if◌then◌else◌}
pub use Rattle.std.proofs.lemmas.Bool.{cases_eq, eqb-true}
pub use Rattle.std.proofs.lemmas.List.{append-nil, get_or-set_other, get_or-set_same, length-set, get_or_default, get_or_past, set-set}
pub use Rattle.std.specs.List.{AllByRecursion, sum_by}
pub use Rattle.fx_plain.specs.State.{State, IsInRange}
pub use Rattle.fx_plain.specs.Step.{Allows, changed_at, after as table_after}
pub use Rattle.fx_plain.specs.History.{◌▷◌, ◌▷▷◌}
pub use Rattle.fx_plain.specs.declared.event.Action.{Action}
pub use Rattle.fx_plain.specs.declared.event.Action.TheVariants.{Allocate, Close, Look, Put, Release, Take}
pub use Rattle.fx_plain.specs.declared.event.File.{File}
pub use Rattle.fx_direct.specs.declared.key.LifeKey.{LifeKey}
pub use Rattle.fx_direct.specs.declared.phase.Phase.{Phase}
pub use Rattle.fx_direct.specs.declared.phase.Slot.{Slot}
pub use Rattle.fx_direct.specs.declared.transition.Transition.{Transition}
pub use Rattle.fx_direct.specs.declared.chain.LifeChain.{LifeChain}
pub use Rattle.fx_direct.specs.declared.chain.ChainEnd.{ChainEnd}
pub use Rattle.fx_direct.specs.declared.chain.ChainOpen.{ChainOpen}
pub use Rattle.fx_direct.specs.declared.chain.Member.{Member}
pub use Rattle.fx_direct.specs.declared.chain.Member.TheVariants.{Open, Request, Close as CloseMember}
pub use Rattle.fx_direct.specs.Phases.{Free, Opening, Live, Ending, Closing, Chained, Unseen, Installed, Failed, Awaited, Took, chain, chain_of}
pub use Rattle.fx_direct.specs.Phases.{chain_phase, bit, unused, slot_numbered, phase_at, requests_in, users_in, is_free, is_live, is_installed}
pub use Rattle.fx_direct.specs.Phases.{is_opening, is_closing, is_chained, calls_in, lives_in, AllFree, calls_in_flight, ends_anyway, is_adoptable}
pub use Rattle.fx_direct.specs.Phases.{lives_of}
pub use Rattle.fx_direct.specs.Transitions.{Reserves, Chains, Opens, Starts, Finishes, Holds, Releases, Ends, Asks, Closes, FailsToClose, when_opened}
pub use Rattle.fx_direct.specs.Transitions.{key_concerned, life_at, Adopts, NamesLastLife, HasLife, FitsPhase, IsEnabled, phase_after, with_phase}
pub use Rattle.fx_direct.specs.Transitions.{slots_with, AreEnabled, slots_left_by, AdvancesAndAsks, AdoptsFile, AdvancesBy, DirectMachine, GoesOn}
pub use Rattle.fx_direct.specs.Transitions.{KeepsChain, and_ends, becomes_live, completion, machine_with, may_close, may_end, may_open, unless_live}
pub use Rattle.fx_direct.specs.Transitions.{when_closed, when_ended, when_left}
pub use Rattle.fx_direct.specs.Living.{same_key, IsNamed}
pub use Rattle.fx_direct.specs.Flight.{DirectCall, OpenAt, UseOf, CloseOf, key_of_call, CallStage, Waits, Made, Quit, Pending, pending, World}
pub use Rattle.fx_direct.specs.Flight.{DirectMoment, Does, Accesses, Quits, Chooses, Others, Loses, CanDo, FitsRange, TurnsCalls, with_uses}
pub use Rattle.fx_direct.specs.Flight.{with_close, waits_for, HasItsTurn, stage_after, MayMake, Makes, Stops, IsElsewhere, Comes, IsDirectFlight}
pub use Rattle.fx_direct.specs.Flight.{files_under, has_chain, IsDirectFlightBy, stage_by}
pub use Rattle.fx_direct.specs.Laws.{IsEmptyStart, IsFileOf, IsMissed, FindsItsOwn}
pub use Rattle.fx_direct.specs.Machine.{AreCounted, IsMachine, WritesPhase, is_vacant}
pub use Rattle.fx_direct.specs.Order.{AreOnce, IsOrder, Order, is_among, is_among_vacant, is_ranged, ordered}
pub use Rattle.fx_direct.specs.declared.key.TheConstants.{MOST_LIVES}
pub use Rattle.fx_direct.specs.declared.slot_order.SlotRange.{SlotRange}
pub use Rattle.std.proofs.lemmas.Grind.{common_steps}
pub use Rattle.std.specs.Prelude.{IfSome, not, ◌*◌, ◌^◌, ◌||◌}
