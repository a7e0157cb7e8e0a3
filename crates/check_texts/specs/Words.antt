-- The names of other crates that definitions and clauses here use, passed on from one place.
pub use Rattle.std.specs.Prelude.{ℕ, List, [], Some, None, true, Contains, IsTrue, All, length, map}
pub use Rattle.std.specs.Prelude.{slice_get, string_bytes, Bool, IfOk, OnOk, IfNone, IfSome}
pub use Rattle.std.specs.Prelude.{string_eq}
pub use Rattle.std.specs.List.{flat_map, concat}
pub use Rattle.fx_base.specs.Catalogue.{FileEntry, IsCatalogue}
pub use Rattle.fx_language.specs.Instruction.{Instruction, instruction_of, SubmitsAll}
pub use Rattle.fx_language.specs.Instruction.{instructions_of, MakesSparse, RegistersList}
pub use Rattle.fx_language.specs.Instruction.{Unregisters, SetsRange, UpdatesRing}
pub use Rattle.fx_order.specs.Slots.{ring_with_slots, ring_of_slots}
pub use Rattle.fx_ring.specs.Ring.{RingContents, ring_of, IsRing, RingState, new_ring}
pub use Rattle.fx_chain.specs.Completed.{Completed, completed_of, negated}
pub use Rattle.fx_chain.specs.Faults.{fault_of}
pub use Rattle.fx_chain.specs.Operation.{Asked, all_asked}
pub use Rattle.fx_chain.specs.declared.completion.Place.{Place}
pub use Rattle.check_outcomes.specs.Outcomes.{ring_following, MayReport}
pub use Rattle.fx_ring.specs.Submission.{Reported, reported}
pub use Rattle.fx_script.specs.Play.{Prints, IsNewRing, IsText, PrintsEnd}
pub use Rattle.fx_script.specs.Text.{report_text}
pub use Rattle.check_lines.specs.Calls.{accepted_following, IsCall}
pub use Rattle.fx_language.specs.Script.{Meaning}
pub use Rattle.fx_chain.specs.Accepted.{IsAccepted}
pub use Rattle.fx_plain.specs.declared.table.TheConstants.{MOST_SLOTS}
pub use Rattle.fx_ring.specs.declared.ring.TheConstants.{MOST_SUBMISSIONS}
