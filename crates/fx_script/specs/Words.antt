-- The names of other crates that definitions and clauses here use, passed on from one place.
pub use Rattle.std.specs.Prelude.{◌≡◌, ◌⊎◌, ℕ, pos, nat_le, List, [], ◌∷◌, ◌++◌, codes, length}
pub use Rattle.std.specs.Prelude.{Option, Some, None, Result, Ok, Err, IfSome, ◌≤◌, IfOk}
pub use Rattle.std.specs.Prelude.{string_bytes, IfErr, IsOkAnd, OnOk, ◌≢◌, ◌<◌, All, ◌+◌, take}
pub use Rattle.std.specs.Option.{MatchOption}
pub use Rattle.fx_chain.specs.Completed.{negated}
pub use Rattle.fx_chain.specs.Operation.{Asked, all_asked}
pub use Rattle.fx_ring.specs.Ring.{HasClosed, RingContents, RingState, files_of_ring, new_ring}
pub use Rattle.fx_ring.specs.Ring.{ring_of, without_table}
pub use Rattle.fx_ring.specs.Submission.{IsOneHistory, Reported, reported}
pub use Rattle.fx_language.specs.Instruction.{Instruction, MakesSparse, RegistersList, Unregisters}
pub use Rattle.fx_language.specs.Instruction.{SetsRange, UpdatesRing, SubmitsAll, instruction_of}
pub use Rattle.fx_language.specs.Instruction.{instructions_of}
pub use Rattle.fx_language.specs.Script.{Meaning, IsScript, HasFault}
pub use Rattle.fx_print.specs.Text.{result_line, closes_text, refused_line, teardown_text}
pub use Rattle.fx_print.specs.Text.{too_many_line, submission_text}
pub use Rattle.fx_base.specs.Catalogue.{FileEntry}
pub use Rattle.fx_ring.specs.declared.report.SubmitFault.TheVariants.{Cut, TooMany, Workers}
pub use Rattle.std.specs.Io.KnownBytes.{Appends}
pub use Rattle.fx_table.specs.declared.limits.TheConstants.{CHAIN_NUMBERS, MAX_CHAINS, MAX_PASSES}
