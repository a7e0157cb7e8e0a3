-- The names that several proofs of this crate use.
pub use Rattle.fx_chain.specs.Operation.{Asked}
pub use Rattle.fx_language.specs.Instruction.{Instruction, MakesSparse, RegistersList, SetsRange, SubmitsAll, Unregisters, UpdatesRing}
pub use Rattle.fx_language.specs.Instruction.{instruction_of, instructions_of}
pub use Rattle.fx_language.specs.declared.limits.TheConstants.{LONGEST_SCRIPT}
pub use Rattle.fx_ring.specs.Ring.{RingContents, RingState, ring_files_in_order, new_ring, ring_of}
pub use Rattle.fx_script.specs.Play.{IsCallRefused, Prints, PrintsAll, PrintsClosed, PrintsEnd, PrintsFirst, PrintsReport}
pub use Rattle.fx_script.specs.PlayedRing.{ring_played}
pub use Rattle.fx_script.specs.Run.{IsInput, IsInputFault, IsPlayFault, Writes}
pub use Rattle.fx_script.specs.declared.runner.PlayFault.{PlayFault}
pub use Rattle.fx_table.specs.declared.limits.TheConstants.{CHAIN_NUMBERS, MAX_CHAINS}
pub use Rattle.std.proofs.Common.{Bool, List, None, Option, Some, [], ap, append_assoc, arith, drop, inl, inr, length, length-append, nat_lt, refl}
pub use Rattle.std.proofs.Common.{rules, slice_index_or, string_bytes, subst, suc, sym, take, true, zero, ℕ, ◌++◌, ◌+◌, ◌-◌, ◌<◌, ◌∙◌, ◌∷◌, ◌≡◌, ◌≤◌}
pub use Rattle.std.proofs.lemmas.List.{append-nil, length-take, map-append, take-append-drop, take_all}
pub use Rattle.std.proofs.lemmas.Result.{IfErr-weaker, IfOk-weaker, err_from_is_err_and, on_ok_weaker}
pub use Rattle.std.specs.Io.KnownBytes.{Appends, Consumes, IsAtEnd}
pub use Rattle.std.specs.Prelude.{Err, IfErr, IfOk, IfSome, Result, IsOkAnd, OnOk}
pub use Rattle.fx_ring.specs.OpenRings.{OpenRingContents}
pub use Rattle.fx_script.specs.declared.played_ring.PlayedRing.{PlayedRing}
pub use Rattle.std.proofs.KnownBytes.{Consumes-trans, Appends-nil, Appends-trans}
