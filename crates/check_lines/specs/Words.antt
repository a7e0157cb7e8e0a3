-- The names of other crates that definitions and clauses here use, passed on from one place.
pub use Rattle.std.specs.Prelude.{ℕ, pos, nat_le, false, List, [], codes, length, Option, Some}
pub use Rattle.std.specs.Prelude.{None, All, IsTrue, get_or, ℤ, Bool, not, negsuc, map, IfOk, OnOk}
pub use Rattle.std.specs.Prelude.{string_bytes, unwrap_or}
pub use Rattle.std.specs.List.{list_any, flat_map, list_all}
pub use Rattle.std.specs.Option.{MatchOption, option_to_list}
pub use Rattle.fx_base.specs.declared.catalogue.TheConstants.{MOST_ENTRIES}
pub use Rattle.fx_base.specs.declared.open_file.Closed.{Closed}
pub use Rattle.fx_chain.specs.Answers.{is_bad_entry}
pub use Rattle.fx_chain.specs.Completed.{negated, Completed, all_completed, completed_of}
pub use Rattle.fx_chain.specs.Faults.{fault_of}
pub use Rattle.fx_ring.specs.Registration.{range_refusal, register_refusal, registered}
pub use Rattle.fx_ring.specs.Registration.{removed_from, registered_sparse, sparse_refusal}
pub use Rattle.fx_ring.specs.Registration.{unregister_refusal, update_refusal, updated, file_after}
pub use Rattle.fx_ring.specs.Registration.{files_after, removed_by_number}
pub use Rattle.fx_ring.specs.Ring.{RingState, files_of_ring, without_table, RingContents, HasClosed}
pub use Rattle.fx_ring.specs.Ring.{ring_files_in_order, IsRing}
pub use Rattle.fx_ring.specs.Tags.{tags_given, tag_at, tags_for}
pub use Rattle.fx_ring.specs.declared.ring.TheConstants.{MOST_SUBMISSIONS}
pub use Rattle.fx_language.specs.Instruction.{Instruction, MakesSparse, RegistersList, Unregisters}
pub use Rattle.fx_language.specs.Instruction.{SetsRange, UpdatesRing, SubmitsAll, instruction_of}
pub use Rattle.fx_print.specs.Text.{refused_line, result_line, too_many_line, closed_line}
pub use Rattle.fx_print.specs.Text.{completion_lines, name_of, tag_line, completion_line, mark_text}
pub use Rattle.fx_print.specs.Text.{place_text}
pub use Rattle.fx_script.specs.Play.{PrintsClosed, PrintsAll}
pub use Rattle.std.specs.Io.{StartsWith}
pub use Rattle.fx_chain.specs.Operation.{Asked, all_asked}
pub use Rattle.fx_ring.specs.Submission.{IsOneHistory, Reported}
pub use Rattle.hex.specs.Hex.{IsBytes, encode_lower}
pub use Rattle.fx_base.specs.Catalogue.{FileEntry}
pub use Rattle.fx_base.specs.declared.mark.Mark.{Mark}
pub use Rattle.fx_chain.specs.declared.completion.Place.{Place}
pub use Rattle.fx_order.specs.Slots.{table_of_slots, ring_of_slots, ring_with_slots}
