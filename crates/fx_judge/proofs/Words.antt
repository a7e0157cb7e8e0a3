-- The names that most proofs of this crate use.
pub use Rattle.check_flight.proofs.Words.{AllByRecursion, Bool, Contains, Happening, HasNoFlightBy, List, None, Option, RingState, Slots, Some, Table}
pub use Rattle.check_flight.proofs.Words.{[], all_asked, all_happenings, ap, append-nil, arith, drop, false, happening_of, length, length-map, map}
pub use Rattle.check_flight.proofs.Words.{map-append, refl, ring_of_slots, subst, sym, table_of_slots, take, take-map, take_more, true, ℕ, ◌++◌, ◌+◌}
pub use Rattle.check_flight.proofs.Words.{◌<◌, ◌∙◌, ◌∷◌, ◌≡◌}
pub use Rattle.check_judge.proofs.Words.{All, All-map, IsTrue, Meaning, new_ring, string_bytes, ◌↔◌}
pub use Rattle.fx_judge.specs.Arrays.{PassedLog, asked_passed, file_passed, happening_passed, passed_log, log_passed}
pub use Rattle.fx_judge.specs.Outcomes.{joined, lengths_in, AreOutcomes, AreWritten, IsTextList, same_bytes}
pub use Rattle.fx_judge.specs.Logs.{IsNumberOf, IsReadAs, IsLogVerdict, IsUnreadNumber, reading_in, reading_passed, steps_in}
pub use Rattle.check_flight.specs.States.{HasNoFlight}
pub use Rattle.fx_language.specs.Script.{IsScript}
pub use Rattle.std.proofs.Common.{Global, String, string_eq, Ok, Err, IfSome}
pub use Rattle.fx_base.specs.Catalogue.{FileEntry, IsCatalogue}
pub use Rattle.std.specs.List.{concat, list_all}
pub use Rattle.std.specs.Prelude.{nat_le, IsAscii, IsUtf8}
pub use Rattle.fx_judge.specs.Reading.{MeansRefusal, all_after}
