use Rattle.std.proofs.Common.{◌≡◌, ◌++◌}
use Rattle.std.specs.Prelude.{option_map}
use Rattle.fx_language.specs.Parts.{parts_left}
use Rattle.fx_language.specs.Words.{entries_of, list_of}
use Rattle.fx_language.proofs.list.entries.Given as goal

-- the entries so far, and those of the parts that are left, are the entries of the word
abbrev pub invariant-loop-part : goal.invariant-loop-part
invariant-loop-part l = option_map (λ others. l.list.items ++ others) (entries_of (parts_left l.part-iterator)) ≡ list_of l.word
