use Rattle.std.proofs.Common.{◌≡◌, ◌++◌}
use Rattle.std.specs.Prelude.{option_map}
use Rattle.fx_language.specs.Parts.{parts_left}
use Rattle.fx_language.specs.Words.{tags_of_parts, tag_list_of}
use Rattle.fx_language.proofs.list.tag_list.Given as goal

-- the tags so far, and those of the parts that are left, are the tags of the word
abbrev pub invariant-loop-part : goal.invariant-loop-part
invariant-loop-part l = option_map (λ others. l.tags.items ++ others) (tags_of_parts (parts_left l.part-iterator)) ≡ tag_list_of l.word
