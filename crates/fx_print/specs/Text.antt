-- The printed lines.
use Rattle.std.specs.Prelude.{ℕ, ℤ, List, [], ◌++◌, codes, decimal, length, ◌==◌, if◌then◌else◌}
use Rattle.std.specs.Prelude.{unwrap_or}
use Rattle.std.specs.Fmt.{signed_decimal}
use Rattle.std.specs.List.{flat_map}
use Rattle.hex.specs.Hex.{encode_lower}
use Rattle.fx_base.specs.declared.mark.Mark.{Mark}
use Rattle.fx_base.specs.declared.mark.Mark.TheVariants.{Registered, Submitted}
use Rattle.fx_base.specs.declared.open_file.Closed.{Closed}
use Rattle.fx_base.specs.Catalogue.{FileEntry, name_at}
use Rattle.fx_base.specs.Tags.{tags_of}
use Rattle.fx_base.specs.declared.tag_completion.TagCompletion.{TagCompletion}
use Rattle.fx_chain.specs.declared.completion.Place.{Place}
use Rattle.fx_chain.specs.declared.fault.CutFault.{CutFault}
use Rattle.fx_chain.specs.declared.fault.CutKind.{CutKind}
use Rattle.fx_chain.specs.declared.fault.CutKind.TheVariants.{BadFlags, LongRead, LongUpdate}
use Rattle.fx_chain.specs.declared.fault.CutKind.TheVariants.{ChainTooLong, TooManyFiles}
use Rattle.fx_chain.specs.declared.fault.CutKind.TheVariants.{TooManyChains}
use Rattle.fx_chain.specs.Completed.{Completed}

-- the word of a command and its result: `WORD RES`
abbrev pub result_line : List ℕ → ℤ → List ℕ
result_line word res = word ++ (codes " " ++ (signed_decimal res ++ codes "\n"))

-- a space and the bytes in lower case hexadecimal, unless there are none
abbrev pub got_text : List ℕ → List ℕ
got_text got = if length got == 0 then [] else codes " " ++ encode_lower got

-- `S.C.M`
abbrev pub place_text : Place → List ℕ
place_text p =
    decimal p.submission ++ (codes "." ++ (decimal p.chain ++ (codes "." ++ decimal p.member)))

-- the place, `RES`, and the bytes of a read
abbrev pub completion_line : Completed → List ℕ
completion_line c =
    place_text c.place
    ++ (codes " " ++ (signed_decimal c.res ++ (got_text c.got ++ codes "\n")))

-- a line for each completion
abbrev pub completion_lines : List Completed → List ℕ
completion_lines completions = flat_map completion_line completions

abbrev pub kind_name : CutKind → List ℕ
kind_name BadFlags = codes "bad-flags"
kind_name LongRead = codes "long-read"
kind_name LongUpdate = codes "long-update"
kind_name ChainTooLong = codes "chain-too-long"
kind_name TooManyFiles = codes "too-many-files"
kind_name TooManyChains = codes "too-many-chains"

-- `submit refused NAME AT`
abbrev pub refused_line : CutFault → List ℕ
refused_line fault =
    codes "submit refused "
    ++ (kind_name fault.kind ++ (codes " " ++ (decimal fault.at ++ codes "\n")))

-- the line of a submission that would be the 65,536th
abbrev pub too_many_line : List ℕ
too_many_line = codes "submit refused too-many-submissions\n"

-- `rK.I` for a registered file, `S.C.M.E` for a submitted one
abbrev pub mark_text : Mark → List ℕ
mark_text (Registered k i) = codes "r" ++ (decimal k ++ (codes "." ++ decimal i))
mark_text (Submitted s c m e) =
    place_text (record { submission = s; chain = c; member = m }) ++ (codes "." ++ decimal e)

-- `closed MARK NAME`
abbrev pub closed_line : Mark → List ℕ → List ℕ
closed_line mark name = codes "closed " ++ (mark_text mark ++ (codes " " ++ (name ++ codes "\n")))

-- the name of an entry
abbrev pub name_of : List FileEntry → ℕ → List ℕ
name_of catalogue entry = unwrap_or (name_at catalogue entry) []

-- a line for each closed file
abbrev pub closed_lines : List FileEntry → List Closed → List ℕ
closed_lines catalogue files =
    flat_map (λ file. closed_line file.mark (name_of catalogue file.entry)) files

-- `tag T`
abbrev pub tag_line : TagCompletion → List ℕ
tag_line completion = codes "tag " ++ (decimal completion.user_data ++ codes "\n")

-- a line for each completion of a tag
abbrev pub tag_lines : List TagCompletion → List ℕ
tag_lines completions = flat_map tag_line completions

-- the lines of the files that were closed, and then those of their tags
abbrev pub closes_text : List FileEntry → List Closed → List ℕ
closes_text catalogue files = closed_lines catalogue files ++ tag_lines (tags_of files)

-- the lines of a submission: its completions, and the files that were closed
abbrev pub submission_text : List FileEntry → List Completed → List Closed → List ℕ
submission_text catalogue completions files =
    completion_lines completions ++ closes_text catalogue files

-- `teardown` and the lines of the files that were left, or nothing if none was left
abbrev pub teardown_text : List FileEntry → List Closed → List ℕ
teardown_text catalogue files =
    if length files == 0 then [] else codes "teardown\n" ++ closes_text catalogue files
