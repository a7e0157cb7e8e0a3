-- The completions of resource tags (io_uring_register(2), "IORING_REGISTER_FILES2").
use Rattle.std.specs.Prelude.{ℕ, pos, ◌==◌, not, List, map, filter}
use Rattle.fx_base.specs.declared.open_file.Closed.{Closed}
use Rattle.fx_base.specs.declared.tag_completion.TagCompletion.{TagCompletion}

-- the completion that reports the close of a file with this tag
abbrev pub tag_completion : ℕ → TagCompletion
tag_completion tag = record { user_data = tag; res = pos 0; flags = 0 }

-- the completions of closed files, in their order: one for each file whose tag isn't 0
abbrev pub tags_of : List Closed → List TagCompletion
tags_of files = map (λ file. tag_completion file.tag) (filter (λ file. not (file.tag == 0)) files)
