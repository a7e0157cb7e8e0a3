-- The tags that go with a list, one for each of its numbers (io_uring_register(2),
-- "IORING_REGISTER_FILES2").
use Rattle.std.specs.Prelude.{ℕ, ◌==◌, ◌||◌, not, Bool, false, ℤ, pos, negsuc, List, length, map}
use Rattle.std.specs.Prelude.{slice_get}
use Rattle.std.specs.Prelude.{Option, Some, None, option_map, unwrap_or}
use Rattle.std.specs.Borrow.{Bor}
use Rattle.std.specs.List.{list_any, zip}

-- the tags of a list without any: 0 for each of its numbers
abbrev pub no_tags : List ℤ → List ℕ
no_tags list = map (λ _. 0) list

-- the tags that go with a list, where perhaps none are given
abbrev pub tags_given : List ℤ → Option (List ℕ) → List ℕ
tags_given list None = no_tags list
tags_given list (Some tags) = tags

-- the same, as a call has them
abbrev pub tags_for : List ℤ → Option (Bor (List ℕ)) → List ℕ
tags_for list tags = tags_given list (option_map (λ given. given.now) tags)

-- the tag of a place, 0 where there is no such place
abbrev pub tag_at : List ℕ → ℕ → ℕ
tag_at tags i = unwrap_or (slice_get tags i) 0

-- a number below 0, which opens no file, with a tag
abbrev pub is_bad_tag : ℤ → ℕ → Bool
is_bad_tag (pos entry) tag = false
is_bad_tag (negsuc n) tag = not (tag == 0)

-- there are more tags than numbers, or fewer, or one of a number that opens no file
abbrev pub are_bad_tags : List ℤ → List ℕ → Bool
are_bad_tags list tags =
    not (length list == length tags) || list_any (λ pair. is_bad_tag pair.0 pair.1) (zip list tags)
