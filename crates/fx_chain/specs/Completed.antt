-- A completion without its place in memory (io_uring_enter(2), "CQE").
use Rattle.std.specs.Prelude.{ℕ, ◌+◌, ◌==◌, ℤ, pos, neg_ℤ, Bool, ◌&&◌, List, [], length, map}
use Rattle.std.specs.Ordering.{int_eq}
use Rattle.fx_base.specs.declared.errno.Errno.{Errno}
use Rattle.fx_base.specs.Errno.{code_of}
use Rattle.fx_chain.specs.declared.completion.Place.{Place}
use Rattle.fx_chain.specs.declared.completion.Completion.{Completion}

pub record Completed : Type 0 where
  pub place : Place
  pub res : ℤ
  pub got : List ℕ

abbrev pub completed_of : Completion → Completed
completed_of c = record { place = c.place; res = c.res; got = c.got.items }

abbrev pub all_completed : List Completion → List Completed
all_completed completions = map completed_of completions

abbrev pub completed : Place → ℤ → List ℕ → Completed
completed place res got = record { place = place; res = res; got = got }

-- the result of a request that fails: the negated number of its error
abbrev pub negated : Errno → ℤ
negated errno = neg_ℤ (pos (code_of errno))

-- a request that fails
abbrev pub refusal : Place → Errno → Completed
refusal place errno = completed place (negated errno) []

-- the answer of a request that fails with this error
abbrev pub is_error : Completed → Errno → Bool
is_error c errno = int_eq c.res (negated errno) && (length c.got == 0)

-- the place of the next member of the chain
abbrev pub next_member : Place → Place
next_member place = record place { member = place.member + 1 }
