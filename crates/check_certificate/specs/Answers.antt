-- Answers that a request may have, and those that it can't have.
use Rattle.check_certificate.specs.Words.{ℕ, nat_lt, List, length, Bool, not, Option, Some, None}
use Rattle.check_certificate.specs.Words.{ECANCELED, ENOMEM, FileEntry, Completed, is_error}
use Rattle.check_certificate.specs.Words.{is_read, may_answer, Asked, Operation}
use Rattle.std.specs.Prelude.{◌==◌, ◌&&◌, ◌||◌}
use Rattle.fx_base.specs.declared.errno.Errno.{Errno}
use Rattle.fx_chain.specs.Refusal.{refusal_of}
use Rattle.fx_order.specs.declared.access.Access.{Access}
use Rattle.check_certificate.specs.Times.{IsMemberDoneBy}

-- a request that is refused with this error has its answer; only a read has bytes
abbrev pub fits_refusal : Option Errno → Operation → Completed → Bool
fits_refusal (Some errno) operation c = is_error c errno
fits_refusal None operation c =
    (is_read operation || (length c.got == 0)) && may_answer operation c

-- each request may find no memory, and each but the first one of a chain may be canceled
abbrev pub is_severed : Completed → Bool
is_severed c = is_error c ENOMEM || (nat_lt 1 c.place.member && is_error c ECANCELED)

-- a request of a chain may have this answer, by what it says of itself, or it can't
abbrev pub is_possible : List FileEntry → ℕ → Completed → Asked → Bool
is_possible catalogue size c request =
    is_severed c
    || fits_refusal (refusal_of catalogue size request.operation) request.operation c

unfoldable pub is_impossible : List FileEntry → ℕ → Completed → Asked → Bool
is_impossible catalogue size c request = not (is_possible catalogue size c request)

-- no accesses give a member with this request this answer
abbrev pub IsImpossible : List FileEntry → ℕ → Completed → Asked → Type 0
IsImpossible catalogue size c request =
    (accesses : List Access) → IsMemberDoneBy catalogue size c request accesses → ⊥
