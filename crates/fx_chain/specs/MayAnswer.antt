-- The answers that a request may have at the table, by its result, whatever its accesses find.
use Rattle.std.specs.Prelude.{ℤ, pos, negsuc, length, Bool, true, false, ◌||◌}
use Rattle.std.specs.Ordering.{int_eq}
use Rattle.fx_base.specs.declared.errno.Errno.TheVariants.{EBADF, ENFILE}
use Rattle.fx_chain.specs.Completed.{Completed, is_error}
use Rattle.fx_chain.specs.Operation.{Operation, Opens, Reads, Closes, Updates}
use Rattle.fx_chain.specs.declared.request.Target.{Target}
use Rattle.fx_chain.specs.declared.request.Target.TheVariants.{Slot, Any}

-- a number of 0 or more
abbrev pub is_count : ℤ → Bool
is_count (pos n) = true
is_count (negsuc n) = false

-- of an open of this target
abbrev pub may_open : Target → Completed → Bool
may_open (Slot slot) c = int_eq c.res (pos 0)
may_open Any c = is_count c.res || is_error c ENFILE

-- a request that isn't refused may have this answer: a read has the number of its bytes
abbrev pub may_answer : Operation → Completed → Bool
may_answer (Opens name target) c = may_open target c
may_answer (Reads slot off len) c = int_eq c.res (pos (length c.got)) || is_error c EBADF
may_answer (Closes slot) c = int_eq c.res (pos 0) || is_error c EBADF
may_answer (Updates off list) c = int_eq c.res (pos (length list))
