-- The answers of two members of a chain that follow each other: the later one is canceled if and
-- only if the earlier one severs the chain or is canceled itself.
use Rattle.check_certificate.specs.Words.{ℕ, nat_lt, Bool, not, slice_get, Option, None, ECANCELED}
use Rattle.check_certificate.specs.Words.{Completed, is_error, Asked, Happening, Called, PointOrder}
use Rattle.std.specs.Prelude.{◌+◌, ◌-◌, ◌==◌, ◌&&◌, ◌||◌, if◌then◌else◌}
use Rattle.fx_chain.specs.Explains.{severs}
use Rattle.check_certificate.specs.Rules.{never}
use Rattle.check_certificate.specs.Said.{◌>>=◌, Given, event_at, done_at, only_if}

-- the member after a request with this answer is canceled
abbrev pub is_cut : Asked → Completed → Bool
is_cut request c = severs request c || is_error c ECANCELED

-- the answer of that member contradicts it
abbrev pub is_cut_wrongly : Asked → Completed → Completed → Bool
is_cut_wrongly request c next =
    if is_cut request c then not (is_error next ECANCELED) else is_error next ECANCELED

-- the second one of two answers of a call is that of the member after the first one's
abbrev pub is_next : Completed → Completed → Bool
is_next c next = nat_lt 0 c.place.member && (next.place.member == c.place.member + 1)

-- the request of a call that an answer of the call answers
abbrev pub asked_by : Happening → Completed → Option Asked
asked_by (Called id requests) c =
    if c.place.submission == id then slice_get requests (c.place.member - 1) else None
asked_by event c = None

unfoldable pub cut : Given → ℕ → ℕ → ℕ → Option PointOrder
cut g call first answer = do
  begins ← event_at g call
  c ← done_at g first
  next ← done_at g answer
  request ← asked_by begins c
  asked ← asked_by begins next
  only_if (is_next c next && is_cut_wrongly request c next) (never answer)
