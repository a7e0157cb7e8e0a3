-- The evidence for an access, by the call of its member and the member's answer.
use Rattle.check_certificate.specs.Words.{ℕ, nat_lt, List, slice_get, Option, Some, None}
use Rattle.check_certificate.specs.Words.{option_map, FileEntry, Identity, ECANCELED, ENOMEM}
use Rattle.check_certificate.specs.Words.{Completed, is_error, intent_by, opened_by, Asked}
use Rattle.check_certificate.specs.Words.{Operation, Place, Intent, Happening, Called, Answered}
use Rattle.check_certificate.specs.Words.{LookCalled, LookAnswered, Evidence, Empties, Never}
use Rattle.std.specs.Prelude.{◌-◌, ◌==◌, ◌&&◌, ◌||◌, if◌then◌else◌}
use Rattle.check_certificate.specs.Answers.{is_impossible}
use Rattle.check_certificate.specs.Evidence.{evidence_of}
use Rattle.check_certificate.specs.Said.{◌>>=◌, Given, event_at, only_if, slots_of}
use Rattle.check_certificate.specs.declared.evidence.Evidence.TheVariants.{Finds}

-- the access that a request at a place intends after `k` others, if there is one
unfoldable pub intended : List FileEntry → ℕ → Place → Operation → ℕ → Option Intent
intended catalogue size place operation k = do
  entry ← opened_by catalogue operation
  intent_by catalogue size place entry operation k

-- the evidence in the answer of a request for one of its accesses: that there is no such answer, or
-- that of the access that it intends, unless it was canceled or found no memory
unfoldable pub evidence_by_member : Given → Completed → Asked → ℕ → Option Evidence
evidence_by_member g c request k =
    if is_impossible g.catalogue (slots_of g) c request then Some Never
    else if is_error c ECANCELED || is_error c ENOMEM then None
    else option_map (λ intent. evidence_of intent c.res)
    (intended g.catalogue (slots_of g) c.place request.operation k)

-- and in the answer of a look
abbrev pub evidence_found : ℕ → Option Identity → Evidence
evidence_found slot (Some file) = Finds slot file
evidence_found slot None = Empties slot

-- the evidence in an event for an access of the call that another one begins
abbrev pub shown : Given → Happening → Happening → ℕ → Option Evidence
shown g (Called id requests) (Answered other c) k =
    if other == id
    then slice_get requests (c.place.member - 1) >>= (λ request. evidence_by_member g c request k)
    else None
shown g (LookCalled id slot) (LookAnswered other found) k =
    only_if ((other == id) && (k == 0) && nat_lt slot (slots_of g)) (evidence_found slot found)
shown g begins ends k = None

-- the evidence for an access, by the positions of its call and of its answer
unfoldable pub made : Given → ℕ → ℕ → ℕ → Option Evidence
made g call answer k = do
  begins ← event_at g call
  ends ← event_at g answer
  shown g begins ends k
