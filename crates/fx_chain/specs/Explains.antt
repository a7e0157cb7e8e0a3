-- The answers that a chain may get: its members one after another, up to and including the first
-- one that severs it, and the later ones canceled (io_uring_enter(2), "IOSQE_IO_LINK",
-- "IOSQE_IO_HARDLINK").
use Rattle.std.specs.Prelude.{◌≡◌, ℕ, pos, int_lt, ◌&&◌, ◌||◌, not, Bool, false, List, [], ◌∷◌}
use Rattle.std.specs.Bool.{MatchBool}
use Rattle.fx_base.specs.declared.errno.Errno.TheVariants.{ECANCELED}
use Rattle.fx_base.specs.Catalogue.{FileEntry}
use Rattle.fx_plain.specs.declared.event.Action.{Action}
use Rattle.fx_plain.specs.History.{◌▷▷◌}
use Rattle.fx_chain.specs.Answers.{Answers, Refuses}
use Rattle.fx_chain.specs.Completed.{Completed, refusal, next_member}
use Rattle.fx_chain.specs.Operation.{Operation, Reads, Asked, is_hard_link}
use Rattle.fx_chain.specs.declared.completion.Place.{Place}

-- a read that returned fewer bytes than it asked for
abbrev pub is_short : Operation → Completed → Bool
is_short (Reads slot off len) c = int_lt c.res (pos len)
is_short _ c = false

abbrev pub has_failed : Operation → Completed → Bool
has_failed operation c = int_lt c.res (pos 0) || is_short operation c

-- the later members never start: the request failed, and isn't a hard link
abbrev pub severs : Asked → Completed → Bool
severs request c = has_failed request.operation c && not (is_hard_link request.flags)

-- the answers of members that never started
abbrev pub canceled : Place → List Asked → List Completed
canceled place [] = []
canceled place (request ∷ requests) =
    refusal place ECANCELED ∷ canceled (next_member place) requests

-- the members from this place on make these steps, each its own part of them, and get these answers
abbrev pub Explains : List FileEntry → ℕ → Place → List Asked → List Action → List Completed
    → Type 0
Explains catalogue size place [] events completions = (events ≡ []) × (completions ≡ [])
Explains catalogue size place (request ∷ requests) events completions =
    (own : List Action) × (others : List Action) × (c : Completed) × (cs : List Completed)
    × (events ≡ own ▷▷ others) × (completions ≡ c ∷ cs)
    × Answers catalogue size place request.operation own c
    × MatchBool (severs request c)
    ((others ≡ []) × (cs ≡ canceled (next_member place) requests))
    (Explains catalogue size (next_member place) requests others cs)

-- the next member's answer: canceled if an earlier one severed the chain, otherwise by its own
-- steps
abbrev pub AnswersAfter : List FileEntry → ℕ → Place → Bool → Asked → List Action → Completed
    → Type 0
AnswersAfter catalogue size place severed request events c =
    MatchBool severed (Refuses place ECANCELED events c)
    (Answers catalogue size place request.operation events c)

abbrev pub first_member : ℕ → ℕ → Place
first_member submission chain = record { submission = submission; chain = chain; member = 1 }
