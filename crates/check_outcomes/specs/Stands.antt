-- Where a chain is, by how many of its members are done.
use Rattle.std.specs.Prelude.{◌≡◌, ◌+◌, ◌≤◌, ◌==◌, ◌&&◌, ◌∷◌, ◌++◌, ℕ, nat_le, Bool, false, List}
use Rattle.std.specs.Prelude.{[], length, drop, Contains, Option, Some, None}
use Rattle.check_outcomes.specs.Words.{FileEntry, Completed, Asked, Place, Table, Permits, Access}
use Rattle.check_outcomes.specs.Rests.{IsNext, Rest, Rules, behind, over, rest_at, step}
use Rattle.check_outcomes.specs.declared.submission.Progress.{Progress}

-- the place of the member that follows a place by a number of members
abbrev pub moved : Place → ℕ → Place
moved place n = record place { member = place.member + n }

abbrev pub rest_for : Place → List Asked → ℕ → Rest
rest_for place [] made = over
rest_for place (request ∷ requests) made = rest_at place (request ∷ requests) made

-- where a chain is that has its first member at this place
abbrev pub rest_in : Place → List Asked → Progress → Rest
rest_in place run progress =
    rest_for (moved place progress.done) (drop progress.done run) progress.made

-- these completions come after `before`, and the chain is where `passed` of these requests from
-- this place on are done
pub record Settles (now : List Completed × Rest) (place : Place) (requests : List Asked)
    (before after : List Completed) (passed : ℕ) : Type 0 where
  pub recorded : after ≡ before ++ now.0
  pub rest : now.1 ≡ rest_for (moved place passed) (drop passed requests) 0
  pub within : passed ≤ length requests

-- what is answered from a request on, by the last of its accesses, up to the next one that reaches
-- the table, and where the chain is then
abbrev pub gone_on :
    Rules → Place → Asked → List Asked → Option Access → List Completed × Rest
gone_on rules place request requests last =
    behind rules place request requests (rules.answer place request last)

-- an access leads a chain on, and this is recorded after what was recorded before
pub record StepsChain (rules : Rules) (place : Place) (run : List Asked) (progress : Progress)
    (a : Access) (before after : List Completed) (next : Progress) : Type 0 where
  pub recorded : after ≡ before ++ (step rules (rest_in place run progress) a).0
  pub rest : rest_in place run next ≡ (step rules (rest_in place run progress) a).1

-- the list has each access that the chain may make next and the table permits
abbrev pub HasEachNext : List FileEntry → Table → Rest → List Access → Type 0
HasEachNext catalogue table rest choices =
    (a : Access) → IsNext catalogue table.size rest a → Permits table a → Contains choices a

-- the request that is asked for, if there is one, is that at this place or a later one
abbrev pub asks_from : Option Place → Place → Bool
asks_from None place = false
asks_from (Some own) place =
    own.submission == place.submission
    && (own.chain == place.chain && nat_le place.member own.member)
