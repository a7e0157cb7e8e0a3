-- Where a chain is between two of its accesses, and where its next access leads it.
use Rattle.std.specs.Prelude.{◌≡◌, ◌+◌, ◌==◌, ◌∷◌, if◌then◌else◌}
use Rattle.check_outcomes.specs.Words.{ℕ, List, [], Option, Some, None, option_map, FileEntry}
use Rattle.check_outcomes.specs.Words.{Completed, negated, next_member, canceled, first_member}
use Rattle.check_outcomes.specs.Words.{severs, answer_of, count_of, Asked, Place, finding_of}
use Rattle.check_outcomes.specs.Words.{Access}
use Rattle.fx_base.specs.declared.errno.Errno.TheVariants.{ENOMEM}
use Rattle.check_outcomes.specs.Choices.{IsNextAccess}

-- the request found memory
abbrev pub HasMemory : Completed → Type 0
HasMemory c = c.res ≡ negated ENOMEM → ⊥

-- how many accesses each request makes that finds memory, and what it answers then, by its place
-- and the last of them
pub record Rules : Type 0 where
  pub count : Asked → ℕ
  pub answer : Place → Asked → Option Access → Completed

abbrev pub rules_of : List FileEntry → ℕ → Rules
rules_of catalogue size = record {
  count = λ request. count_of catalogue size request.operation;
  answer = λ place request last.
      answer_of catalogue size place request.operation (option_map finding_of last);
}

-- the requests of a chain that are left, from this place on, and how many accesses the first of
-- them has made
pub record Rest : Type 0 where
  pub place : Place
  pub requests : List Asked
  pub made : ℕ

abbrev pub rest_at : Place → List Asked → ℕ → Rest
rest_at place requests made = record { place = place; requests = requests; made = made }

-- no request of the chain is left; whichever was its last one
abbrev pub over : Rest
over = rest_at (first_member 0 0) [] 0

module _ (rules : Rules) where
  -- up to the next request that reaches the table: what is answered, and where the chain is then
  abbrev pub settled_at : Place → List Asked → List Completed × Rest
  settled_at place [] = ([], over)
  settled_at place (request ∷ requests) =
      if rules.count request == 0
      then (if severs request (rules.answer place request None)
      then (rules.answer place request None ∷ canceled (next_member place) requests, over)
      else (
        rules.answer place request None ∷ (settled_at (next_member place) requests).0,
        (settled_at (next_member place) requests).1,
      ))
      else ([], rest_at place (request ∷ requests) 0)

  -- once a request has answered: what is answered up to the next request that reaches the table,
  -- and where the chain is then
  abbrev pub behind : Place → Asked → List Asked → Completed → List Completed × Rest
  behind place request requests c =
      if severs request c
      then (c ∷ canceled (next_member place) requests, over)
      else (
        c ∷ (settled_at (next_member place) requests).0,
        (settled_at (next_member place) requests).1,
      )

  -- where an access of the first request that is left leads
  abbrev pub step_of : Place → List Asked → ℕ → Access → List Completed × Rest
  step_of place [] made a = ([], over)
  step_of place (request ∷ requests) made a =
      if rules.count request == made + 1
      then behind place request requests (rules.answer place request (Some a))
      else ([], rest_at place (request ∷ requests) (made + 1))

  abbrev pub step : Rest → Access → List Completed × Rest
  step rest a = step_of rest.place rest.requests rest.made a

-- an access that the first request may make next
abbrev pub IsNextOf : List FileEntry → ℕ → Place → List Asked → ℕ → Access → Type 0
IsNextOf catalogue size place [] made a = ⊥
IsNextOf catalogue size place (request ∷ requests) made a =
    IsNextAccess catalogue size place request.operation made a

abbrev pub IsNext : List FileEntry → ℕ → Rest → Access → Type 0
IsNext catalogue size rest a = IsNextOf catalogue size rest.place rest.requests rest.made a
