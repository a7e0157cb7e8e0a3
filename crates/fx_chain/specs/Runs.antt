-- The runs of a submission: the requests that are linked with each other (io_uring_enter(2),
-- "IOSQE_IO_LINK", "IOSQE_IO_HARDLINK").
use Rattle.std.specs.Prelude.{◌≡◌, ◌<◌, Bool, true, false, not, List, [], ◌∷◌, ◌++◌, length, All}
use Rattle.std.specs.Prelude.{flat_map, if◌then◌else◌}
use Rattle.std.specs.List.{list_all}
use Rattle.fx_chain.specs.Operation.{Asked, is_link}

-- all elements but the last
abbrev pub but_last : {X : Type 0} → List X → List X
but_last [] = []
but_last (x ∷ []) = []
but_last (x ∷ y ∷ xs) = x ∷ but_last (y ∷ xs)

-- the last request lacks the link
abbrev pub is_over : List Asked → Bool
is_over [] = false
is_over (request ∷ []) = not (is_link request.flags)
is_over (request ∷ next ∷ run) = is_over (next ∷ run)

-- the list in parts: each request of a part except the last links with the next one, and the last
-- one doesn't, except perhaps in the last part
pub record AreRuns (requests : List Asked) (runs : List (List Asked)) : Type 0 where
  pub whole : flat_map (λ run. run) runs ≡ requests
  pub not_empty : All (λ run. 0 < length run) runs
  pub linked : All (λ run. All (λ request. is_link request.flags ≡ true) (but_last run)) runs
  pub over : All (λ run. is_over run ≡ true) (but_last runs)

-- the only way to split the list into such parts
pub record AreTheOnlyRuns (requests : List Asked) (runs : List (List Asked)) : Type 0 where
  pub are : AreRuns requests runs
  pub only : (others : List (List Asked)) → AreRuns requests others → others ≡ runs

-- a request before the first run, or a run of its own if there is none
abbrev pub in_front : Asked → List (List Asked) → List (List Asked)
in_front request [] = (request ∷ []) ∷ []
in_front request (run ∷ runs) = (request ∷ run) ∷ runs

-- the runs of the list
abbrev pub runs_of : List Asked → List (List Asked)
runs_of [] = []
runs_of (request ∷ requests) =
    if is_link request.flags then in_front request (runs_of requests)
    else (request ∷ []) ∷ runs_of requests

-- the requests at the end of the list that all link: a request after the list is a member of their
-- run
abbrev pub open_run : List Asked → List Asked
open_run [] = []
open_run (request ∷ requests) =
    if list_all (λ r. is_link r.flags) (request ∷ requests) then request ∷ requests
    else open_run requests

-- a request's run begins with the open run of the requests before it
pub record IsInRun (front : List Asked) (request : Asked) (runs : List (List Asked)) : Type 0 where
  -- the runs before its own, its later members, and the runs after its own
  pub earlier : List (List Asked)
  pub rest : List Asked
  pub later : List (List Asked)
  pub parts : runs ≡ earlier ++ (open_run front ++ request ∷ rest) ∷ later
  -- if it begins its run, the runs of the requests before it are those before its own
  pub begins : open_run front ≡ [] → earlier ≡ runs_of front
