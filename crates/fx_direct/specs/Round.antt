-- A flight with all kinds of moments and transitions.
use Rattle.std.specs.Prelude.{◌∷◌, List, [], true, false, Some, None}
use Rattle.fx_direct.specs.Words.{◌▷◌, Look, Release, Put, Take, File, LifeKey}
use Rattle.fx_base.specs.declared.mark.Mark.TheVariants.{Registered}
use Rattle.fx_plain.specs.declared.event.Action.TheVariants.{Close}
use Rattle.fx_direct.specs.Phases.{unused}
use Rattle.fx_direct.specs.Transitions.{Reserves, Adopts, Chains, Opens, Starts, Finishes, Holds}
use Rattle.fx_direct.specs.Transitions.{Releases, Ends, Asks, Closes, FailsToClose}
use Rattle.fx_direct.specs.Flight.{World, OpenAt, UseOf, CloseOf, DirectMoment, Does, Accesses}
use Rattle.fx_direct.specs.Flight.{Quits, Chooses, Others, IsDirectFlight}
use Rattle.fx_direct.specs.Laws.{IsEmptyStart}

-- two empty slots, of which the kernel may choose the second one
abbrev pub two_slots : World
two_slots = record {
  slots = unused ∷ unused ∷ [];
  table = record {
    size = 2;
    range = (1, 1);
    at = λ _. None;
    removed = λ _. None;
    holds = λ _. 0;
    fresh = λ _. true;
  };
  calls = [];
}

abbrev pub some_file : File
some_file = record {
  number = 7;
  identity = record { mark = Registered 1 0; entry = 0; tag = 0 };
}

abbrev pub first_key : LifeKey
first_key = record { slot = 0; number = 1 }

abbrev pub second_key : LifeKey
second_key = record { slot = 0; number = 2 }

abbrev pub third_key : LifeKey
third_key = record { slot = 0; number = 3 }

abbrev pub next_file : File
next_file = record {
  number = 8;
  identity = record { mark = Registered 1 1; entry = 1; tag = 0 };
}

abbrev pub third_file : File
third_file = record {
  number = 9;
  identity = record { mark = Registered 1 2; entry = 2; tag = 0 };
}

abbrev pub fourth_file : File
fourth_file = record {
  number = 10;
  identity = record { mark = Registered 1 3; entry = 3; tag = 0 };
}

-- the keys of the slot that the kernel chooses
abbrev pub adopted_key : LifeKey
adopted_key = record { slot = 1; number = 1 }

abbrev pub later_key : LifeKey
later_key = record { slot = 1; number = 2 }

-- a life with a request and a user, whose first close fails; a chain, which opens a file, reads it
-- and closes it, whose close is seen first; and a chain whose open fails, after which its close
-- finds no file;
-- and a life that is adopted, and another one at its slot before its close is seen
abbrev pub round : List DirectMoment
round =
    [] ▷ Does (Reserves first_key) ▷ Accesses (OpenAt first_key) (Put 0 some_file None)
    ▷ Does (Opens first_key true) ▷ Does (Starts first_key) ▷ Does (Holds first_key)
    ▷ Accesses (UseOf first_key) (Look 0 (Some some_file)) ▷ Does (Ends first_key)
    ▷ Accesses (UseOf first_key) (Release some_file) ▷ Quits (UseOf first_key)
    ▷ Does (Finishes first_key) ▷ Does (Releases first_key) ▷ Does (Asks first_key)
    ▷ Quits (CloseOf first_key) ▷ Does (FailsToClose first_key) ▷ Does (Asks first_key)
    ▷ Accesses (CloseOf first_key) (Take 0 (Some some_file)) ▷ Others (Close some_file)
    ▷ Does (Closes first_key)
    ▷ Does (Reserves second_key) ▷ Does (Chains second_key 1 true)
    ▷ Accesses (OpenAt second_key) (Put 0 next_file None)
    ▷ Accesses (UseOf second_key) (Look 0 (Some next_file))
    ▷ Accesses (UseOf second_key) (Release next_file) ▷ Quits (UseOf second_key)
    ▷ Accesses (CloseOf second_key) (Take 0 (Some next_file)) ▷ Does (Closes second_key)
    ▷ Does (Finishes second_key) ▷ Does (Opens second_key true)
    ▷ Does (Reserves third_key) ▷ Does (Chains third_key 0 true) ▷ Quits (OpenAt third_key)
    ▷ Accesses (CloseOf third_key) (Take 0 None) ▷ Does (Opens third_key false)
    ▷ Does (FailsToClose third_key)
    ▷ Chooses adopted_key third_file ▷ Does (Adopts adopted_key) ▷ Does (Ends adopted_key)
    ▷ Does (Asks adopted_key) ▷ Accesses (CloseOf adopted_key) (Take 1 (Some third_file))
    ▷ Chooses later_key fourth_file ▷ Does (Closes adopted_key) ▷ Does (Adopts later_key)

-- there is a flight with these moments, from a start
abbrev pub GoesRound : Type 0
GoesRound = IsEmptyStart two_slots × (end : World) × IsDirectFlight two_slots round end
