-- The views of seats, by what all shared tables have.
use Rattle.std.specs.Prelude.{◌≡◌}
use Rattle.fx_counted.specs.Words.{[], Contents, part_of_pass, Seats, Outside, Log, Start, View}
use Rattle.fx_counted.specs.Words.{Between, Idle}
use Rattle.fx_counted.specs.Passes.{new_log, opening_of}

-- a table without slots
abbrev pub empty_table : Contents
empty_table = record { slots = []; range = (0, 0); nodes = []; holds = []; numbers = 0 }

-- the start of a seat whose passes went to another
abbrev pub no_start : Start
no_start = record {
  plain = record { marker = record {}; value = empty_table };
  chains = 0;
  passes = 0;
  numbers = 0;
}

abbrev pub seats : Seats View Log Start
seats = record {
  logs = λ v. v.logs;
  start = λ v. v.start;
  known = λ v. v.known;
  IsIdle = λ v. (v.work ≡ Between Idle) × (v.change ≡ Outside);
  number = λ x. x.number;
  front = λ x. x.front;
  own = λ x. part_of_pass x.number x.front;
  opening = opening_of;
  new_log = λ k p. new_log p;
  begun = λ k logs.
      record { start = k; logs = logs; work = Between Idle; change = Outside; known = [] };
  with_logs = λ v logs. record v { logs = logs };
  showing = λ h.
      record { start = no_start; logs = []; work = Between Idle; change = Outside; known = h };
}
