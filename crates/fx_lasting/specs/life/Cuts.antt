-- The views of seats, by what all shared tables have.
use Rattle.std.specs.Prelude.{◌≡◌, List, []}
use Rattle.fx_lasting.specs.Words.{part_of_pass, Seats, lasting_opening, Outside, Log, Start, View}
use Rattle.fx_lasting.specs.Passes.{contents_of, new_log}
use Rattle.fx_lasting.specs.declared.view.Glance.TheVariants.{None as Nothing}
use Rattle.fx_lasting.specs.declared.view.Work.TheVariants.{Idle}

-- the start of a seat whose passes went to another
abbrev pub no_start : Start
no_start = record {
  size = 0;
  range_start = 0;
  range_len = 0;
  passes = 0;
  installing = 0;
}

-- an idle view with these passes
abbrev pub begun : Start → List Log → View
begun k logs = record {
  start = k;
  logs = logs;
  work = Idle;
  glance = Nothing;
  change = Outside;
  known = [];
}

-- a view with other passes has found no node
abbrev pub seats : Seats View Log Start
seats = record {
  logs = λ v. v.logs;
  start = λ v. v.start;
  known = λ v. v.known;
  IsIdle = λ v. (v.work ≡ Idle) × (v.glance ≡ Nothing) × (v.change ≡ Outside);
  number = λ x. x.number;
  front = λ x. x.front;
  own = λ x. part_of_pass x.number x.front;
  opening = λ k. lasting_opening (contents_of k) k.passes;
  new_log = new_log;
  begun = begun;
  with_logs = λ v logs. record v { logs = logs; work = Idle };
  showing = λ h. record (begun no_start []) { known = h };
}
