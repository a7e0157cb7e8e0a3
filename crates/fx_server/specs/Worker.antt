-- A worker as contracts see it: its table, its hold, its numbers and its pass.
use Rattle.fx_server.specs.Words.{Option, LastingPass, FileNumbers, Shared, Held}

pub record TableWorker : Type 0 where
  pub shared : Shared
  pub held : Option Held
  pub numbers : FileNumbers
  pub pass : LastingPass
