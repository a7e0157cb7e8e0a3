-- The end of a key: one event of one pass removes or replaces its file.
use Rattle.std.specs.Prelude.{◌≡◌, ◌≢◌, ℕ, ℤ, List, Option, Some, None}
use Rattle.fx_server.specs.Words.{◌▷◌, ◌▷▷◌, IsLegal, IsInstalled, IsStart, State, Event, File}
use Rattle.fx_server.specs.Words.{IsKeyOf, number_of_mark, Key, CoreOutcome}
use Rattle.fx_plain.specs.declared.event.Action.{Action}
use Rattle.fx_plain.specs.declared.event.Action.TheVariants.{Put, Clear, Take}
use Rattle.fx_server.specs.ByKey.{RemovesAs, ReplacesAs}
use Rattle.fx_server.specs.Outcomes.{IsDone}
use Rattle.fx_server.specs.Workers.{its_pass}
use Rattle.fx_server.specs.Worker.{TableWorker}

-- the file that an action removes from its slot
abbrev pub file_leaving : Action → Option File
file_leaving (Put slot new replaced) = replaced
file_leaving (Clear slot found) = found
file_leaving (Take slot found) = found
file_leaving _ = None

-- the event removes a file that the key names
pub record EndsKey (key : Key) (e : Event) : Type 0 where
  pub file : File
  pub removes : file_leaving e.action ≡ Some file
  pub its_key : IsKeyOf key file

-- no number but 0 is that of two files which the history installed
abbrev pub HaveTheirOwnKeys : List Event → Type 0
HaveTheirOwnKeys h = (f g : File) → IsInstalled h f → IsInstalled h g
    → number_of_mark f.identity.mark ≢ 0
    → number_of_mark f.identity.mark ≡ number_of_mark g.identity.mark → f ≡ g

-- In a legal history of a table that was opened with empty slots, a key is ended by one event at
-- most, whichever passes make them: so of two calls that remove or replace one key, one does
abbrev pub KeysEndOnce : Type 0
KeysEndOnce = (key : Key) (start end : State) (before between : List Event) (first second : Event)
    → IsStart start → ((slot : ℕ) → start.at slot ≡ None)
    → IsLegal start (before ▷ first ▷▷ between ▷ second) end
    → HaveTheirOwnKeys (before ▷ first ▷▷ between ▷ second)
    → EndsKey key first → EndsKey key second → ⊥

-- a call made an event of the worker's pass that ends the key
pub record HasEnded (key : Key) (w w' : TableWorker) : Type 0 where
  pub event : Event
  pub ends : EndsKey key event
  pub mine : event.pass ≡ (its_pass w).number
  pub earlier : List Event
  pub since : List Event
  pub made : (its_pass w').own ≡ (its_pass w).own ▷▷ earlier ▷ event ▷▷ since

-- a removal by key that is done has ended the key, and so has a replacement
abbrev pub DoneRemovalsEndKeys : Type 0
DoneRemovalsEndKeys = (w w' : TableWorker) (key : Key) (answer : ℤ) (out : CoreOutcome)
    → RemovesAs w key answer out w' → IsDone answer → HasEnded key w w'

abbrev pub DoneReplacementsEndKeys : Type 0
DoneReplacementsEndKeys = (w w' : TableWorker) (key : Key) (tag : ℕ) (answer : ℤ)
    (out : CoreOutcome) → ReplacesAs w key tag answer out w' → IsDone answer → HasEnded key w w'
