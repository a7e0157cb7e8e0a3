-- A play of a script in which each accepted submission comes of an order that is given.
use Rattle.std.specs.Prelude.{◌≡◌, ◌∷◌, ◌++◌, ℕ, List, [], Option, Some, None}
use Rattle.check_judge.specs.Words.{Asked, runs_of, IsOrderOf, ring_left, RingContents, RingState}
use Rattle.check_judge.specs.Words.{ring_of, IsOneHistory, Reported, Instruction, SubmitsAll}
use Rattle.check_judge.specs.Words.{IsNewRing, Prints, PrintsEnd, Meaning, Order}
use Rattle.std.specs.Option.{option_to_list}
use Rattle.fx_script.specs.Text.{report_text}
use Rattle.check_judge.specs.Places.{AreAccessPlaces}

-- an accepted submission leads from one ring to another and prints this, by this order of its
-- requests
pub record IsReportedBy (old : RingContents) (asked : List Asked) (new : RingContents)
    (text : List ℕ) (order : Order) : Type 0 where
  -- the report that is printed comes of one legal history
  pub report : Reported
  pub history : IsOneHistory old asked report new
  pub printed : text ≡ report_text old.catalogue report
  -- the accesses that are listed, made one after another, explain each completion and each close of
  -- it, and leave the next ring
  pub explained : IsOrderOf order.accesses.items (ring_of old) asked report
  pub left : ring_of new ≡ ring_left order.accesses.items (ring_of old)
  pub submission : order.submission ≡ report.submission
  -- and the places that are listed are those of the requests that make them
  pub places : AreAccessPlaces old.catalogue (ring_of old).size report.submission (runs_of asked)
      report.completions order.accesses.items order.places.items

-- an order is that of an accepted submission; where there is none, the ring counts no submission
abbrev pub HasOrder :
    RingContents → Instruction → RingContents → List ℕ → Option Order → Type 0
HasOrder old command new text None = new.submissions ≡ old.submissions
HasOrder old command new text (Some order) =
    (asked : List Asked) × (command ≡ SubmitsAll asked) × IsReportedBy old asked new text order

-- the commands may print this, one after another, and the end of the script after them; these are
-- the orders of the accepted submissions among them, the first one's first
abbrev pub PrintsAllBy : RingContents → List Instruction → List ℕ → List Order → Type 0
PrintsAllBy ring [] text orders = PrintsEnd (ring_of ring) text × (orders ≡ [])
PrintsAllBy ring (command ∷ commands) text orders =
    (next : RingContents) × (line : List ℕ) × (others : List ℕ)
    × (own : Option Order) × (later : List Order)
    × Prints ring command next line × HasOrder ring command next line own
    × (text ≡ line ++ others) × (orders ≡ option_to_list own ++ later)
    × PrintsAllBy next commands others later

-- one play of the script prints this, and these are the orders of its accepted submissions
abbrev pub IsTextBy : Meaning → List ℕ → List Order → Type 0
IsTextBy script text orders =
    (ring : RingContents) × IsNewRing script ring × PrintsAllBy ring script.commands text orders

-- each ring of the one state may be led to the other by the command, by this order, and print this
abbrev pub MayPrintBy : RingState → Instruction → RingState → List ℕ → Option Order → Type 0
MayPrintBy old command new line order =
    (ring : RingContents) → ring_of ring ≡ old
    → (next : RingContents) × (ring_of next ≡ new) × Prints ring command next line
    × HasOrder ring command next line order

-- each ring of this state may print this by these commands and the end of the script, by these
-- orders
abbrev pub MayPrintAllBy : RingState → List Instruction → List ℕ → List Order → Type 0
MayPrintAllBy state commands text orders =
    (ring : RingContents) → ring_of ring ≡ state → PrintsAllBy ring commands text orders
