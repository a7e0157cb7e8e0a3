-- Flights from one empty slot, moment by moment: each world is the one that the moment leaves.
use Rattle.fx_direct.proofs.Words.{arith, ◌<◌, ◌≤◌, ◌≡◌, List, [], ◌∷◌, ◌++◌, refl, Bool, false, World, Pending, pending, CallStage, Waits, Quit, UseOf, Transition, DirectCall}
use Rattle.fx_direct.proofs.Words.{◌+◌, LifeKey, File, Allocate, Chooses, slot_numbered, Accesses, Does, Quits, Others, DirectMoment, Loses, TurnsCalls, MayMake, HasItsTurn, stage_after, IsElsewhere, Allows, Action, slots_with, table_after, length}
use Rattle.fx_direct.proofs.Words.{IsDirectFlightBy, MOST_LIVES}
use Rattle.fx_direct.specs.Round.{two_slots, first_key}

pub inside : 0 < 2
inside = omega arith

pub one_left : 0 < 1
one_left = omega arith

pub second : 1 < 2
second = omega arith

-- the first slot is outside the range, and the second one inside
pub outside : (1 ≤ 0) × (0 < 2) → ⊥
outside r = let e = r.0 in omega arith

pub ranged : (1 ≤ 1) × (1 < 2)
ranged = (omega arith, omega arith)

pub one_life : 1 ≤ MOST_LIVES
one_life = omega arith

pub two_lives : 2 ≤ MOST_LIVES
two_lives = omega arith

pub three_lives : 3 ≤ MOST_LIVES
three_lives = omega arith

-- a call that waits
abbrev pub waits : DirectCall → Pending
waits call = pending call false Waits

-- a request of the first key
abbrev pub use1 : Pending
use1 = waits (UseOf first_key)

pub only : (c : DirectCall) (linked : Bool) (stage : CallStage) (rest : List Pending) → Loses c stage (pending c linked stage ∷ rest) rest
only c linked stage rest = record { front = []; rest = rest; linked = linked; was = refl; is = refl }

-- a flight with these moments, under a condition of the machine's transitions
pub record Flown (enabled : World → Transition → Type 0) (h : List DirectMoment) : Type 0 where
  pub end : World
  pub flight : IsDirectFlightBy enabled two_slots h end

abbrev pub begun : (enabled : World → Transition → Type 0) → Flown enabled []
begun enabled = record { end = two_slots; flight = refl }

module _ {enabled : World → Transition → Type 0} {h : List DirectMoment} (f : Flown enabled h) where
  -- a transition, after which these calls are in flight
  abbrev pub does : (t : Transition) (calls : List Pending) → enabled f.end t → TurnsCalls t f.end.calls calls → Flown enabled (Does t ∷ h)
  does t calls can turns = record {
    end = record { slots = slots_with f.end.slots t; table = f.end.table; calls = calls };
    flight = (f.end, f.flight, (can, turns, refl));
  }

  -- an access by the call between `front` and `rest`
  abbrev pub makes : (call : DirectCall) (linked : Bool) (a : Action) (front rest : List Pending) → Allows f.end.table a
      → f.end.calls ≡ front ++ pending call linked Waits ∷ rest → MayMake call a → HasItsTurn call linked f.end.calls → Flown enabled (Accesses call a ∷ h)
  makes call linked a front rest allowed was may turn = record {
    end = record { slots = f.end.slots; table = table_after f.end.table a; calls = front ++ pending call linked (stage_after call a) ∷ rest };
    flight = (f.end, f.flight, (allowed, record { front = front; rest = rest; linked = linked; was = was; is = refl; may = may; turn = turn }, refl));
  }

  -- the call between `front` and `rest` makes no access any more
  abbrev pub quits : (call : DirectCall) (linked : Bool) (front rest : List Pending) → f.end.calls ≡ front ++ pending call linked Waits ∷ rest
      → Flown enabled (Quits call ∷ h)
  quits call linked front rest was = record {
    end = record { slots = f.end.slots; table = f.end.table; calls = front ++ pending call linked Quit ∷ rest };
    flight = (f.end, f.flight, (record { front = front; rest = rest; linked = linked; was = was; is = refl }, refl));
  }

  -- the access of an open without a key
  abbrev pub chooses : (k : LifeKey) (file : File) → Allows f.end.table (Allocate k.slot file) → k.slot < length f.end.slots
      → k.number ≡ (slot_numbered f.end.slots k.slot).number + 1 → Flown enabled (Chooses k file ∷ h)
  chooses k file allowed inside number = record {
    end = record { slots = f.end.slots; table = table_after f.end.table (Allocate k.slot file); calls = f.end.calls };
    flight = (f.end, f.flight, (allowed, inside, number, refl));
  }

  -- an action of others
  abbrev pub others : (a : Action) → Allows f.end.table a → IsElsewhere (length f.end.slots) a → Flown enabled (Others a ∷ h)
  others a allowed away = record {
    end = record { slots = f.end.slots; table = table_after f.end.table a; calls = f.end.calls };
    flight = (f.end, f.flight, (allowed, away, refl));
  }
