-- Orders that are supposed of the flights of a beginning.
use Rattle.check_certificate.specs.Words.{Option, None, All, PointOrder, KnownOrders}
use Rattle.check_certificate.specs.Forced.{IsForced, TimedFlight}
use Rattle.check_certificate.specs.declared.beginning.LogBeginning.{LogBeginning}

-- the beginning, of which an order is supposed or none
abbrev pub under : LogBeginning → Option PointOrder → LogBeginning
under b supposed = record b { supposed = supposed }

-- no flight keeps the order that is supposed
abbrev pub IsKeptByNone : LogBeginning → Type 0
IsKeptByNone b = TimedFlight b → ⊥

-- each flight that keeps the order that is supposed keeps the known ones, and each flight those of
-- before
pub record AreKnownOrders (b : LogBeginning) (known : KnownOrders) : Type 0 where
  pub orders : All (IsForced (under b known.supposed)) known.orders.items
  pub before : All (IsForced (under b None)) known.before.items
