-- The accesses that calls intend before an event: none of them is one that a rule excludes.
use Rattle.check_certificate.specs.Words.{ℕ, List, slice_get, Some, IsIntent, Operation, Asked}
use Rattle.check_certificate.specs.Words.{Place, Intent, Happening, Called, WalkAim, Leaves, Lands}
use Rattle.check_certificate.specs.Words.{Misses}
use Rattle.std.specs.Prelude.{◌≡◌, ◌+◌, ◌<◌}
use Rattle.check_certificate.specs.Absent.{InstallsNone}
use Rattle.check_certificate.specs.Evidence.{IsEventAt, slot_count}
use Rattle.check_certificate.specs.Landed.{LandsThere, MissesThere}
use Rattle.check_certificate.specs.Taken.{TakesNone}
use Rattle.check_certificate.specs.declared.beginning.LogBeginning.{LogBeginning}
use Rattle.check_certificate.specs.declared.walk.WalkAim.TheVariants.{Finds}

-- the position of the event before which the calls begin
abbrev pub end_of : WalkAim → ℕ
end_of (Finds h) = h.answer
end_of (Leaves l) = l.until
end_of (Lands l) = l.until
end_of (Misses l) = l.until

-- an access that is intended isn't one that the rule excludes
abbrev pub IsRuledOut : LogBeginning → WalkAim → Place → Operation → ℕ → Intent → Type 0
IsRuledOut b (Finds h) place operation k intent = InstallsNone b h intent
IsRuledOut b (Leaves l) place operation k intent = TakesNone b l place operation k intent
IsRuledOut b (Lands l) place operation k intent = LandsThere l intent
IsRuledOut b (Misses l) place operation k intent = MissesThere l intent

-- so it is with the accesses of a request that come before one of them
abbrev pub AreRuledOutTo : LogBeginning → WalkAim → Place → Operation → ℕ → Type 0
AreRuledOutTo b aim place operation end =
    (k : ℕ) (intent : Intent) → k < end
    → IsIntent b.catalogue.now (slot_count b) place operation k (Some intent)
    → IsRuledOut b aim place operation k intent

-- and with all of them
abbrev pub AreRuledOut : LogBeginning → WalkAim → Place → Operation → Type 0
AreRuledOut b aim place operation =
    (k : ℕ) (intent : Intent)
    → IsIntent b.catalogue.now (slot_count b) place operation k (Some intent)
    → IsRuledOut b aim place operation k intent

-- the place of a member of a call, by its number from 0
abbrev pub member_of : ℕ → ℕ → Place
member_of id n = record { submission = id; chain = 1; member = 1 + n }

-- and with those of each request of a chain
abbrev pub AreAllRuledOut : LogBeginning → WalkAim → ℕ → List Asked → Type 0
AreAllRuledOut b aim id requests =
    (n : ℕ) (request : Asked) → slice_get requests n ≡ Some request
    → AreRuledOut b aim (member_of id n) request.operation

-- and with an event, if it is a call
abbrev pub IsCallRuledOut : LogBeginning → WalkAim → Happening → Type 0
IsCallRuledOut b aim event =
    (id : ℕ) (requests : List Asked) → event ≡ Called id requests → AreAllRuledOut b aim id requests

-- and with each call before the event
abbrev pub IsWalked : LogBeginning → WalkAim → Type 0
IsWalked b aim =
    (p id : ℕ) (requests : List Asked) → p < end_of aim → IsEventAt b p (Called id requests)
    → AreAllRuledOut b aim id requests
