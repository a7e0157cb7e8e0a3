-- Right certificates: each step adds an order by its rule, until a point comes before itself.
use Rattle.check_certificate.specs.Words.{ℕ, nat_le, nat_lt, Bool, true, false, not, List, []}
use Rattle.check_certificate.specs.Words.{length, slice_get, take, replicate, IsTrue, Option, Some}
use Rattle.check_certificate.specs.Words.{None, option_map, list_all, FileEntry, all_happenings}
use Rattle.check_certificate.specs.Words.{IsFaultless, LogEvent, Slots, PointOrder, KnownOrders}
use Rattle.std.specs.Prelude.{◌^◌, ◌+◌, ◌-◌, ◌&&◌, ◌||◌, ◌∷◌, ◌++◌, is_none, if◌then◌else◌}
use Rattle.check_certificate.specs.Forced.{is_of_no_call}
use Rattle.check_certificate.specs.Cut.{cut}
use Rattle.check_certificate.specs.Holds.{is_some_so}
use Rattle.check_certificate.specs.Said.{◌>>=◌, Given, only_if}
use Rattle.check_certificate.specs.declared.certificate.Step.{Step}
use Rattle.check_certificate.specs.Holds as hold
use Rattle.check_certificate.specs.Rules as rule
use Rattle.check_certificate.specs.Walks as walk
use Rattle.check_certificate.specs.declared.certificate.Step.TheVariants as kind

-- the order that a step adds to the known ones, if its premises hold
abbrev pub order_added : Given → List PointOrder → Step → Option PointOrder
order_added g known (kind.Events earlier later) = rule.events_in_order g earlier later
order_added g known (kind.Begins call answer access) = rule.begins g call answer access
order_added g known (kind.Ends call answer access) = rule.ends g call answer access
order_added g known (kind.Calls call file) = rule.calls g call file
order_added g known (kind.Installs call answer access) = rule.installs g call answer access
order_added g known (kind.Places call answer access) = rule.places g call answer access
order_added g known (kind.Follows call answer) = rule.follows g call answer
order_added g known (kind.Finds call answer) = rule.finds g call answer
order_added g known (kind.Closes close slot) = rule.closes g close slot
order_added g known (kind.Settles settled installed placed) = do
  first ← slice_get known installed
  second ← slice_get known placed
  rule.settles g settled first second
order_added g known (kind.Empties call answer access installed) =
    slice_get known installed >>= rule.empties g call answer access
order_added g known (kind.Precedes call answer access there) =
    slice_get known there >>= rule.precedes g call answer access
order_added g known (kind.Displaces installed placed) = do
  first ← slice_get known installed
  second ← slice_get known placed
  rule.displaces first second
order_added g known (kind.Outlives there placed) = do
  first ← slice_get known there
  second ← slice_get known placed
  rule.outlives first second
order_added g known (kind.Then first second) = do
  one ← slice_get known first
  other ← slice_get known second
  rule.joined one other
order_added g known (kind.Holds holding) = walk.holds g known holding
order_added g known (kind.Lands slot installed) = do
  order ← slice_get known installed
  landing ← walk.landing order slot
  walk.lands g known landing
order_added g known (kind.Misses slot installed) = do
  order ← slice_get known installed
  landing ← walk.landing order slot
  walk.misses g known landing
order_added g known (kind.Existed close) = rule.existed g close
order_added g known (kind.Stays until there) = slice_get known there >>= walk.stays g known until
order_added g known (kind.Takes taker there gone) = do
  first ← slice_get known there
  second ← slice_get known gone
  option_map (λ orders. orders.0) (walk.taken g known taker first second)
order_added g known (kind.TakenBy taker there gone) = do
  first ← slice_get known there
  second ← slice_get known gone
  option_map (λ orders. orders.1) (walk.taken g known taker first second)
order_added g known (kind.Differs call other order) =
    slice_get known order >>= rule.differs g call other
order_added g known (kind.FindsClosed close answer) = rule.finds_closed g close answer
order_added g known (kind.ClosesTwice first second) = rule.closes_twice g first second
order_added g known (kind.ClosesHeld answer close) = rule.closes_held g answer close
order_added g known (kind.CantAnswer call answer) = rule.cant_answer g call answer
order_added g known (kind.Fails event answer file) = hold.fails g event answer file
order_added g known (kind.Unknown installed) = slice_get known installed >>= walk.unknown g known
order_added g known (kind.Cut call first answer) = cut g call first answer
order_added g known (kind.Suppose order) = None
order_added g known kind.Otherwise = None

-- the order says that a point comes before itself
abbrev pub is_contradiction : PointOrder → Bool
is_contradiction order = order.strict && rule.same_point order.from order.to

-- the last order does
abbrev pub are_contradicted : List PointOrder → Bool
are_contradicted orders = is_some_so (slice_get orders (length orders - 1)) is_contradiction

-- the orders that are known after some steps, the one that is supposed, and the orders that were
-- known before it was
pub record Known : Type 0 where
  pub orders : List PointOrder
  pub supposed : Option PointOrder
  pub before : List PointOrder

abbrev pub known_of : KnownOrders → Known
known_of known = record {
  orders = known.orders.items;
  supposed = known.supposed;
  before = known.before.items;
}

abbrev pub nothing : Known
nothing = record { orders = []; supposed = None; before = [] }

-- the steps led to a contradiction
abbrev pub is_end : Known → Bool
is_end k = is_none k.supposed && are_contradicted k.orders

-- the order that a step supposes
abbrev pub supposition : Step → Option PointOrder
supposition (kind.Suppose order) = Some order
supposition step = None

-- the step ends a supposition
abbrev pub is_otherwise : Step → Bool
is_otherwise kind.Otherwise = true
is_otherwise step = false

-- the order that all other flights keep
abbrev pub opposite : PointOrder → PointOrder
opposite order = record { from = order.to; to = order.from; strict = not order.strict }

-- an order is supposed
abbrev pub suppose : Known → PointOrder → Option Known
suppose k order = only_if (is_none k.supposed)
    (record { orders = k.orders ++ order ∷ []; supposed = Some order; before = k.orders })

-- it is refuted: the opposite order is known, by the numbers of the steps since then too
abbrev pub otherwise : Known → Option Known
otherwise k = do
  order ← k.supposed
  only_if (are_contradicted k.orders) (record {
    orders = take (length k.orders + 1) k.before
        ++ replicate (length k.orders + 1 - length k.before) (opposite order);
    supposed = None;
    before = [];
  })

-- a rule adds an order
abbrev pub known_with : Given → Known → Step → Option Known
known_with g k step =
    option_map (λ order. record k { orders = k.orders ++ order ∷ [] }) (order_added g k.orders step)

-- what is known after a step, by the order that it supposes
abbrev pub known_after_by : Given → Known → Step → Option PointOrder → Option Known
known_after_by g k step (Some order) = suppose k order
known_after_by g k step None = if is_otherwise step then otherwise k else known_with g k step

abbrev pub known_after : Given → Known → Step → Option Known
known_after g k step = known_after_by g k step (supposition step)

-- the steps add to what is known, one after another, up to a contradiction
abbrev pub leads_on : Given → Known → List Step → Bool
leads_on g k [] = false
leads_on g k (step ∷ steps) =
    is_some_so (known_after g k step) (λ next. is_end next || leads_on g next steps)

-- the first `count` events are a log, no file at a slot before it has the mark of a call, and the
-- steps lead from no orders to a contradiction
pub record IsRightCertificate (catalogue : List FileEntry) (slots : Slots) (events : List LogEvent)
    (count : ℕ) (certificate : List Step) : Type 0 where
  pub size : IsTrue (nat_lt (length slots.at.items) (2 ^ 32))
  pub inside : IsTrue (nat_le count (length events))
  pub marks : IsTrue (list_all is_of_no_call slots.at.items)
  pub faultless : IsFaultless (all_happenings (take count events))
  pub leads : IsTrue (leads_on
      (record { catalogue = catalogue; slots = slots; events = take count events }) nothing
      certificate)
