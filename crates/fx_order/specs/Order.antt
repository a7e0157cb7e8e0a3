-- A submission as an order: its requests are done one at a time, in an order that keeps each
-- chain's (an update entry by entry).
use Rattle.fx_order.specs.Words.{List, length, All, Asked, runs_of, RingState, HasClosed, Reported}
use Rattle.fx_order.specs.Words.{ChainAccess}
use Rattle.std.specs.Prelude.{◌≡◌, ◌+◌, ◌≤◌}
use Rattle.fx_order.specs.Access.{Table, PermitsAll, table_after, files_removed_in, accesses_of}
use Rattle.fx_order.specs.Requests.{AreChainsDone}

-- the table of a ring
abbrev pub table_of : RingState → Table
table_of ring = record { size = ring.size; range = ring.range; at = ring.at }

-- the accesses of a submission's requests, in this order, lead to this report
pub record IsOrderOf (order : List ChainAccess) (old : RingState) (requests : List Asked)
    (report : Reported) : Type 0 where
  -- each is permitted at the table that those before it left
  pub permitted : PermitsAll (table_of old) (accesses_of order)
  -- each is of one of the submission's chains
  pub chains : All (λ x. (1 ≤ x.chain) × (x.chain ≤ length (runs_of requests))) order
  -- each chain's members make their accesses in the chain's order, and the report has all their
  -- completions
  pub done : AreChainsDone old.catalogue old.size report.submission 1 (runs_of requests) order
      report.completions
  -- the report's closes are the files that were taken from their slots, in order of mark
  pub closed : HasClosed (files_removed_in (accesses_of order)) report.closes
  pub submission : report.submission ≡ old.submissions + 1

-- the ring that an order leaves: it has the files that the order left at the slots, the submission
-- is counted, and all else stays
abbrev pub ring_left : List ChainAccess → RingState → RingState
ring_left order old = record old {
  at = (table_after (table_of old) (accesses_of order)).at;
  submissions = old.submissions + 1;
}

-- a submission leads from one ring to another by one order of its requests' accesses
pub record IsOneOrder (old : RingState) (requests : List Asked) (report : Reported)
    (new : RingState) : Type 0 where
  pub order : List ChainAccess
  pub is : IsOrderOf order old requests report
  pub after : new ≡ ring_left order old
