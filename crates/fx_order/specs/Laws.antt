-- Laws that relate orders to histories, and reports to rings.
use Rattle.fx_order.specs.Words.{ℕ, List, length, slice_get, Some, Contains, IsCatalogue, Identity}
use Rattle.fx_order.specs.Words.{IsAccepted, Asked, runs_of, Place, RingContents, RingState, IsRing}
use Rattle.fx_order.specs.Words.{ring_of, IsOneHistory, Reported}
use Rattle.std.specs.Prelude.{◌≡◌, ◌⊎◌, ◌+◌, ◌<◌, ◌≤◌}
use Rattle.fx_base.specs.declared.mark.Mark.TheVariants.{Submitted}
use Rattle.fx_plain.specs.declared.table.TheConstants.{MOST_SLOTS}
use Rattle.fx_chain.specs.declared.fault.TheConstants.{MOST_MEMBERS}
use Rattle.fx_chain.specs.declared.request.TheConstants.{LONGEST_UPDATE}
use Rattle.fx_order.specs.Order.{IsOneOrder}

-- one order leads to what one history leads to
abbrev pub EachHistoryIsAnOrder : Type 0
EachHistoryIsAnOrder =
    (old new : RingContents) (requests : List Asked) (report : Reported)
    → IsOneHistory old requests report new
    → IsOneOrder (ring_of old) requests report (ring_of new)

-- one history leads to what one order of an accepted submission leads to
abbrev pub EachOrderIsAHistory : Type 0
EachOrderIsAHistory =
    (old : RingContents) (requests : List Asked) (report : Reported) (left : RingState)
    → (ring_of old).size ≤ MOST_SLOTS
    → IsAccepted requests
    → IsOneOrder (ring_of old) requests report left
    → (new : RingContents) × (ring_of new ≡ left) × IsOneHistory old requests report new

-- all orders that lead to one report lead to one ring: the same file is at each slot, and nothing
-- else can differ
abbrev pub EachReportLeadsToOneRing : Type 0
EachReportLeadsToOneRing =
    (old : RingState) (requests : List Asked) (report : Reported) (left other : RingState)
    → IsCatalogue old.catalogue
    → IsRing old
    → IsOneOrder old requests report left
    → IsOneOrder old requests report other
    → left ≡ other

-- the file is at a slot of the ring
abbrev pub IsThere : RingState → Identity → Type 0
IsThere ring file = (slot : ℕ) × (slot < ring.size) × (ring.at slot ≡ Some file)

-- the file is one that the next submission installs, with these requests: of the catalogue, without
-- a tag, and with the mark of a member and a position in its list
pub record IsOfNext (ring : RingState) (requests : List Asked) (file : Identity) : Type 0 where
  pub place : Place
  pub entry : ℕ
  pub next : place.submission ≡ ring.submissions + 1
  pub chain : place.chain ≤ length (runs_of requests)
  pub member : place.member ≤ MOST_MEMBERS
  pub listed : entry < LONGEST_UPDATE
  pub mark : file.mark ≡ Submitted place.submission place.chain place.member entry
  pub inside : file.entry < length ring.catalogue
  pub untagged : file.tag ≡ 0

-- each file was at a slot or is of the next submission, and no two have the same mark
pub record AreKnown (ring : RingState) (requests : List Asked)
    (files : List Identity) : Type 0 where
  pub from : (file : Identity) → Contains files file
      → IsThere ring file ⊎ IsOfNext ring requests file
  pub distinct : (i j : ℕ) (one other : Identity) → slice_get files i ≡ Some one
      → slice_get files j ≡ Some other → one.mark ≡ other.mark → i ≡ j

-- each file that an accepted submission closes was in the table, or the submission installed it; it
-- is closed once
abbrev pub EachClosedFileIsKnown : Type 0
EachClosedFileIsKnown =
    (old : RingState) (requests : List Asked) (report : Reported) (left : RingState)
    → IsRing old
    → IsAccepted requests
    → IsOneOrder old requests report left
    → AreKnown old requests report.closes.files

-- a file that an order leaves at a slot isn't among the closed ones
abbrev pub NoFileThatStaysIsClosed : Type 0
NoFileThatStaysIsClosed =
    (old : RingState) (requests : List Asked) (report : Reported) (left : RingState)
    → IsRing old
    → IsOneOrder old requests report left
    → (slot : ℕ) (file : Identity) → left.at slot ≡ Some file
    → Contains report.closes.files file → ⊥
