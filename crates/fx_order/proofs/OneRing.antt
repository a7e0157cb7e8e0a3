-- The ring that a report of a submission leads to, and the tables that show a ring.
use Rattle.fx_order.proofs.{NoFileThatStaysIsClosed, EachClosedFileIsKnown, EachReportLeadsToOneRing, ◌≡◌, ℕ, ◌<◌, ◌≤◌, List, [], ◌∷◌, refl, ap, ◌∙◌}
use Rattle.fx_order.proofs.{arith, Option, Some, None, FileEntry, Closed, State, vacant, numbered, ring_with, ring_with_slots, file_at, changed_at}
use Rattle.fx_order.proofs.{identity_of, RingContents, RingState, ring_of, Table, Puts, Clears, Takes, Allocates, PermitsAll, table_after, Access}
use Rattle.fx_order.proofs.{get_or-eq_default, inl, inr, ⊎_elim, ◌+◌, length, sym, subst, All, not_yet, same_from_decides, IsDistinct-IsPermutation}
use Rattle.fx_order.proofs.{apart_from_distinct, get_or_from_slice_get, slice_get_within, IsDistinct, Contains, slice_get, slice_index_or, All-map}
use Rattle.fx_order.proofs.{Contains-permutation, IsPermutation-sym, IsCatalogue, IsAccepted, members_of, chains_of, first_member, Asked, runs_of}
use Rattle.fx_order.proofs.{accepted-chains, members-are-runs, IsRing, Reported, files_removed_in, accesses_of, IsOfNext, IsOrderOf, table_of}
use Rattle.fx_order.proofs.{ChainAccess, cases_lt, false≢true, Decides-like, ring_so, IsApart, alike, removed_is_gone, removes_once, mark_Decides}
use Rattle.fx_order.proofs.Words.{accesses_of_chain}
use Rattle.fx_ring.specs.OpenRings.{table_with_files}
use Rattle.std.specs.Prelude.{option_map}
use Rattle.fx_order.specs.declared.ring_slots.RingSlots.{RingSlots}
use Rattle.fx_order.proofs.Placed.{Has, Removes, contains_removed, left_from, left_or_removed, placed, removed_from, removes_contained}
use Rattle.fx_order.proofs.PlacedNew.{AnyPlace, InLimits, IsOfMembers, OwnOf, ReachesAll, chain_places, has_in_chain, has_of_chain, order_places_once}
use Rattle.fx_order.proofs.PlacedNew.{reaches_all_any, reaches_all_limits, chains_same}

abbrev pub NonePast : ℕ → (ℕ → Option Closed) → Type 0
NonePast size at = (slot : ℕ) → size ≤ slot → at slot ≡ None

-- the files of a ring, under their slots' numbers
abbrev state_with_files : RingState → State
state_with_files ring = record (vacant ring.size) { range = ring.range; at = λ slot. option_map (numbered slot) (ring.at slot) }

abbrev pub ring_with_files : RingState → RingContents
ring_with_files ring = ring_with ring.catalogue (table_with_files (state_with_files ring)) ring.submissions ring.registrations

same_file : (slot : ℕ) (x : Option Closed) → identity_of (option_map (numbered slot) x) ≡ x
same_file slot x = grind arith

pub shows_ring : (ring : RingState) → NonePast ring.size ring.at → ring_of (ring_with_files ring) ≡ ring
shows_ring ring none =
    ring_so (state_with_files ring) (λ slot past. ap (option_map (numbered slot)) (none slot past)) ring.catalogue ring.submissions ring.registrations
    ∙ (λ i. record ring { at = λ slot. same_file slot (ring.at slot) i })

-- no table has a file past its slots, and no accesses bring one there

pub none_past_table : (c : RingContents) → NonePast (ring_of c).size (ring_of c).at
none_past_table c slot past = ap (λ (number : Option ℕ). identity_of (file_at c.table.nodes number)) (get_or-eq_default c.table.slots None past)

none_past_change : {size slot : ℕ} {at : ℕ → Option Closed} (x : Option Closed) → slot < size → NonePast size at
    → NonePast size (changed_at at slot x)
none_past_change {slot} {at} x within none other past = grind arith

pub none_past_accesses : (accesses : List Access) (table : Table) → PermitsAll table accesses → NonePast table.size table.at
    → NonePast table.size (table_after table accesses).at
none_past_accesses [] table may none = none
none_past_accesses (Puts slot file removed ∷ xs) table may none = none_past_accesses xs _ may.1 (none_past_change _ may.0.0 none)
none_past_accesses (Clears slot removed ∷ xs) table may none = none_past_accesses xs _ may.1 (none_past_change _ may.0.0 none)
none_past_accesses (Takes slot removed ∷ xs) table may none = none_past_accesses xs _ may.1 (none_past_change _ may.0.0 none)
none_past_accesses (Allocates slot file ∷ xs) table may none = none_past_accesses xs _ may.1 (none_past_change _ may.0.0.0 none)
none_past_accesses (x ∷ xs) table may none = none_past_accesses xs table may.1 none

pub none_past : (catalogue : List FileEntry) (ring : RingSlots) → NonePast (ring_with_slots catalogue ring).size (ring_with_slots catalogue ring).at
none_past catalogue ring slot past = get_or-eq_default ring.slots.at.items None past

-- One report of a submission leads to one ring, and what it closes is known.

module _ (old : RingState) (requests : List Asked) (report : Reported) (is : IsRing old) where
  abbrev chains : ℕ
  chains = length (runs_of requests)

  module _ (order : List ChainAccess) (o : IsOrderOf order old requests report) where
    abbrev IsOf : (ℕ → ℕ → Type 0) → ℕ → Closed → Type 0
    IsOf B c = IsOfMembers (length old.catalogue) B (first_member report.submission c)

    each : (B : ℕ → ℕ → Type 0) → All (ReachesAll B 1) (runs_of requests) → (c : ℕ) → 1 ≤ c → c ≤ chains
        → OwnOf (IsOf B c) (accesses_of_chain c order)
    each B reach c low high =
        chain_places old.catalogue old.size B report.submission 1 (runs_of requests) order report.completions reach o.done c low (omega arith)

    -- the files that the order places are of one of the chains
    of_chain : (B : ℕ → ℕ → Type 0) → All (ReachesAll B 1) (runs_of requests) → (s : ℕ) (f : Closed) → Has (placed (accesses_of order)) s f
        → (c : ℕ) × (c ≤ chains) × IsOf B c f
    of_chain B reach s f has =
        let r = has_in_chain (length old.catalogue) B report.submission chains order o.chains s f has in
        (r.0, r.2, (each B reach r.0 r.1 r.2).0 s f r.3)

    any : All (ReachesAll AnyPlace 1) (runs_of requests)
    any = λ k d lt. reaches_all_any 1 (slice_index_or (runs_of requests) k d)

    apart : IsApart (table_of old) (placed (accesses_of order))
    apart = record {
      distinct = λ s other f g at too same. is.distinct s other f g at too same;
      unlike = λ s other f g at has same.
          let (c, few, (m, j, low, b, n)) = of_chain AnyPlace any other g has in grind (arith, of_chain, any, not_yet);
      once = order_places_once (length old.catalogue) AnyPlace report.submission chains order o.chains (each AnyPlace any);
    }

    closed_is_removed : (f : Closed) → Contains report.closes.files f → Removes (accesses_of order) f
    closed_is_removed f closed = removes_contained (accesses_of order) f (Contains-permutation report.closes.files (files_removed_in (accesses_of order)) f
        (IsPermutation-sym (files_removed_in (accesses_of order)) report.closes.files o.closed.same_files) closed)

    -- a file that the order leaves isn't closed
    left_stays : (s : ℕ) (f : Closed) → (table_after (table_of old) (accesses_of order)).at s ≡ Some f → Contains report.closes.files f → ⊥
    left_stays s f at closed = removed_is_gone (table_of old) (accesses_of order) f apart o.permitted (closed_is_removed f closed) s f at refl

  -- the files that one order leaves, another one leaves as well
  module _ (catalogue : IsCatalogue old.catalogue) (one other : List ChainAccess) (o : IsOrderOf one old requests report)
      (p : IsOrderOf other old requests report) where
    placed_too : (s : ℕ) (f : Closed) → Has (placed (accesses_of one)) s f → Has (placed (accesses_of other)) s f
    placed_too s f has =
        let r = has_in_chain (length old.catalogue) AnyPlace report.submission chains one o.chains s f has in
        let high = r.2 in
        let same = chains_same old.catalogue catalogue old.size report.submission 1 (runs_of requests) one other report.completions o.done p.done
        r.1 (omega arith) in
        has_of_chain r.0 other s f (subst (λ l. Has l s f) same r.3)

    left_too : (s : ℕ) {f : Closed} → (table_after (table_of old) (accesses_of one)).at s ≡ Some f
        → (table_after (table_of old) (accesses_of other)).at s ≡ Some f
    left_too s {f} at = ⊎_elim (λ left. left)
        (λ gone. absurd (left_stays one o s f at (Contains-permutation (files_removed_in (accesses_of other)) report.closes.files f p.closed.same_files
        (contains_removed (accesses_of other) gone))))
        (left_or_removed (table_of old) (accesses_of other) p.permitted
        (⊎_elim (λ was. inl was) (λ new. inr (placed_too s f new)) (left_from (table_of old) (accesses_of one) s f at)))

same_option : (a b : Option Closed) → ((f : Closed) → a ≡ Some f → b ≡ Some f) → ((f : Closed) → b ≡ Some f → a ≡ Some f) → a ≡ b
same_option a b to back = grind arith

pub each_report_leads_to_one_ring : EachReportLeadsToOneRing
each_report_leads_to_one_ring old requests report left other catalogue is o p =
    o.after ∙ ((λ i. record old {
      at = λ s. same_option ((table_after (table_of old) (accesses_of o.order)).at s) ((table_after (table_of old) (accesses_of p.order)).at s)
          (λ f. left_too old requests report is catalogue o.order p.order o.is p.is s)
          (λ f. left_too old requests report is catalogue p.order o.order p.is o.is s) i;
      submissions = old.submissions + 1;
    }) ∙ sym p.after)

-- no two places of such files have one mark
places_apart : (files : List Closed) → IsDistinct alike files → (i j : ℕ) (one other : Closed) → slice_get files i ≡ Some one
    → slice_get files j ≡ Some other → one.mark ≡ other.mark → i ≡ j
places_apart files distinct i j one other at too same = elim (cases_lt i j) [
  | inl less ↦ absurd (never i j one other at too same less)
  | inr from ↦ elim (cases_lt j i) [ inl less ↦ absurd (never j i other one too at (sym same) less) | inr to ↦ omega arith ]
]
  where
    never : (i j : ℕ) (one other : Closed) → slice_get files i ≡ Some one → slice_get files j ≡ Some other → one.mark ≡ other.mark → i < j → ⊥
    never i j one other at too same less =
        let apart = apart_from_distinct alike files i j one distinct less (slice_get_within files j other too) in
        false≢true (sym apart ∙ ((λ k. alike (get_or_from_slice_get files i one one at k) (get_or_from_slice_get files j other one too k))
        ∙ (mark_Decides one.mark other.mark).1 same))

-- the members of an accepted submission are within their limits
pub in_limits : (requests : List Asked) → IsAccepted requests → All (ReachesAll InLimits 1) (runs_of requests)
in_limits requests accepted =
    subst (All (ReachesAll InLimits 1)) (members-are-runs requests)
    (All-map (ReachesAll InLimits 1) (members_of requests) (chains_of (runs_of requests)) (λ k d lt.
    let run = (accepted-chains requests accepted k d lt).run in
    let few = run.members in
    reaches_all_limits 1 (members_of requests (slice_index_or (chains_of (runs_of requests)) k d)) run.each (omega arith)))

-- the files that an order places are of the next submission
of_next : (old : RingState) {requests : List Asked} (report : Reported) (is : IsRing old) {order : List ChainAccess}
    (o : IsOrderOf order old requests report) → IsAccepted requests → (s : ℕ) {f : Closed} → Has (placed (accesses_of order)) s f
    → IsOfNext old requests f
of_next old {requests} report is {order} o accepted s {f} has =
    let (c, few, (m, j, low, b, n)) = of_chain old requests report is order o InLimits (in_limits requests accepted) s f has in
    record {
      place = record { submission = report.submission; chain = c; member = m };
      entry = j;
      next = o.submission;
      chain = few;
      member = b.0;
      listed = b.1;
      mark = n.mark;
      inside = n.inside;
      untagged = n.untagged;
    }

pub each_closed_file_is_known : EachClosedFileIsKnown
each_closed_file_is_known old requests report left is accepted o =
    let xs : List Access = accesses_of o.order in
    record {
      from = λ file closed.
          let w = removed_from (table_of old) xs file o.is.permitted (closed_is_removed old requests report is o.order o.is file closed) in
          ⊎_elim (λ was. inl (w.slot, w.inside, was)) (λ has. inr (of_next old report is o.is accepted w.slot has)) w.was;
      distinct = places_apart report.closes.files (IsDistinct-IsPermutation alike
          (λ x y. same_from_decides _ _ (mark_Decides x.mark y.mark) (Decides-like _ (λ e. sym e) (λ e. sym e) (mark_Decides y.mark x.mark)))
          (files_removed_in xs) report.closes.files o.is.closed.same_files
          (removes_once (table_of old) xs (apart old requests report is o.order o.is) o.is.permitted));
    }

pub no_file_that_stays_is_closed : NoFileThatStaysIsClosed
no_file_that_stays_is_closed old requests report left is o slot file at = grind (arith, left_stays)
