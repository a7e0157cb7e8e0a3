-- The order of a history: its accesses, one after another.
use Rattle.fx_order.proofs.{EachHistoryIsAnOrder, ◌≡◌, ℕ, ◌+◌, List, [], ◌∷◌, length, sym, ap, ◌∙◌, Option, arith, Closed, Table, PermitsAll}
use Rattle.fx_order.proofs.{table_with, table_after, files_removed_in, accesses_of, ChainAccess, Access, ◌≤◌, map, refl, subst, All, Contains}
use Rattle.fx_order.proofs.{IsPermutation, opening_is_start, All-nil, All-append, IsPermutation-trans, Event, Action, State, opening, state_of}
use Rattle.fx_order.proofs.{action_of, closes_in, numbers_for, Asked, runs_of, RingState, ring_of, Looks, table_of, contains_head, contains_tail}
use Rattle.fx_order.proofs.{All-map, length-map, FileEntry, members_of, Chain, ring_left, ring_of_slots, table_of_slots, Slots, IsTrue, false, ◌↔◌}
use Rattle.fx_order.proofs.{false≢true, shown, accesses_by, accesses_in, order_in, by_chain, accesses_of-order_in, permitted_along, shown-opening}
use Rattle.fx_order.proofs.{removed_is_closed}
use Rattle.fx_order.proofs.RequestSteps.{all_explained}

abbrev pub IsWithin : ℕ → ℕ → Type 0
IsWithin chains chain = (1 ≤ chain) × (chain ≤ chains)

order_within : {chains : ℕ} (h : List Event) → ((e : Event) → Contains h e → IsWithin chains e.chain)
    → All (λ x. IsWithin chains x.chain) (order_in h)
order_within {chains} [] each = All-nil (λ x. IsWithin chains x.chain)
order_within {chains} (e ∷ h) each =
    All-append (λ x. IsWithin chains x.chain) (order_in h) (map (by_chain e.chain) (accesses_by e.action))
    (order_within h (λ f has. each f (contains_tail e h f has)))
    (All-map (λ x. IsWithin chains x.chain) (by_chain e.chain) (accesses_by e.action) (λ _ _ _. each e (contains_head e h)))

abbrev table_with_files : Table → (ℕ → Option Closed) → Table
table_with_files table at = record table { at = at }

-- accesses leave the size and the range as they are
pub same_outline : (table : Table) (accesses : List Access) → table_after table accesses ≡ table_with_files table (table_after table accesses).at
same_outline table [] = refl
same_outline table (Looks slot found ∷ accesses) = same_outline table accesses
same_outline table (access ∷ accesses) = same_outline (table_with table access) accesses

-- a ring with another table, and with this number of accepted submissions
abbrev pub ring_after : RingState → ℕ → Table → RingState
ring_after ring submissions table = record ring { size = table.size; range = table.range; at = table.at; submissions = submissions }

pub each_history_is_an_order : EachHistoryIsAnOrder
each_history_is_an_order old new requests report h =
    let numbers : ℕ = numbers_for (length (runs_of requests)) in
    let start : State = opening (state_of old.table) numbers in
    let acts : List Action = map action_of h.history in
    let order : List ChainAccess = order_in h.history in
    let are : accesses_of order ≡ accesses_in acts = accesses_of-order_in h.history in
    let along = permitted_along start acts h.legal.leads.0 in
    let begins : shown start ≡ table_of (ring_of old) = shown-opening (state_of old.table) numbers in
    let outline : shown h.end ≡ table_with_files (table_of (ring_of old)) (table_after (table_of (ring_of old)) (accesses_of order)).at =
    ap shown h.legal.leads.1 ∙ (along.1 ∙ ((λ i. table_after (begins i) (sym are i)) ∙ same_outline (table_of (ring_of old)) (accesses_of order))) in
    record {
      order = order;
      is = record {
        permitted = subst (λ (t : Table). PermitsAll t (accesses_of order)) begins (subst (PermitsAll (shown start)) (sym are) along.0);
        chains = order_within h.history h.chains;
        done = all_explained old.catalogue (state_of old.table).size report.submission 1 (runs_of requests) h.history report.completions h.explained;
        closed = record {
          same_files = IsPermutation-trans (files_removed_in (accesses_of order)) (closes_in acts) report.closes.files
              (subst (λ (l : List Access). IsPermutation (files_removed_in l) (closes_in acts)) (sym are)
              (removed_is_closed h.history (opening_is_start (state_of old.table) numbers) h.legal.leads.0 h.legal.leads.1 h.settled))
              h.closed.same_files;
          in_order = h.closed.in_order;
        };
        submission = h.submission;
      };
      after = h.after ∙ ap (ring_after (ring_of old) (old.submissions + 1)) outline;
    }

-- An order whose parts were looked through, and the ring that it leaves.

pub ring_left_is : (catalogue : List FileEntry) (old new : Slots) (submissions registrations : ℕ) (order : List ChainAccess)
    → table_of_slots new ≡ table_after (table_of_slots old) (accesses_of order)
    → ring_of_slots catalogue new (submissions + 1) registrations ≡ ring_left order (ring_of_slots catalogue old submissions registrations)
ring_left_is catalogue old new submissions registrations order made = grind (arith, same_outline)

-- there are as many chains as runs
pub as_many : (asked : List Asked) (cut : List Chain) (n : ℕ) → n ≡ length cut → map (members_of asked) cut ≡ runs_of asked
    → n ≡ length (runs_of asked)
as_many asked cut n count members = count ∙ (sym (length-map cut (members_of asked)) ∙ ap length members)

-- the result is `false` if there is no such order
pub never : {P : Type 0} → (P → ⊥) → IsTrue false ↔ P
never none = (λ yes. absurd (false≢true yes), λ p. absurd (none p))
