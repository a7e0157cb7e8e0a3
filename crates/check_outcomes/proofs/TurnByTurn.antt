-- Chains stay in their parts, and each order has the results of one that is made in turn.
use Rattle.check_outcomes.proofs.{◌≡◌, ℕ, suc, ◌+◌, ◌<◌, ◌≤◌, List, [], ◌∷◌, length, arith, All, All-nil, All-append, All-weaker, ⊎_elim, FileEntry}
use Rattle.check_outcomes.proofs.{Completed, Operation, Asked, Place, Table, next_member, severs, first_member, IsRequestDone, IsChainDone}
use Rattle.check_outcomes.proofs.{AreChainsDone, accesses_of_chain, either_case, refl, sym, ◌∙◌, IsPermutation-trans, RingState, Reported, runs_of}
use Rattle.check_outcomes.proofs.{ap, accesses_of, IsOneOrder, IsOrderOf, ring_left, table_of, Access, ChainAccess, AreParts, Parts, StaysIn}
use Rattle.check_outcomes.proofs.{unless_refused, cases_eq, All-permutation, ComesTo, Comes, all_come}
use Rattle.check_outcomes.proofs.InTurn.{IsInPart, of_each, IsInTurn, in_turn}

module _ (catalogue : List FileEntry) (table : Table) (of_slot : ℕ → ℕ) (part : ℕ) where
  -- an access reaches slots of the part alone
  abbrev Stays : Access → Type 0
  Stays a = (slot : ℕ) → slot < table.size → ComesTo table.range a slot → of_slot slot ≡ part

  request : (place : Place) (own : List Access) (c : Completed) (operation : Operation) → StaysIn table of_slot part operation
      → IsRequestDone catalogue table.size place operation own c → All Stays own
  request place own c operation stays = unless_refused place (λ l _. All Stays l) own c catalogue table.size operation (λ _. All-nil Stays)
      (λ _ x. All-weaker (Comes table operation) Stays (λ a comes slot few at. stays slot few (comes slot at)) own
      (all_come table catalogue place own c operation x))

  chain : (place : Place) (run : List Asked) (accesses : List Access) (cs : List Completed) → All (λ r. StaysIn table of_slot part r.operation) run
      → IsChainDone catalogue table.size place run accesses cs → All Stays accesses
  chain place [] accesses cs stay x = rw x.0 (All-nil Stays)
  chain place (r ∷ run) accesses cs stay (own, others, c, rest, are, whole, done, on) =
      rw are (All-append Stays own others
      (request place own c r.operation (stay 0 r (omega arith)) done)
      (either_case (severs r c) (λ y. rw y.0 (All-nil Stays))
      (chain (next_member place) run others rest (λ k d lt. stay (suc k) d (omega arith))) on))

module _ (catalogue : List FileEntry) (table : Table) (parts : Parts) where
  -- an access of a chain reaches slots of the chain's part alone
  abbrev Keeps : ℕ → Access → Type 0
  Keeps q a = (slot : ℕ) → slot < table.size → ComesTo table.range a slot → parts.of_slot slot ≡ parts.of_chain q

  each_chain : (submission first : ℕ) (runs : List (List Asked)) (order : List ChainAccess) (completions : List Completed)
      → AreChainsDone catalogue table.size submission first runs order completions → AreParts table parts first runs
      → (q : ℕ) → first ≤ q → q < first + length runs → All (Keeps q) (accesses_of_chain q order)
  each_chain submission first [] order completions done are q low high = absurd (omega arith)
  each_chain submission first (run ∷ runs) order completions done are q low high = ⊎_elim
      (λ same. rw same (chain catalogue table parts.of_slot (parts.of_chain first) (first_member submission first) run _ done.0 are.0 done.3))
      (λ other. each_chain submission (first + 1) runs order done.1 done.4 are.1 q (omega arith) (omega arith)) (cases_eq q first)

  pub all_in_part : (submission : ℕ) (runs : List (List Asked)) (order : List ChainAccess) (completions : List Completed)
      → All (λ x. (1 ≤ x.chain) × (x.chain ≤ length runs)) order → AreChainsDone catalogue table.size submission 1 runs order completions
      → AreParts table parts 1 runs → All (IsInPart parts.of_chain table.size table.range parts.of_slot) order
  all_in_part submission runs order completions within done are =
      of_each Keeps order within (λ q low high. each_chain submission 1 runs order completions done are q low (omega arith))

-- Each order of a submission has the results of one that is made in turn.

-- each chain makes the same accesses
same_done : (catalogue : List FileEntry) (size submission first : ℕ) (runs : List (List Asked)) (order other : List ChainAccess)
    (completions : List Completed) → ((chain : ℕ) → accesses_of_chain chain order ≡ accesses_of_chain chain other)
    → AreChainsDone catalogue size submission first runs order completions → AreChainsDone catalogue size submission first runs other completions
same_done catalogue size submission first [] order other completions same done = done
same_done catalogue size submission first (run ∷ runs) order other completions same done =
    (done.0, done.1, done.2, rw (same first) at done.3, same_done catalogue size submission (first + 1) runs order other done.1 same done.4)

pub record HasOrderInTurn (parts : Parts) (old : RingState) (requests : List Asked) (report : Reported) (left : RingState) : Type 0 where
  pub order : List ChainAccess
  pub is : IsOrderOf order old requests report
  pub after : left ≡ ring_left order old
  pub by : IsInTurn parts.of_chain order

pub order_in_turn : (parts : Parts) (old : RingState) (requests : List Asked) (report : Reported) (left : RingState)
    → AreParts (table_of old) parts 1 (runs_of requests) → IsOneOrder old requests report left → HasOrderInTurn parts old requests report left
order_in_turn parts old requests report left are one =
    let order = one.order in
    let is = one.is in
    let runs = runs_of requests in
    let within = all_in_part old.catalogue (table_of old) parts report.submission runs order report.completions is.chains is.done are in
    let turns = in_turn parts.of_chain old.size old.range parts.of_slot order in
    let leaves = turns.is.leaves old.at _ within (record { permitted = is.permitted; left = refl }) in
    record {
      order = turns.order;
      is = record {
        permitted = leaves.permitted;
        chains = All-permutation (λ x. (1 ≤ x.chain) × (x.chain ≤ length runs)) order turns.order turns.is.all is.chains;
        done = same_done old.catalogue old.size report.submission 1 runs order turns.order report.completions
            (λ chain. ap accesses_of (turns.is.own chain)) is.done;
        closed = record {
          same_files = IsPermutation-trans _ _ _ turns.is.removed_same is.closed.same_files;
          in_order = is.closed.in_order;
        };
        submission = is.submission;
      };
      after = one.after ∙ (λ i. record old {
        at = (sym leaves.left i).at;
        submissions = old.submissions + 1;
      });
      by = turns.by;
    }
