use Rattle.fx_order.proofs.{rules, EachOrderIsAHistory, ◌≡◌, ℕ, ◌+◌, ◌<◌, ◌≤◌, ◌==◌, true, List, [], ◌∷◌, ◌++◌, map, filter, cond, refl, sym, ap}
use Rattle.fx_order.proofs.{subst, ◌∙◌, append_assoc, All-contains, arith, All, Contains, append-nil, map-append, All-head, All-tail}
use Rattle.fx_order.proofs.{Contains-append_cases, filter-append, Event, Action, State, IsSettled, action_of, part_of_chain, AllowsAll, Leads}
use Rattle.fx_order.proofs.{AllReleaseTheirOwn, state_after, closes_in, by_equality, Table, PermitsAll, accesses_of, files_removed_in, table_after}
use Rattle.fx_order.proofs.{Access, ChainAccess, leads_then, closes_in-then, ⊎_elim, All-map, ◌*◌, either_case, length, length-append, sum_by}
use Rattle.fx_order.proofs.{sum_by-cons, FileEntry, IsAccepted, members_of, Completed, next_member, severs, first_member, Asked, runs_of, Place}
use Rattle.fx_order.proofs.{IsChainDone, AreChainsDone, chains_of, installs_of, all_installs, accepted-chains, members-are-runs, lt-ltb, le-ltb}
use Rattle.fx_order.proofs.{Closed, opening, state_of, numbers_for, RingContents, RingState, HasClosed, ring_of, IsOneHistory, Reported, IsOneOrder}
use Rattle.fx_order.proofs.{table_of, sum_by-le, of_all, of_author, shown, shown-opening, chain_at}
use Rattle.fx_order.proofs.Words.{accesses_of_chain}
use Rattle.fx_order.proofs.RequestSteps.{AllDo, Done, by, done, installs, all_chains_explained}
use Rattle.fx_order.proofs.Ordered.{IsWithin, ring_after, same_outline}
use Rattle.fx_ring.proofs.Parts.{few_by_key}
use Rattle.fx_order.proofs.Placed.{placed, placed-append, placed_by}
use Rattle.fx_order.proofs.RequestCases.{few_placed}
use Rattle.fx_order.proofs.OneRing.{NonePast, none_past_accesses, none_past_table, ring_with_files, shows_ring}

-- The history of an order: its accesses, each done at once.

-- a legal history of the order's accesses, from one settled state to another
pub record Made (chains : ℕ) (st : State) (order : List ChainAccess) : Type 0 where
  pub history : List Event
  pub allowed : AllowsAll st (map action_of history)
  pub releases : (before : List Event) → AllReleaseTheirOwn before → AllReleaseTheirOwn (history ++ before)
  pub shows : shown (state_after st (map action_of history)) ≡ table_after (shown st) (accesses_of order)
  pub settled : IsSettled (state_after st (map action_of history))
  pub authors : (e : Event) → Contains history e → IsWithin chains e.chain
  pub parts : (chain : ℕ) → AllDo (accesses_of_chain chain order) (map action_of (part_of_chain chain history))
  pub closes : closes_in (map action_of history) ≡ files_removed_in (accesses_of order)

module _ (chains : ℕ) (st : State) (number : ℕ) (x : ChainAccess) (order : List ChainAccess) (within : IsWithin chains x.chain)
    (one : Done st number x.access) (rest : Made chains (state_after st one.own) order) where
  abbrev mine : List Event
  mine = map (by x.chain) one.own

  whole : map action_of (rest.history ++ mine) ≡ map action_of rest.history ++ one.own
  whole = map-append action_of rest.history mine ∙ (λ i. map action_of rest.history ++ of_all (by x.chain) action_of (λ _. refl) one.own i)

  abbrev theirs : List Action
  theirs = map action_of rest.history

  leads : Leads st (theirs ++ one.own) (state_after (state_after st one.own) theirs)
  leads = leads_then st (state_after st one.own) (state_after (state_after st one.own) theirs) one.own theirs (one.allowed, refl) (rest.allowed, refl)

  end : state_after (state_after st one.own) theirs ≡ state_after st (map action_of (rest.history ++ mine))
  end = leads.1 ∙ ap (state_after st) (sym whole)

  part_does : (chain : ℕ) → AllDo (accesses_of_chain chain (x ∷ order)) (map action_of (part_of_chain chain (rest.history ++ mine)))
  part_does chain =
      let part : List Action = map action_of (part_of_chain chain rest.history) in
      let own = of_author (by x.chain) action_of (λ e. e.chain == chain) (x.chain == chain) (λ _. refl) (λ _. refl) one.own in
      let all : map action_of (part_of_chain chain (rest.history ++ mine)) ≡ part ++ cond (x.chain == chain) one.own [] =
      ap (map action_of) (filter-append (λ e. e.chain == chain) rest.history mine)
      ∙ (map-append action_of (part_of_chain chain rest.history) (part_of_chain chain mine) ∙ (λ i. part ++ own i)) in
      let others : List ChainAccess = filter (λ y. y.chain == chain) order in
      search (rules, by_equality)

  one_more : Made chains st (x ∷ order)
  one_more = record {
    history = rest.history ++ mine;
    allowed = subst (AllowsAll st) (sym whole) leads.0;
    releases = λ before all. subst AllReleaseTheirOwn (sym (append_assoc rest.history mine before))
        (rest.releases (mine ++ before) (one.releases x.chain before all));
    shows = ap shown (sym end) ∙ (rest.shows ∙ ap (λ (t : Table). table_after t (accesses_of order)) one.shows);
    settled = subst IsSettled end rest.settled;
    authors = λ e has. ⊎_elim (λ theirs. rest.authors e theirs)
        (All-contains (λ e. IsWithin chains e.chain) mine e (All-map (λ e. IsWithin chains e.chain) (by x.chain) one.own (λ _ _ _. within)))
        (Contains-append_cases rest.history mine e has);
    parts = part_does;
    closes = ap closes_in whole ∙ (closes_in-then one.own (map action_of rest.history) ∙ (λ i. one.closes i ++ rest.closes i));
  }

-- each order that the table permits is a history, where enough numbers are fresh
pub made : (chains : ℕ) (order : List ChainAccess) (st : State) (number : ℕ) → IsSettled st
    → ((n : ℕ) → number ≤ n → n < number + length (placed (accesses_of order)) → st.fresh n ≡ true)
    → All (λ x. IsWithin chains x.chain) order → PermitsAll (shown st) (accesses_of order) → Made chains st order
made chains [] st number settled fresh within may = grind arith
made chains (x ∷ order) st number settled fresh within may =
    let both = length-append (placed_by x.access) (placed (accesses_of order)) in
    let one : Done st number x.access = done st number settled x.access (λ some. fresh number (omega arith) (omega arith)) may.0 in
    one_more chains st number x order (All-head (λ y. IsWithin chains y.chain) x order within) one
    (made chains order (state_after st one.own) (number + installs x.access) one.settled
    (λ n low high. one.fresh n low ∙ fresh n (omega arith) (omega arith))
    (All-tail (λ y. IsWithin chains y.chain) x order within)
    (subst (λ (t : Table). PermitsAll t (accesses_of order)) (sym one.shows) may.1))

-- An order of a submission without a fault installs no more files than its chains have numbers.

module _ (catalogue : List FileEntry) (size : ℕ) where
  chain_few : (place : Place) (requests : List Asked) (accesses : List Access) (cs : List Completed)
      → IsChainDone catalogue size place requests accesses cs → length (placed accesses) ≤ all_installs requests
  chain_few place [] accesses cs x = rw x.0 (omega arith)
  chain_few place (request ∷ requests) accesses cs x =
      let one = few_placed catalogue size place request.operation x.0 x.2 x.6 in
      let more = either_case {R = length (placed x.1) ≤ all_installs requests} (severs request x.2) (λ y. rw y.0 (omega arith))
      (chain_few (next_member place) requests x.1 x.3) x.7 in
      let both = ap length (placed-append x.0 x.1) ∙ length-append (placed x.0) (placed x.1) in
      let all = sum_by-cons (λ (r : Asked). installs_of r.operation) request requests in
      rw x.4 (omega arith)

-- an order's, access by access
order_installs : (order : List ChainAccess) → sum_by (λ x. installs x.access) order ≡ length (placed (accesses_of order))
order_installs [] = refl
order_installs (x ∷ order) = let rest = order_installs order in sum_by-cons (λ (y : ChainAccess). installs y.access) x order
    ∙ omega (arith, length-append (placed_by x.access) (placed (accesses_of order)))

-- no chain of a submission without a fault installs more files than it has numbers
few_a_chain : (requests : List Asked) → IsAccepted requests → All (λ run. all_installs run ≤ 64) (runs_of requests)
few_a_chain requests accepted =
    subst (All (λ (run : List Asked). all_installs run ≤ 64)) (members-are-runs requests)
    (All-map (λ (run : List Asked). all_installs run ≤ 64) (members_of requests) (chains_of (runs_of requests))
    (λ k d lt. (accepted-chains requests accepted k d lt).run.installs))

pub few_installs : (catalogue : List FileEntry) (size submission : ℕ) (requests : List Asked) (order : List ChainAccess) (cs : List Completed)
    → IsAccepted requests → All (λ x. (1 ≤ x.chain) × (x.chain ≤ length (runs_of requests))) order
    → AreChainsDone catalogue size submission 1 (runs_of requests) order cs → length (placed (accesses_of order)) ≤ 64 * length (runs_of requests)
few_installs catalogue size submission requests order cs accepted within chains =
    let few = few_by_key (λ x. x.chain) (λ x. installs x.access) (λ _. 64) [] 1 (runs_of requests) order
    (λ k d lt. let low = (within k d lt).0 in let high = (within k d lt).1 in (omega arith, omega arith)) (λ i lt.
    let c : ℕ = 1 + i in
    let at = chain_at catalogue size submission 1 (runs_of requests) order cs chains (λ run. all_installs run ≤ 64)
    (few_a_chain requests accepted) c (omega arith) (omega arith) in
    let own = chain_few catalogue size (first_member submission c) at.run (accesses_of_chain c order) at.own at.done in
    let most = at.holds in
    omega (arith, order_installs (filter (λ x. x.chain == c) order))) in
    let most = sum_by-le (λ (_ : List Asked). 64) 64 (runs_of requests) (λ k d lt. omega arith) in
    omega (arith, few, most, order_installs order)

-- The history of an order's accesses leads to what the order leads to.

history_of_order : {old new : RingContents} {requests : List Asked} {report : Reported} → (ring_of old).size ≤ 256
    → IsAccepted requests → IsOneOrder (ring_of old) requests report (ring_of new) → IsOneHistory old requests report new
history_of_order {old} {requests} {report} few accepted o =
    let st : State = state_of old.table in
    let chains : ℕ = length (runs_of requests) in
    let start : State = opening st (numbers_for chains) in
    let begins : shown start ≡ table_of (ring_of old) = shown-opening st (numbers_for chains) in
    let installs = few_installs old.catalogue st.size report.submission requests o.order report.completions accepted o.is.chains o.is.done in
    let m : Made chains start o.order =
    made chains o.order start 256 (record { unheld = λ n. refl; closed = λ n. refl })
    (λ n low high. rw (le-ltb n st.size (omega arith), lt-ltb n (numbers_for chains) (omega arith)) refl)
    o.is.chains (subst (λ (t : Table). PermitsAll t (accesses_of o.order)) (sym begins) o.is.permitted) in
    let acts : List Action = map action_of m.history in
    let table : shown (state_after start acts) ≡ table_after (table_of (ring_of old)) (accesses_of o.order) =
    m.shows ∙ (λ i. table_after (begins i) (accesses_of o.order)) in
    let outline = same_outline (table_of (ring_of old)) (accesses_of o.order) in
    record {
      history = m.history;
      end = state_after start acts;
      legal = record { leads = (m.allowed, refl); releases = subst AllReleaseTheirOwn (append-nil m.history) (m.releases [] tt) };
      settled = m.settled;
      chains = m.authors;
      explained = grind (arith, all_chains_explained);
      closed = subst (λ (l : List Closed). HasClosed l report.closes) (sym m.closes) o.is.closed;
      submission = o.is.submission;
      after = o.after ∙ sym (ap (ring_after (ring_of old) (old.submissions + 1)) (table ∙ outline));
    }

-- and there is a table that has the files which the order leaves
pub each_order_is_a_history : EachOrderIsAHistory
each_order_is_a_history old requests report left few accepted o =
    let same = shows_ring left (subst (λ (r : RingState). NonePast r.size r.at) (sym o.after)
    (none_past_accesses (accesses_of o.order) (table_of (ring_of old)) o.is.permitted (none_past_table old))) in
    (ring_with_files left, same, history_of_order few accepted (subst (IsOneOrder (ring_of old) requests report) (sym same) o))
