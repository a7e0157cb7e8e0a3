-- Submissions without a fault, and the first fault of the others.
use Rattle.fx_chain.proofs.Words.{common_steps, ◌≡◌, ℕ, ◌+◌, ◌*◌, ◌≤◌, List, [], ◌∷◌, ◌++◌, length, take, drop, refl, sym, ap, ◌∙◌, All, subst, arith}
use Rattle.fx_chain.proofs.Words.{Option, Some, None, false, sum_by-cons, append-nil, append_assoc, All-head, All-tail, IsAccepted, slice_index_or, ℤ}
use Rattle.fx_chain.proofs.Words.{suc, Operation, IsWithinLimits, Asked, runs_of, weight_of, take-append-drop, all_weights, fault_of_next, or_later}
use Rattle.fx_chain.proofs.Words.{first_fault, inl, is_long_update, CutFault, MOST_MEMBERS, MAX_CHAINS, map, flat_map, take_at, drop_at, All-nil, ◌<◌}
use Rattle.fx_chain.proofs.Words.{All-cons, All-take, All-drop, IsShortRun, IsChain, members_of, chains_from, chains_of, but_last, all_installs, ◌==◌}
use Rattle.fx_chain.proofs.Words.{CHAIN_NUMBERS, ◌||◌, nat_lt, list_any, ◌⊎◌, inr, HasNoFault, IsFirstFault, fault_of, drop-cons, slot_refusal}
use Rattle.fx_chain.proofs.Words.{list_refusal, length-append}
use Rattle.fx_chain.specs.declared.fault.CutKind.{CutKind}
use Rattle.fx_chain.specs.declared.request.TheConstants.{LONGEST_UPDATE}
use Rattle.fx_chain.proofs.Counted.{AreCounts, IsFine, counted_none, counted_step, fault_of_next-counted, fine, all_installs-push}
use Rattle.fx_chain.proofs.Runs.{IsLinked, IsOver, HasMembers, are_runs, IsClosed, IsClosed-append, but_last-last, open_run-closed}
use Rattle.fx_chain.specs.Refusal.{is_bad_entry}
use Rattle.std.specs.Option.{MatchOption}

or_later-none : (at : ℕ) (k : Option CutKind) (later : Option CutFault) → or_later at k later ≡ None → (k ≡ None) × (later ≡ None)
or_later-none at k later none = grind arith

-- some requests without a fault, with their numbers
pub record Counts (front : List Asked) : Type 0 where
  pub chains : ℕ
  pub members : ℕ
  pub installs : ℕ
  pub is : AreCounts front chains members installs

-- the counts before a request without a fault
pub record Passes (front : List Asked) (r : Asked) : Type 0 where
  pub counts : Counts front
  pub is_fine : IsFine counts.chains counts.members counts.installs r

counts_none : Counts []
counts_none = record { chains = 0; members = 0; installs = 0; is = counted_none }

counts_more : {front : List Asked} (r : Asked) → Counts front → fault_of_next front r ≡ None → Counts (front ++ r ∷ [])
counts_more r counts none = record {
  chains = _;
  members = _;
  installs = _;
  is = counted_step r counts.is (sym (fault_of_next-counted r counts.is) ∙ none);
}

-- if no request has a fault, those before are counted, and those after them have none
counts_all : (front more behind : List Asked) → Counts front → first_fault front (more ++ behind) ≡ None
    → Counts (front ++ more) × (first_fault (front ++ more) behind ≡ None)
counts_all front [] behind counts none = rw append-nil (counts, none)
counts_all front (x ∷ more) behind counts none = grind (arith, or_later-none, append_assoc, counts_more, counts_all (front ++ x ∷ []) more behind)

counts_of : (requests : List Asked) → IsAccepted requests → Counts requests
counts_of requests accepted = (counts_all [] requests [] counts_none (rw append-nil accepted)).0

-- each request is without a fault after those before it
pub passes_at : (front : List Asked) (r : Asked) (behind : List Asked) → IsAccepted (front ++ r ∷ behind) → Passes front r
passes_at front r behind accepted =
    let (counts, none) = counts_all [] front (r ∷ behind) counts_none accepted in
    record {
      counts = counts;
      is_fine = fine counts.chains counts.members counts.installs r (sym (fault_of_next-counted r counts.is) ∙ (or_later-none _ _ _ none).0);
    }

-- there are no more runs than a submission may have chains
pub accepted-runs : (requests : List Asked) → IsAccepted requests → length (runs_of requests) ≤ MAX_CHAINS
accepted-runs requests accepted = let is = (counts_of requests accepted).is in omega arith

-- and each has no more requests than a chain may have members
pub accepted-length : (requests : List Asked) → IsAccepted requests → length requests ≤ MOST_MEMBERS * MAX_CHAINS
accepted-length requests accepted = let is = (counts_of requests accepted).is in omega arith

-- no request passes a limit of its own
pub accepted-each : (requests : List Asked) → IsAccepted requests → All IsWithinLimits requests
accepted-each requests accepted k d inside =
    let whole : requests ≡ take k requests ++ slice_index_or requests k d ∷ drop (suc k) requests =
    sym (take-append-drop k requests) ∙ ap (λ rest. take k requests ++ rest) (drop-cons requests k d inside) in grind (arith, passes_at)

-- a request within its limits closes no more files than an update may have entries
weight-small : (o : Operation) → is_long_update o ≡ false → weight_of o ≤ LONGEST_UPDATE
weight-small o short = grind arith

pub all_weights-small : (requests : List Asked) → All IsWithinLimits requests → all_weights requests ≤ LONGEST_UPDATE * length requests
all_weights-small [] within = omega arith
all_weights-small (r ∷ rs) within =
    let one = weight-small r.operation (All-head IsWithinLimits r rs within).update in
    grind (arith, all_weights-small rs (All-tail IsWithinLimits r rs within), common_steps, All-tail IsWithinLimits r rs within)

-- The chains of a submission without a fault: their places and limits.

-- the members of a chain are its run
members_of-run : {requests : List Asked} (before run later : List Asked) → requests ≡ before ++ (run ++ later)
    → members_of requests (record { first = length before; len = length run }) ≡ run
members_of-run before run later is = grind (arith, drop_at, take_at)

-- the limits of a run
record Fits (run : List Asked) : Type 0 where
  pub members : length run ≤ MOST_MEMBERS
  pub installs : all_installs run ≤ CHAIN_NUMBERS

module _ (requests : List Asked) (accepted : IsAccepted requests) where
  -- a run ends with a request without a fault, so it is short
  fits : (before run later : List Asked) → requests ≡ before ++ (run ++ later) → IsClosed before → HasMembers run → IsLinked run → Fits run
  fits before [] later is closed some linked = absurd (omega arith)
  fits before (x ∷ xs) later is closed some linked =
      let (last, split) = but_last-last x xs in
      let front = but_last (x ∷ xs) in
      let whole : requests ≡ (before ++ front) ++ last ∷ later = is ∙ ap (λ ys. before ++ (ys ++ later)) split
      ∙ ap (λ ys. before ++ ys) (append_assoc front (last ∷ []) later) ∙ sym (append_assoc before front (last ∷ later)) in
      let p = passes_at (before ++ front) last later (subst IsAccepted whole accepted) in
      let open_is = open_run-closed before front closed linked in
      let members_is = p.counts.is.members_is ∙ ap length open_is in
      let installs_is = p.counts.is.installs_is ∙ ap all_installs open_is in
      let count = length-append front (last ∷ []) in
      let installs = all_installs-push front last in
      subst Fits (sym split) (record { members = omega arith; installs = omega arith })

  chain_of_run : (before run later : List Asked) → requests ≡ before ++ (run ++ later) → IsClosed before → HasMembers run → IsLinked run
      → IsChain requests (record { first = length before; len = length run })
  chain_of_run before run later is closed some linked =
      let f = fits before run later is closed some linked in
      let run_is = members_of-run before run later is in
      let total = ap length is ∙ length-append before (run ++ later) ∙ ap (λ n. length before + n) (length-append run later) in
      record {
        inside = omega arith;
        not_empty = some;
        members = f.members;
        run = subst IsShortRun (sym run_is) (record {
          not_empty = some;
          members = f.members;
          installs = f.installs;
          each = subst (All IsWithinLimits) run_is (All-take IsWithinLimits (length run) (drop (length before) requests)
              (All-drop IsWithinLimits (length before) requests (accepted-each requests accepted)));
        });
      }

  -- the same for all runs after some requests
  all_chains : (before : List Asked) (runs : List (List Asked)) → requests ≡ before ++ flat_map (λ run. run) runs → IsClosed before
      → All HasMembers runs → All IsLinked runs → All IsOver (but_last runs) → All (IsChain requests) (chains_from (length before) runs)
  all_chains before [] is closed some linked over = All-nil (IsChain requests)
  all_chains before (run ∷ []) is closed some linked over = grind (arith, chain_of_run, All-head)
  all_chains before (run ∷ next ∷ runs) is closed some linked over =
      let later = flat_map (λ y. y) (next ∷ runs) in
      All-cons (IsChain requests) (record { first = length before; len = length run }) (chains_from (length before + length run) (next ∷ runs))
      (chain_of_run before run later is closed (All-head HasMembers run (next ∷ runs) some) (All-head IsLinked run (next ∷ runs) linked))
      (subst (λ (n : ℕ). All (IsChain requests) (chains_from n (next ∷ runs))) (length-append before run)
      (all_chains (before ++ run) (next ∷ runs) (is ∙ sym (append_assoc before run later))
      (IsClosed-append before run (All-head IsOver run (but_last (next ∷ runs)) over)) (All-tail HasMembers run (next ∷ runs) some)
      (All-tail IsLinked run (next ∷ runs) linked) (All-tail IsOver run (but_last (next ∷ runs)) over)))

-- each chain of a submission without a fault is in the submission and short
pub accepted-chains : (requests : List Asked) → IsAccepted requests → All (IsChain requests) (chains_of (runs_of requests))
accepted-chains requests accepted =
    let are = are_runs requests in
    all_chains requests accepted [] (runs_of requests) (sym are.whole) (inl refl) are.not_empty are.linked are.over

-- the members of the chains are the runs
map-members_of : (requests before : List Asked) (runs : List (List Asked)) → requests ≡ before ++ flat_map (λ run. run) runs
    → map (members_of requests) (chains_from (length before) runs) ≡ runs
map-members_of requests before [] is = refl
map-members_of requests before (run ∷ runs) is =
    let later = flat_map (λ y. y) runs in
    grind (arith, map-members_of requests (before ++ run) runs (is ∙ sym (append_assoc before run later)), common_steps, is, members_of-run)

pub members-are-runs : (requests : List Asked) → map (members_of requests) (chains_of (runs_of requests)) ≡ runs_of requests
members-are-runs requests = map-members_of requests [] (runs_of requests) (sym (are_runs requests).whole)

-- The properties of requests that aren't refused.

-- a slot that an open fills or a close empties
pub inside : (size slot : ℕ) → slot_refusal size slot ≡ None → slot < size
inside size slot none = grind arith

-- the list of an update
pub record IsApplied (entries size off : ℕ) (list : List ℤ) : Type 0 where
  pub tested : (length list == 0 || nat_lt size (off + length list)) ≡ false
  pub fits : off + length list ≤ size
  pub good : list_any (is_bad_entry entries) list ≡ false

pub applied : (entries size off : ℕ) (list : List ℤ) → list_refusal entries size off list ≡ None → IsApplied entries size off list
applied entries size off list none = grind arith

-- The fault of a submission is that of its first request with a fault.

-- a request of a list with one more request at its end is that one, or one of the list
last_or_before : (front more behind : List Asked) (x r : Asked) → front ++ x ∷ [] ≡ more ++ r ∷ behind
    → ((more ≡ front) × (r ≡ x)) ⊎ ((rest : List Asked) × (front ≡ more ++ r ∷ rest))
last_or_before [] [] behind x r is = inl (refl, cc)
last_or_before [] (y ∷ more) behind x r is = absurd (omega (arith, ap length is, length-append more (r ∷ behind)))
last_or_before (y ∷ front) [] behind x r is = inr (front, cc)
last_or_before (y ∷ front) (z ∷ more) behind x r is = grind (arith, last_or_before front more behind x r)

none_more : (front : List Asked) (x : Asked) → HasNoFault front → fault_of_next front x ≡ None → HasNoFault (front ++ x ∷ [])
none_more front x none here more r behind is = grind (arith, last_or_before)

first_behind : (front list : List Asked) → HasNoFault front
    → MatchOption (first_fault front list) (HasNoFault (front ++ list)) (IsFirstFault (front ++ list))
first_behind front [] none = subst HasNoFault (sym (append-nil front)) none
first_behind front (x ∷ list) none =
    elim (fault_of_next front x) as (λ k. fault_of_next front x ≡ k → MatchOption (or_later (length front + 1) k (first_fault (front ++ x ∷ []) list))
    (HasNoFault (front ++ x ∷ list)) (IsFirstFault (front ++ x ∷ list))) [
      | None ↦ λ here. rw (append_assoc front (x ∷ []) list) at (first_behind (front ++ x ∷ []) list (none_more front x none here))
      | Some kind ↦ λ found. grind arith
    ] refl

pub the_first_fault : (requests : List Asked) → MatchOption (fault_of requests) (HasNoFault requests) (IsFirstFault requests)
the_first_fault requests = first_behind [] requests (λ front r behind is. absurd (omega (arith, ap length is, length-append front (r ∷ behind))))
