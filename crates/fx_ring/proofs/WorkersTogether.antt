-- The work of a submission's workers, taken together.
use Rattle.fx_ring.proofs.Words.{◌≡◌, ℕ, ◌+◌, ◌-◌, ◌<◌, ◌≤◌, ◌==◌, true, List, [], map, flat_map, length, All, sum_by, count_by, slice_index_or, refl}
use Rattle.fx_ring.proofs.Words.{closed_by, filter, filter-append, sym, ap, subst, ◌∙◌, arith, eqb, IsNonDecreasingBy, All-contains, FileEntry, Event}
use Rattle.fx_ring.proofs.Words.{IsPermutation-trans, length_permutation, IsInOrderOfMark, CloseListView, Closed, Contents, action_of, part_of_chain}
use Rattle.fx_ring.proofs.Words.{ClosesTable, times_drawn, Opening, size_of, state_at, PassView, IsOfDrawnChains, some_times, part_of_drawn, sum_map}
use Rattle.fx_ring.proofs.Words.{Completed, Explains, first_member, Asked, IsShortRun, runs_of, all_weights, ring_with, IsOneHistory, WorkerState}
use Rattle.fx_ring.proofs.Words.{HasWorked, run_of_chain, completions_of_chain, Contains, IsPermutation, contains_map, contains_mapped, each_all}
use Rattle.fx_ring.proofs.Words.{range_with_len, flat_map-map, false, start_is, in_part}
use Rattle.fx_ring.proofs.Parts.{closes_of, closes_by_key, closes_sum, number_within, one_part, all_parts, made_of_parts, same_parts, few_by_key}
use Rattle.fx_ring.proofs.Parts.{none_kept}
use Rattle.fx_ring.proofs.CompletionPlaces.{place_key, drawn_inside, one_of_each_request, in_order_explained}
use Rattle.fx_ring.proofs.Rings.{ring_as}

abbrev pub pass_of : WorkerState → PassView
pass_of w = w.pass

abbrev pub number_of : WorkerState → ℕ
number_of w = w.pass.number

abbrev pub completed_by : WorkerState → List Completed
completed_by w = w.completions

abbrev pub closed_by_worker : WorkerState → List Closed
closed_by_worker w = w.closes.files

-- a worker that did not draw a chain has none of its completions
none_of_chain : (c : ℕ) (drawn : List ℕ) (xs : List Completed) → All (λ x. Contains drawn x.place.chain) xs
    → count_by (λ d. eqb d c) drawn ≡ 0 → completions_of_chain c xs ≡ []
none_of_chain c drawn xs own zero = none_kept (λ x. x.place.chain) c xs
    (λ k d l same. let some = some_times c drawn (subst (Contains drawn) same (own k d l)) in absurd (omega arith))

-- the workers of a submission have played all of its chains, and their passes have come back
pub record HavePlayed (catalogue : List FileEntry) (submission : ℕ) (runs : List (List Asked)) (o : Opening) (crew : List WorkerState)
    (left : Contents) : Type 0 where
  pub worked : All (HasWorked catalogue (size_of o) submission runs) crew
  pub told : All (λ w. w.pass.no_chains_left ≡ true) crew
  pub chains : o.chains ≡ length runs
  pub ends : o.lasts ≡ false
  pub short : All IsShortRun runs
  pub numbers : map number_of crew ≡ range_with_len 1 o.passes
  pub closing : ClosesTable o (map pass_of crew) left

module _ {catalogue : List FileEntry} {submission : ℕ} {runs : List (List Asked)} {o : Opening} {crew : List WorkerState}
    {left : Contents} (played : HavePlayed catalogue submission runs o crew left) where
  abbrev passes : List PassView
  passes = map pass_of crew

  abbrev closing : ClosesTable o passes left
  closing = played.closing

  abbrev pub joined : List Completed
  joined = flat_map completed_by crew

  worker_of : {v : PassView} → Contains passes v → (w : WorkerState) × Contains crew w × (v ≡ w.pass)
  worker_of {v} h = contains_map pass_of crew v h

  works : (w : WorkerState) → Contains crew w → HasWorked catalogue (size_of o) submission runs w
  works w h = All-contains (HasWorked catalogue (size_of o) submission runs) crew w played.worked h

  -- the author of an event is a worker, among whose own events it is
  author_of : {e : Event} → Contains closing.history e → (w : WorkerState) × Contains crew w × (e.pass ≡ w.pass.number) × Contains w.pass.own e
  author_of {e} h =
      let a = closing.authors e h in
      let w = worker_of a.1 in
      let number : e.pass ≡ w.0.pass.number = a.2 ∙ ap (λ (v : PassView). v.number) w.2 in
      let mine = in_part w.0.pass.number closing.history e h number in
      (w.0, w.1, number, subst (λ (l : List Event). Contains l e) (closing.own w.0.pass (contains_mapped pass_of crew w.0 w.1)) mine)

  pub events_inside : (e : Event) → Contains closing.history e → (1 ≤ e.chain) × (e.chain ≤ length runs)
  events_inside e h = let a = author_of h in drawn_inside (works a.0 a.1) ((works a.0 a.1).own e a.3)

  -- each chain was drawn by a worker, and by no other one
  drawer : (c : ℕ) → 1 ≤ c → c ≤ length runs → (w : WorkerState) × Contains crew w × Contains w.pass.drawn c
  drawer c low high =
      let told : (v : PassView) → Contains passes v → v.no_chains_left ≡ true = λ v h.
      let w = worker_of h in grind (arith, worker_of, All-contains) in
      let given = closing.all_drawn told c (omega arith) (omega arith) in
      let w = worker_of given.1 in
      (w.0, w.1, subst (λ (v : PassView). Contains v.drawn c) w.2 given.2)

  once : (c : ℕ) → sum_by (λ w. times_drawn c w.pass) crew ≤ 1
  once c = omega (arith, sum_map (times_drawn c) pass_of crew, closing.drawn_once c)

  part_is : {c : ℕ} {w : WorkerState} → Contains crew w → Contains w.pass.drawn c
      → completions_of_chain c joined ≡ completions_of_chain c w.completions
  part_is {c} {w} h drew =
      made_of_parts completed_by (filter (λ x. x.place.chain == c)) refl (filter-append (λ x. x.place.chain == c)) crew
      ∙ one_part (λ w. completions_of_chain c w.completions) crew (once c) h (some_times c w.pass.drawn drew)
      (λ v i zero. none_of_chain c v.pass.drawn v.completions (works v i).completed zero)

  history_is : (c : ℕ) (w : WorkerState) → Contains crew w → Contains w.pass.drawn c → part_of_chain c closing.history ≡ part_of_chain c w.pass.own
  history_is c w h drew = part_of_drawn o passes left c w.pass closing
      (λ v i. let u = worker_of i in subst IsOfDrawnChains (sym u.2) (works u.0 u.1).own) (contains_mapped pass_of crew w h) drew

  abbrev pub ExplainsChain : ℕ → List Event → List Completed → Type 0
  ExplainsChain c h completions = Explains catalogue (size_of o) (first_member submission c) (run_of_chain runs c) (map action_of h) completions

  pub explained : (c : ℕ) → 1 ≤ c → c ≤ length runs → ExplainsChain c (part_of_chain c closing.history) (completions_of_chain c joined)
  explained c low high = grind (arith, drawer c low high, history_is, part_is, works)

  pub inside : All (λ c. (1 ≤ c.place.chain) × (c.place.chain ≤ length runs)) joined
  inside = all_parts completed_by (λ c. (1 ≤ c.place.chain) × (c.place.chain ≤ length runs)) crew
      (λ w h k d l. drawn_inside (works w h) ((works w h).completed k d l))

  -- there is a completion for each request
  pub one_of_each : length joined ≡ sum_by (λ run. length run) runs
  one_of_each = one_of_each_request catalogue (size_of o) submission closing.history joined runs played.short inside explained

  -- the files that the workers closed are those of the history
  pub closes_joined : IsPermutation (closes_of closing.history) (flat_map closed_by_worker crew)
  closes_joined =
      let part : ℕ → List Closed = λ k. closes_of (filter (λ e. e.pass == k) closing.history) in
      let all = each_all (λ e. (1 ≤ e.pass) × (e.pass < 1 + o.passes)) closing.history (λ e h.
      let a = author_of h in
      let mine : Contains (range_with_len 1 o.passes) a.0.pass.number =
      subst (λ (l : List ℕ). Contains l a.0.pass.number) played.numbers (contains_mapped number_of crew a.0 a.1) in
      let is = number_within o.passes mine in
      (omega (arith, a.2, is.0), omega (arith, a.2, is.1))) in
      let of_crew : flat_map part (range_with_len 1 o.passes) ≡ flat_map closed_by_worker crew =
      ap (flat_map part) (sym played.numbers) ∙ flat_map-map part number_of crew ∙ same_parts crew
      (λ w h. ap closes_of (closing.own w.pass (contains_mapped pass_of crew w h)) ∙ sym (works w h).closed) in
      subst (IsPermutation (closes_of closing.history)) of_crew (closes_by_key (λ e. e.pass) 1 o.passes closing.history all)

  -- and no more than the requests weigh
  pub closes_weigh : length (flat_map closed_by_worker crew) ≤ sum_by all_weights runs
  closes_weigh =
      let all = each_all (λ e. (1 ≤ e.chain) × (e.chain < 1 + length runs)) closing.history
      (λ e h. let is = events_inside e h in (is.0, omega (arith, is.1))) in
      let few = few_by_key (λ e. e.chain) (λ e. length (closed_by e.action)) all_weights [] 1 runs closing.history all (λ i lt.
      let c : ℕ = 1 + i in
      let d = drawer c (omega arith) (omega (arith, lt)) in
      let same = ap (λ (h : List Event). length (closes_of h)) (history_is c d.0 d.1 d.2) in
      let place = ap (λ (j : ℕ). all_weights (slice_index_or runs j [])) (let e : c - 1 ≡ i = omega arith in e) in
      omega (arith, (works d.0 d.1).weighed c d.2, same, place, closes_sum (part_of_chain c closing.history))) in
      let sum = closes_sum closing.history in
      let same = length_permutation (closes_of closing.history) (flat_map closed_by_worker crew) closes_joined in
      omega arith

-- the headline, once the completions are in order of place and the closes in order of mark
pub one_history : {catalogue : List FileEntry} {submissions : ℕ} {requests : List Asked} {o : Opening} {crew : List WorkerState}
    {left : Contents} {sorted : List Completed} {closes : CloseListView} (registrations : ℕ)
    → HavePlayed catalogue (submissions + 1) (runs_of requests) o crew left
    → IsPermutation (flat_map completed_by crew) sorted → IsNonDecreasingBy place_key sorted
    → IsPermutation (flat_map closed_by_worker crew) closes.files → IsInOrderOfMark closes.files
    → IsOneHistory (ring_with catalogue o.contents submissions registrations) requests
    (record { submission = submissions + 1; completions = sorted; closes = closes }) (ring_with catalogue left (submissions + 1) registrations)
one_history {catalogue} {submissions} {requests} {o} {crew} {left} registrations played same rises closed in_order =
    let history = played.closing.history in
    record {
      history = history;
      end = state_at o history;
      legal = grind (arith, start_is);
      settled = played.closing.settled;
      chains = events_inside played;
      explained = in_order_explained catalogue (size_of o) (submissions + 1) history (flat_map completed_by crew) (runs_of requests) played.short
          (inside played) (explained played) same rises;
      closed = record { same_files = IsPermutation-trans _ _ _ (closes_joined played) closed; in_order = in_order };
      submission = refl;
      after = ring_as (ring_with catalogue o.contents (submissions + 1) registrations) left played.closing.files;
    }
