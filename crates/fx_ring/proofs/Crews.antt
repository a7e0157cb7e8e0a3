-- Crews: new ones, and those whose passes have played.
use Rattle.fx_ring.proofs.Words.{rules, length-map, sum_by-cons, new_passes, all_weights, Completion, HasRoomFor, PASS_LOOKS, All-weaker, WorkerState}
use Rattle.fx_ring.proofs.Words.{◌≡◌, FileEntry, PassView, weight_of, HasWorked, sum_by-le, IsShortRun, AreCutInto, map-append, IsAccepted, all_asked}
use Rattle.fx_ring.proofs.Words.{ℕ, ◌≤◌, ◌∷◌, map, All, sum_by, refl, sym, ap, ◌∙◌, arith, Asked, Worker, map-id, ◌*◌, Chain, Closed, ◌+◌, ◌<◌, take}
use Rattle.fx_ring.proofs.Words.{List, vec_capacity, All-contains, worker_state, contains_map, MOST_MEMBERS, completed_of, flat_map-map, operation_of}
use Rattle.fx_ring.proofs.Words.{[], length-flat_map, contains_mapped, length-map-range_with_len, state_of_worker, accepted-length, all_weights-small}
use Rattle.fx_ring.proofs.Words.{flat_map, sum_by-append, all_completed, contains_none, range_with_len, slice_index_or, sum_by_more_le, accepted-each}
use Rattle.fx_ring.proofs.Words.{length, subst, map-map, All-nil, new_pass, runs_of, HasRoom, Outcome, Contains, each_all, asked_of, Request, sum_map}
use Rattle.fx_ring.proofs.CompletionPlaces.{as_many, runs_within}
use Rattle.fx_chain.proofs.Runs.{are_runs}
use Rattle.fx_ring.proofs.Parts.{made_of_parts}
use Rattle.fx_ring.proofs.WorkersTogether.{pass_of, completed_by, closed_by_worker}

-- what holds of all elements holds of what they were made into
pub all_gathered : {A W : Type 0} (P : A → Type 0) (f : W → A) (ws : List W) (xs : List A) → map f ws ≡ xs → All P xs → All (λ w. P (f w)) ws
all_gathered P f ws xs e a = each_all (λ w. P (f w)) ws
    (λ w h. All-contains P xs (f w) a (subst (λ (l : List _). Contains l (f w)) e (contains_mapped f ws w h)))

-- a pass that has done nothing, and can look up so often
pub record IsNew (often : ℕ) (v : PassView) : Type 0 where
  pub own : v.own ≡ []
  pub drawn : v.drawn ≡ []
  pub chain : v.chain ≡ 0
  pub looks : often ≤ v.looks_left

module _ {P : Type 0} (V : P → PassView) (ps : List P) (n : ℕ) (new : map (λ p. V p) ps ≡ new_passes n) where
  pub as_many_passes : length ps ≡ n
  as_many_passes = let a = length-map ps V in let b = ap length new in let c = length-map-range_with_len new_pass 1 n in omega arith

  pub all_new : All (λ p. IsNew PASS_LOOKS (V p)) ps
  all_new = each_all (λ p. IsNew PASS_LOOKS (V p)) ps (λ p h.
      let from = contains_map new_pass (range_with_len 1 n) (V p) (subst (λ (l : List PassView). Contains l (V p)) new (contains_mapped V ps p h)) in
      subst (IsNew PASS_LOOKS) (sym from.2) (record { own = refl; drawn = refl; chain = refl; looks = omega arith }))

  pub numbers_are : (crew : List (Worker P)) → map (λ w. w.pass) crew ≡ ps → map (λ w. (V w.pass).number) crew ≡ range_with_len 1 n
  numbers_are crew gathered =
      let number : PassView → ℕ = λ v. v.number in
      sym (map-map (λ p. number (V p)) (λ w. w.pass) crew) ∙ ap (map (λ p. number (V p))) gathered ∙ sym (map-map number V ps)
      ∙ ap (map number) new ∙ map-map number new_pass (range_with_len 1 n) ∙ map-id (range_with_len 1 n)

weights_joined : (runs : List (List Asked)) → all_weights (flat_map (λ run. run) runs) ≡ sum_by all_weights runs
weights_joined [] = refl
weights_joined (run ∷ runs) = search (rules, weights_joined runs, sum_by-append, sum_by-cons)

-- the runs have all requests, and what those weigh
pub runs_have_all : (requests : List Asked) → sum_by (λ run. length run) (runs_of requests) ≡ length requests
runs_have_all requests = sym (length-flat_map (λ run. run) (runs_of requests)) ∙ ap length (are_runs requests).whole

-- a run has at most as many requests as a chain may have members
pub few_of_chains : {requests : List Asked} {chains : List Chain} → AreCutInto requests chains → length requests ≤ length chains * MOST_MEMBERS
few_of_chains {requests} cut =
    let few = sum_by-le (λ (run : List Asked). length run) MOST_MEMBERS (runs_of requests)
    (All-weaker IsShortRun (λ run. length run ≤ MOST_MEMBERS) (λ run is. is.members) (runs_of requests) (runs_within cut)) in
    omega (arith, rw (runs_have_all requests) at few, as_many cut)

abbrev weight_of_one : Request → ℕ
weight_of_one r = weight_of (operation_of r.op)

-- the weights of a part of the requests and of one more fit
pub weight_fits : (requests : List Request) (i : ℕ) (x : Request) → i < length requests → x ≡ slice_index_or requests i x
    → IsAccepted (all_asked requests) → sum_by weight_of_one (take i requests) + weight_of_one x ≤ 261888
weight_fits requests i x inside is accepted =
    let small = all_weights-small (all_asked requests) (accepted-each (all_asked requests) accepted) in
    grind (arith, sum_map, accepted-length, sum_by_more_le)

pub runs_weigh_all : (requests : List Asked) → sum_by all_weights (runs_of requests) ≡ all_weights requests
runs_weigh_all requests = sym (weights_joined (runs_of requests)) ∙ ap all_weights (are_runs requests).whole

-- a worker with a new pass has worked as it should, and has room for all
module _ {often : ℕ} {v : PassView} {outcome : Outcome} {requests : List Asked} (new : IsNew often v) (room : HasRoomFor requests outcome) where
  pub new_has_worked : {catalogue : List FileEntry} {size submission : ℕ} {runs : List (List Asked)}
      → HasWorked catalogue size submission runs (worker_state v (all_completed outcome.completions.items) outcome.closes)
  new_has_worked = grind (arith, contains_none, All-nil)

  pub new_has_room : length requests ≤ often
      → HasRoom (runs_of requests) (worker_state v (all_completed outcome.completions.items) outcome.closes) (vec_capacity outcome.completions)
  new_has_room few = grind (arith, runs_have_all, runs_weigh_all)

-- The outcome of a crew, by its passes and outcomes once they lie in lists of their own.

abbrev pub completions_of : Outcome → List Completion
completions_of outcome = outcome.completions.items

abbrev pub files_of : Outcome → List Closed
files_of outcome = outcome.closes.files

module _ {P : Type 0} (V : P → PassView) where
  abbrev pub states : List (Worker P) → List WorkerState
  states ws = map (state_of_worker V) ws

  pub scattered_views : (ws : List (Worker P)) {ps : List P} → ps ≡ map (λ w. w.pass) ws → map (λ p. V p) ps ≡ map pass_of (states ws)
  scattered_views ws is = ap (map V) is ∙ map-map V (λ w. w.pass) ws ∙ sym (map-map pass_of (state_of_worker V) ws)

  module _ (ws : List (Worker P)) {outcomes : List Outcome} (is : outcomes ≡ map (λ w. w.outcome) ws) where
    pub completions_joined : all_completed (flat_map completions_of outcomes) ≡ flat_map completed_by (states ws)
    completions_joined =
        ap (λ (l : List Outcome). all_completed (flat_map completions_of l)) is
        ∙ (ap all_completed (flat_map-map completions_of (λ w. w.outcome) ws)
        ∙ (made_of_parts (λ w. w.outcome.completions.items) (map completed_of) refl (map-append completed_of) ws
        ∙ sym (flat_map-map completed_by (state_of_worker V) ws)))

    pub files_joined : flat_map files_of outcomes ≡ flat_map closed_by_worker (states ws)
    files_joined = ap (flat_map files_of) is
        ∙ (flat_map-map files_of (λ w. w.outcome) ws ∙ sym (flat_map-map closed_by_worker (state_of_worker V) ws))

    pub as_many_completions : sum_by (λ outcome. length outcome.completions.items) outcomes ≡ length (flat_map completed_by (states ws))
    as_many_completions =
        let all = length-map (flat_map completions_of outcomes) completed_of in
        omega (arith, all, length-flat_map completions_of outcomes, ap length completions_joined)

    pub as_many_files : sum_by (λ outcome. length outcome.closes.files) outcomes ≡ length (flat_map closed_by_worker (states ws))
    as_many_files = omega (arith, length-flat_map files_of outcomes, ap length files_joined)
