-- A worker goes on by one chain that its pass drew.
use Rattle.fx_ring.proofs.Words.{common_steps, ◌≡◌, ◌≢◌, ℕ, ◌+◌, ◌-◌, ◌<◌, ◌≤◌, List, [], ◌∷◌, ◌++◌, map, length, sym, ap, subst, ◌∙◌, All, Contains}
use Rattle.fx_ring.proofs.Words.{Some, None, ⊎_elim, length-append, arith, map-append, map-id, map-map, All-append, FileEntry, CloseListView, Closed}
use Rattle.fx_ring.proofs.Words.{Event, ◌▷◌, Action, action_of, closes_in, part_of_chain, Opening, size_of, PassView, event_of, Completed, Explains}
use Rattle.fx_ring.proofs.Words.{first_member, Asked, all_weights, IsEnoughFor, WorkerState, worker_state, run_of_chain, completions_of_chain, drop}
use Rattle.fx_ring.proofs.Words.{HasWorked, HasRoom, slice_index_or, sum_by, sum_by-drop_more, drop-drop, Contains-append_cases, sum_by-take-drop}
use Rattle.fx_ring.proofs.Words.{closes_in-then, Draws, Use, contains_head, contains_tail, contains_cases, contains_map, each_all, PlaysChain, player}
use Rattle.fx_ring.proofs.Words.{looks_least, explained_count}
use Rattle.fx_ring.proofs.Parts.{only_first, only_second, not_first, not_second}
use Rattle.fx_ring.proofs.CompletionPlaces.{explained_of_members}

-- the element at a further place of a list, counted from 1, and the elements after it
pub sum_behind : {X : Type 0} (f : X → ℕ) (xs : List X) (d : X) (i : ℕ) {c : ℕ} → i < c → c ≤ length xs
    → f (slice_index_or xs (c - 1) d) + sum_by f (drop c xs) ≤ sum_by f (drop i xs)
sum_behind f xs d i {c} further inside =
    let here = sum_by-drop_more f xs (c - 1) d (omega arith) in
    grind (arith, sum_by-take-drop f (drop i xs) (c - 1 - i), ap (sum_by f) (drop-drop (c - 1 - i) i xs))

abbrev chain_of : Event → ℕ
chain_of e = e.chain

abbrev chain_of_completed : Completed → ℕ
chain_of_completed c = c.place.chain

actions_again : (v : PassView) (actions : List Action) → map action_of (map (event_of v) actions) ≡ actions
actions_again v actions = map-map action_of (event_of v) actions ∙ map-id actions

-- the pass with the chain that it drew
abbrev pub drawing : Opening → PassView → ℕ → PassView
drawing o v chain = record v { chain = chain; drawn = v.drawn ▷ chain; numbers_left = o.numbers }

-- the pass took these actions since, and nothing else is said of others
pub record GoesOn (v x : PassView) (actions : List Action) (used : Use) : Type 0 where
  pub own : x.own ≡ map (event_of v) actions ++ v.own
  pub chain : x.chain ≡ v.chain
  pub drawn : x.drawn ≡ v.drawn
  pub looks_left : v.looks_left ≤ x.looks_left + used.looks

-- what is said of each chain that a worker drew
abbrev IsDone : List FileEntry → ℕ → ℕ → List (List Asked) → ℕ → List Action → List Completed → Type 0
IsDone catalogue size submission runs chain events completions =
    Explains catalogue size (first_member submission chain) (run_of_chain runs chain) events completions
    × (length (closes_in events) ≤ all_weights (run_of_chain runs chain))

-- a chain after all others was played from w to y, and that takes the worker from v to x
module _ {o : Opening} {catalogue : List FileEntry} {submission : ℕ} {runs : List (List Asked)} {v x w y : PassView}
    {before now : List Completed} {closes files : CloseListView} {chain : ℕ}
    (worked : HasWorked catalogue (size_of o) submission runs (worker_state v before closes))
    (further : v.chain < chain) (inside : chain ≤ length runs)
    (played : PlaysChain o catalogue submission chain (run_of_chain runs chain) (player w closes) before (player y files) now)
    (goes : GoesOn (drawing o v chain) x played.2.actions played.2.used) where
  abbrev events : List Event
  events = map (event_of (drawing o v chain)) played.2.actions

  -- the new events and completions are of the chain
  of_chain : (e : Event) → Contains events e → chain_of e ≡ chain
  of_chain e h = ap chain_of (contains_map (event_of (drawing o v chain)) played.2.actions e h).2

  new_events : All (λ e. chain_of e ≡ chain) events
  new_events = each_all (λ e. chain_of e ≡ chain) events of_chain

  new_completions : All (λ c. chain_of_completed c ≡ chain) played.0
  new_completions k d l = grind (arith, explained_of_members, chain)

  -- those before are of chains before it
  old_events : All (λ e. chain_of e ≢ chain) v.own
  old_events = each_all (λ e. chain_of e ≢ chain) v.own (λ e h same. let low = (worked.inside e.chain (worked.own e h)).1 in absurd (omega arith))

  old_completions : All (λ c. chain_of_completed c ≢ chain) before
  old_completions k d l same = let low = (worked.inside _ (worked.completed k d l)).1 in absurd (omega arith)

  abbrev Done : ℕ → Type 0
  Done c = IsDone catalogue (size_of o) submission runs c (map action_of (part_of_chain c (events ++ v.own)))
      (completions_of_chain c (before ++ played.0))

  done_now : Done chain
  done_now =
      let part = ap (map action_of) (only_first chain_of chain events v.own new_events old_events)
      ∙ actions_again (drawing o v chain) played.2.actions in
      let mine = only_second chain_of_completed chain before played.0 old_completions new_completions in
      grind (arith, chain)

  done_before : {c : ℕ} → Contains v.drawn c → Done c
  done_before {c} h =
      let low = (worked.inside c h).1 in
      let other : chain ≢ c = λ same. absurd (omega arith) in
      let part = not_first chain_of c events v.own (λ k d l same. other (sym (new_events k d l) ∙ same)) in
      let mine = not_second chain_of_completed c before played.0 (λ k d l same. other (sym (new_completions k d l) ∙ same)) in
      grind arith

  done : (c : ℕ) → Contains (chain ∷ v.drawn) c → Done c
  done c h = ⊎_elim (λ is. subst Done (sym is) done_now) (λ t. done_before t) (contains_cases chain v.drawn c h)

  pub worked_on : HasWorked catalogue (size_of o) submission runs (worker_state x now files)
  worked_on = subst (λ (z : List Event × List ℕ × ℕ × List Completed × List Closed). HasWorked catalogue (size_of o) submission runs
      (worker_state (record x { own = z.0; drawn = z.1; chain = z.2 }) z.3 (record files { files = z.4 })))
      (λ i. (sym goes.own i, sym goes.drawn i, sym goes.chain i, sym played.1 i, sym played.2.acts.files i)) (record {
        explained = λ c h. (done c h).0;
        weighed = λ c h. (done c h).1;
        inside = λ c h. ⊎_elim (λ is. (omega arith, omega arith))
            (λ t. let low = worked.inside c t in let top = low.1 in (low.0, omega arith)) (contains_cases chain v.drawn c h);
        reached = inside;
        own = λ e h. ⊎_elim (λ new. subst (Contains (chain ∷ v.drawn)) (sym (of_chain e new)) (contains_head chain v.drawn))
            (λ old. contains_tail chain v.drawn e.chain (worked.own e old)) (Contains-append_cases events v.own e h);
        completed = All-append (λ c. Contains (chain ∷ v.drawn) c.place.chain) before played.0
            (λ k d l. contains_tail chain v.drawn _ (worked.completed k d l))
            (λ k d l. subst (Contains (chain ∷ v.drawn)) (sym (new_completions k d l)) (contains_head chain v.drawn));
        closed = ap (λ (l : List Closed). l ++ closes_in played.2.actions) worked.closed
            ∙ sym (closes_in-then (map action_of v.own) played.2.actions)
            ∙ ap (λ (l : List Action). closes_in (l ++ map action_of v.own)) (sym (actions_again (drawing o v chain) played.2.actions))
            ∙ ap closes_in (sym (map-append action_of events v.own));
      })

  pub room_left : {capacity more : ℕ} → HasRoom runs (worker_state v before closes) capacity → capacity ≤ more
      → HasRoom runs (worker_state x now files) more
  room_left {more} room grows =
      let requests = sum_behind (λ (run : List Asked). length run) runs [] v.chain further inside in
      grind (arith, common_steps, sum_behind, explained_count, chain)

-- what is left to a worker suffices for a further chain
pub enough : {runs : List (List Asked)} {w : WorkerState} {capacity : ℕ} {chain : ℕ} → HasRoom runs w capacity → w.pass.chain < chain
    → chain ≤ length runs → IsEnoughFor (run_of_chain runs chain) w capacity
enough {runs} {w} room further inside =
    let requests = sum_behind (λ (run : List Asked). length run) runs [] w.pass.chain further inside in
    grind (arith, sum_behind all_weights runs [] w.pass.chain further inside)

-- and the worker goes on
module _ {o : Opening} {catalogue : List FileEntry} {submission : ℕ} {runs : List (List Asked)} {v w x : PassView}
    {before now : List Completed} {closes files : CloseListView} {chain : ℕ} (inside : chain ≤ length runs) (drew : Draws o v (Some chain) w)
    (worked : HasWorked catalogue (size_of o) submission runs (worker_state v before closes))
    (played : PlaysChain o catalogue submission chain (run_of_chain runs chain) (player w closes) before (player x files) now) where
  goes : GoesOn (drawing o v chain) x played.2.actions played.2.used
  goes = grind (arith, looks_least)

  pub worked_next : HasWorked catalogue (size_of o) submission runs (worker_state x now files)
  worked_next = worked_on worked drew.1 inside played goes

  pub room_next : {capacity more : ℕ} → HasRoom runs (worker_state v before closes) capacity → capacity ≤ more
      → HasRoom runs (worker_state x now files) more
  room_next = room_left worked drew.1 inside played goes

-- a worker whose pass found no further chain
pub worked_all : (o : Opening) {catalogue : List FileEntry} {size submission : ℕ} {runs : List (List Asked)} {v w : PassView} {cs : List Completed}
    {closes : CloseListView} → HasWorked catalogue size submission runs (worker_state v cs closes) → Draws o v None w
    → HasWorked catalogue size submission runs (worker_state w cs closes)
worked_all o {catalogue} {size} {submission} {runs} {cs} {closes} worked drew =
    subst (λ (z : PassView). HasWorked catalogue size submission runs (worker_state z cs closes)) (sym drew) (assumption worked)
