-- A pass alone plays the chains of a submission, one after another.
use Rattle.fx_ring.proofs.Words.{common_steps, rules, ◌≡◌, ◌≢◌, ℕ, ◌+◌, ◌-◌, ◌*◌, ◌<◌, ◌≤◌, false, cond, List, [], ◌∷◌, ◌++◌, map, length, refl, sym}
use Rattle.fx_ring.proofs.Words.{ap, nat_tests, subst, ◌∙◌, arith, Option, None, All, All-head, All-tail, All-weaker, Contains, by_equality, Closed}
use Rattle.fx_ring.proofs.Words.{IsPermutation, IsNonDecreasingBy, FileEntry, CloseListView, State, opening, IsLegal, action_of, closes_in, closed_by}
use Rattle.fx_ring.proofs.Words.{part_of_chain, File, Event, Action, Opening, size_of, state_at, PassView, numbers_for, Completed, Explains, Asked}
use Rattle.fx_ring.proofs.Words.{first_member, runs_of, IsShortRun, HasClosed, ring_of, ring_with, with_table, installed_by, sum_by, sum_by-cons, ◌▷◌}
use Rattle.fx_ring.proofs.Words.{IsOneHistory, HasWorked, worker_state, completions_of_chain, run_of_chain, MOST_SLOTS, same_size, start_of, Some}
use Rattle.fx_ring.proofs.Words.{IsSettledSoFar, contains_map, contains_mapped, each_all, table_with_files, chain_less, begun_after, sum_by-le, Draws}
use Rattle.fx_ring.proofs.Words.{map-map, map-append, append_assoc, IsIdle, event_of, HasRoom, vec_capacity, all_completed, HasRoomFor, MOST_MEMBERS}
use Rattle.fx_ring.proofs.Words.{Outcome, add-one, PlaysChain, player, chains_to, zero, suc, filter_passes, contains_head, contains_tail, IsFront}
use Rattle.fx_ring.proofs.Words.{stays_at_rest, begins_at_rest, legal_behind, ◌▷▷◌, held_by, looks_least}
use Rattle.fx_plain.specs.Reopening.{Renaming, renamed, renamed_event, numbers_given, with_number_of, IsTableAtRest, HasOtherNumbers}
use Rattle.fx_plain.proofs.OpenedAnew.{opened_anew}
use Rattle.fx_chain.proofs.OtherNumbers.{explains, few_given, given_one}
use Rattle.fx_ring.proofs.Rings.{opened_so, ring_so, size_there}
use Rattle.fx_ring.proofs.Parts.{few_by_key}
use Rattle.fx_ring.proofs.CompletionPlaces.{drawn_inside, in_order_explained}
use Rattle.fx_ring.proofs.Crews.{IsNew, new_has_worked, new_has_room}
use Rattle.fx_ring.proofs.ChainPlayed.{GoesOn, drawing, worked_on, room_left}

-- a table is at rest wherever all is settled
pub at_rest_of : {o : Opening} {v : PassView} → IsSettledSoFar o v → IsTableAtRest (state_at o v.own)
at_rest_of settled = search (rules, stays_at_rest, begins_at_rest)

-- what others than the pass hold

nobody : {number : ℕ} (h : List Event) → All (λ e. e.pass ≡ number) h → {p : ℕ} → p ≢ number → held_by h p ≡ None
nobody [] all other = refl
nobody {number} (e ∷ h) all {p} other = let mine = All-head (λ (z : Event). z.pass ≡ number) e h all in
    by_equality e.pass p (λ b. cond {A = Option File} b (Rattle.fx_plain.specs.History.held_after (held_by h p) e.action) (held_by h p) ≡ None)
    (λ same. absurd (other (sym same ∙ mine))) (λ _. nobody h (All-tail (λ (z : Event). z.pass ≡ number) e h all) other)

none_held : {number : ℕ} (h : List Event) → All (λ e. e.pass ≡ number) h → held_by h number ≡ None → (p : ℕ) → held_by h p ≡ None
none_held {number} h all none p = by_equality p number (λ _. held_by h p ≡ None) (λ same. ap (held_by h) same ∙ none) (λ other. nobody h all other)

-- how many numbers the chains of a history give

abbrev given : List Event → ℕ
given h = length (numbers_given (map action_of h))

abbrev given_by : Event → ℕ
given_by e = length (with_number_of (installed_by e.action) [])

given_sum : (h : List Event) → given h ≡ sum_by given_by h
given_sum [] = refl
given_sum (e ∷ h) = omega (arith, given_one e.action (numbers_given (map action_of h)), sum_by-cons given_by e h, given_sum h)

-- the history with other numbers and chains

module _ (r : Renaming) (base : ℕ) where
  abbrev anew : Renaming
  anew = record r { chain = λ c. c - base }

  parts_same : (c : ℕ) (since : List Event)
      → map action_of (part_of_chain c (map (renamed_event anew) since))
      ≡ map (renamed anew) (map action_of (part_of_chain c (map (chain_less base) since)))
  parts_same c [] = refl
  parts_same c (e ∷ since) = let rest = parts_same c since in grind (arith, nat_tests)

  closed_same : (a : Action) → closed_by (renamed anew a) ≡ closed_by a
  closed_same a = grind arith

  closes_same : (since : List Event)
      → closes_in (map action_of (map (renamed_event anew) since)) ≡ closes_in (map action_of (map (chain_less base) since))
  closes_same [] = refl
  closes_same (e ∷ since) = ap (λ (x : List Closed × List Closed). x.0 ++ x.1) (λ i. (closes_same since i, closed_same e.action i))

module _ {catalogue : List FileEntry} {o : Opening} {before after : PassView} {drawn : List ℕ} (since : List Event) (submissions : ℕ)
    (requests : List Asked) {completions : List Completed} {closes : CloseListView} (few_slots : size_of o ≤ MOST_SLOTS)
    (short : All IsShortRun (runs_of requests)) (first : IsSettledSoFar o before) (last : IsSettledSoFar o after)
    (authors : All (λ e. e.pass ≡ before.number) before.own) (own : after.own ≡ before.own ▷▷ since)
    (worked : HasWorked catalogue (size_of o) (submissions + 1) (runs_of requests)
    (worker_state (begun_after before.chain drawn since after) completions closes))
    (all_drawn : (c : ℕ) → 1 ≤ c → c ≤ length (runs_of requests) → Contains drawn c) where
  abbrev base : ℕ
  base = before.chain

  abbrev runs : List (List Asked)
  runs = runs_of requests

  abbrev st : State
  st = state_at o before.own

  abbrev end : State
  end = state_at o after.own

  abbrev less : List Event
  less = map (chain_less base) since

  behind : IsLegal st since end
  behind = legal_behind (start_of o) end before.own since (none_held before.own authors first.held) (grind arith)

  few_numbers : given since ≤ 64 * length runs
  few_numbers =
      let all = each_all (λ e. (1 ≤ e.chain) × (e.chain < 1 + length runs)) less
      (λ e there. let is = drawn_inside worked (worked.own e there) in (is.0, omega (arith, is.1))) in
      let few = few_by_key (λ e. e.chain) given_by (λ _. 64) [] 1 runs less all (λ i lt.
      let c : ℕ = 1 + i in
      let told = few_given catalogue (size_of o) (run_of_chain runs c) (first_member (submissions + 1) c) (map action_of (part_of_chain c less))
      (completions_of_chain c completions) (worked.explained c (all_drawn c (omega arith) (omega (arith, lt)))) in
      omega (arith, told, (short (c - 1) [] (omega (arith, lt))).installs, given_sum (part_of_chain c less))) in
      let most = sum_by-le (λ (_ : List Asked). 64) 64 runs (λ k d lt. omega arith) in
      subst (λ (l : List Action). length (numbers_given l) ≤ 64 * length runs) (map-map action_of (chain_less base) since)
      (omega (arith, few, most, given_sum less))

  opened : (r : Renaming) × (left : State) × (r.chain ≡ (λ c. c - base))
      × IsLegal (opening st (numbers_for (length runs))) (map (renamed_event r) since) left × HasOtherNumbers end left
  opened = opened_anew (λ c. c - base) (numbers_for (length runs)) st end since (at_rest_of first)
      (let same : st.size ≡ size_of o = same_size (start_of o) st (map action_of before.own) first.legal.leads in
      omega (arith, few_numbers, few_slots, same)) behind

  abbrev r : Renaming
  r = record opened.0 { chain = λ c. c - base }

  abbrev left : State
  left = opened.1

  abbrev history : List Event
  history = map (renamed_event r) since

  pub part_is_one_history : (registrations : ℕ) {sorted : List Completed} {files : CloseListView} → IsPermutation completions sorted
      → IsNonDecreasingBy (λ c. c.place.chain * 32 + c.place.member) sorted → HasClosed closes.files files
      → IsOneHistory (ring_with catalogue (table_with_files st) submissions registrations) requests
      (record { submission = submissions + 1; completions = sorted; closes = files })
      (ring_with catalogue (table_with_files end) (submissions + 1) registrations)
  part_is_one_history registrations {sorted} {files} same rises closed = record {
    history = history;
    end = left;
    legal = subst (λ (z : State × List Event). IsLegal z.0 z.1 left) (λ i. (
      sym (opened_so st (at_rest_of first).inside (numbers_for (length runs))) i,
      map (renamed_event (record opened.0 { chain = opened.2 i })) since,
    )) opened.3;
    settled = opened.4.settled last.settled;
    chains = λ e there. let from = contains_map (renamed_event r) since e there in
        subst (λ (c : ℕ). (1 ≤ c) × (c ≤ length runs)) (sym (ap (λ (z : Event). z.chain) from.2))
        (drawn_inside worked (worked.own _ (contains_mapped (chain_less base) since from.0 from.1)));
    explained = subst (λ (size : ℕ). Rattle.fx_ring.specs.Submission.ExplainsParts catalogue size (submissions + 1) 1 runs history sorted)
        (sym (size_there st ∙ same_size (start_of o) st (map action_of before.own) first.legal.leads))
        (in_order_explained catalogue (size_of o) (submissions + 1) history completions runs
        short (λ k d l. drawn_inside worked (worked.completed k d l))
        (λ c low high. subst (λ (l : List Action). Explains catalogue (size_of o) (first_member (submissions + 1) c) (run_of_chain runs c) l
        (completions_of_chain c completions)) (sym (parts_same opened.0 base c since))
        (explains r catalogue (size_of o) (run_of_chain runs c) (first_member (submissions + 1) c) (map action_of (part_of_chain c less))
        (completions_of_chain c completions) (worked.explained c (all_drawn c low high)))) same rises);
    closed = subst (λ (l : List Closed). HasClosed l files) (worked.closed ∙ sym (closes_same opened.0 base since)) closed;
    submission = refl;
    after = grind (arith, ring_so end (at_rest_of last).inside catalogue (submissions + 1) registrations);
  }

-- a pass alone, which was so at first, has played `i` chains of a submission, and there is room for
-- the others
pub record IsPlaying {P : Type 0} (V : P → PassView) (Fits : P → Type 0) (o : Opening) (catalogue : List FileEntry) (submission : ℕ)
    (requests : List Asked) (start : PassView) (i : ℕ) (pass : P) (completions : List Completed) (closes : CloseListView) (capacity : ℕ)
    : Type 0 where
  pub fits : Fits pass
  pub idle : IsIdle (V pass)
  pub more : (V pass).no_chains_left ≡ false
  pub chain : (V pass).chain ≡ start.chain + i
  -- it looked up at most once for each member of these chains
  pub looks : start.looks_left ≤ (V pass).looks_left + i * MOST_MEMBERS
  pub since : List Event
  pub own : (V pass).own ≡ start.own ▷▷ since
  pub worked : HasWorked catalogue (size_of o) submission (runs_of requests)
      (worker_state (begun_after start.chain (chains_to i) since (V pass)) completions closes)
  pub room : HasRoom (runs_of requests) (worker_state (begun_after start.chain (chains_to i) since (V pass)) completions closes) capacity

-- a pass that has done nothing of the submission yet
pub begins : {P : Type 0} {V : P → PassView} {Fits : P → Type 0} {o : Opening} {catalogue : List FileEntry} {submission : ℕ} {requests : List Asked}
    {pass : P} {outcome : Outcome} → Fits pass → IsIdle (V pass) → (V pass).no_chains_left ≡ false → HasRoomFor requests outcome
    → length requests ≤ (V pass).looks_left
    → IsPlaying V Fits o catalogue submission requests (V pass) 0 pass (all_completed outcome.completions.items) outcome.closes
    (vec_capacity outcome.completions)
begins {V} {requests} {pass} fits idle more room looks =
    let new : IsNew (length requests) (begun_after (V pass).chain [] [] (V pass)) = grind arith in
    record {
      fits = fits;
      idle = idle;
      more = more;
      chain = omega arith;
      looks = omega arith;
      since = [];
      own = refl;
      worked = new_has_worked new room;
      room = new_has_room new room (omega arith);
    }

-- it goes on by one chain
module _ {P : Type 0} {V : P → PassView} {Fits : P → Type 0} {o : Opening} {catalogue : List FileEntry} {submission : ℕ} {requests : List Asked}
    {start w : PassView} {i chain capacity : ℕ} {pass then : P} {before now : List Completed} {closes files : CloseListView}
    (is : IsPlaying V Fits o catalogue submission requests start i pass before closes capacity) (inside : i + 1 ≤ length (runs_of requests))
    (next : chain ≡ (V pass).chain + 1) (drew : Draws o (V pass) (Some chain) w)
    (played : PlaysChain o catalogue submission (i + 1) (run_of_chain (runs_of requests) (i + 1)) (player w closes) before (player (V then) files) now)
  where
    abbrev since : List Event
    since = map (event_of w) played.2.actions ++ is.since

    abbrev was : PassView
    was = begun_after start.chain (chains_to i) is.since (V pass)

    drawn_chain : w.chain ≡ start.chain + (i + 1)
    drawn_chain = let e = ap (λ (z : PassView). z.chain) drew.3 in omega (arith, e, next, is.chain)

    events_less : (l : List Action) → map (chain_less start.chain) (map (event_of w) l) ≡ map (event_of (drawing o was (i + 1))) l
    events_less [] = refl
    events_less (a ∷ l) =
        let here : w.chain - start.chain ≡ i + 1 = omega (arith, drawn_chain) in
        λ j. record { pass = ap (λ (z : PassView). z.number) drew.3 j; chain = here j; action = a } ∷ events_less l j

    goes : GoesOn (drawing o was (i + 1)) (begun_after start.chain (chains_to (i + 1)) since (V then)) played.2.actions played.2.used
    goes = record {
      own = grind (arith, common_steps, events_less);
      chain = omega (arith, drawn_chain, played.2.acts.adds.chain);
      drawn = ap chains_to (add-one i) ∙ ap (λ (c : ℕ). chains_to i ▷ c) (sym (add-one i));
      looks_left = let e = ap (λ (z : PassView). z.looks_left) drew.3 in omega (arith, e, looks_least played.2.acts.adds);
    }

    further : was.chain < i + 1
    further = omega (arith, is.chain)

    pub goes_on : {more : ℕ} → length (run_of_chain (runs_of requests) (i + 1)) ≤ MOST_MEMBERS → Fits then → capacity ≤ more
        → IsPlaying V Fits o catalogue submission requests start (i + 1) then now files more
    goes_on short fits grows = record {
      fits = fits;
      idle = played.2.acts.adds.now;
      more = played.2.acts.adds.no_chains_left ∙ ap (λ (z : PassView). z.no_chains_left) drew.3 ∙ is.more;
      chain = omega (arith, drawn_chain, played.2.acts.adds.chain);
      looks = omega (arith, goes.looks_left, played.2.few_looks, short, is.looks);
      since = since;
      own = grind (arith, common_steps);
      worked = worked_on is.worked further inside played goes;
      room = room_left is.worked further inside played goes is.room grows;
    }

-- the events of a pass are the pass's
pub authors_of : {o : Opening} {v : PassView} → IsSettledSoFar o v → IsFront o v → All (λ e. e.pass ≡ v.number) v.own
authors_of settled front = grind (arith, All-weaker, filter_passes)

-- each chain was drawn
pub all_drawn : (n c : ℕ) → 1 ≤ c → c ≤ n → Contains (chains_to n) c
all_drawn zero c low high = absurd (omega arith)
all_drawn (suc n) c low high = by_equality c (suc n) (λ _. Contains (chains_to (suc n)) c) (grind (arith, contains_head (suc n) (chains_to n)))
    (λ other. contains_tail (suc n) (chains_to n) c (all_drawn n c low (omega arith)))
