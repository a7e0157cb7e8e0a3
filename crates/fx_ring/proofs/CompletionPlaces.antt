-- The places of completions: of a chain, and of a submission in parts.
use Rattle.fx_ring.proofs.Words.{◌≡◌, ℕ, ◌+◌, ◌-◌, ◌<◌, List, [], length, slice_index_or, sym, ap, subst, ◌∙◌, All, arith, get_or-map, length-map}
use Rattle.fx_ring.proofs.Words.{IsChain, IsShortRun, members_of, Asked, all_asked, runs_of, all_installs, Chain, Request, AreCutInto, InstallAtMost}
use Rattle.fx_ring.proofs.Words.{All-map, All-weaker, ◌≤◌, ◌*◌, ◌∷◌, refl, All-nil, All-cons, FileEntry, Action, Completed, next_member, Explains}
use Rattle.fx_ring.proofs.Words.{canceled, severs, Place, either_case, suc, ◌++◌, length-append, map, sum_by, IsPermutation, flat_map, All-head}
use Rattle.fx_ring.proofs.Words.{IsNonDecreasingBy, All-tail, All-append, sum_by-cons, IsPermutation-sym, IsPermutation-trans, length_permutation}
use Rattle.fx_ring.proofs.Words.{MOST_MEMBERS, part_of_chain, action_of, Event, first_member, ExplainsParts, completions_of_chain, run_of_chain}
use Rattle.fx_ring.proofs.Words.{Contains, HasWorked, WorkerState, range_with_len, asked_of}
use Rattle.fx_ring.proofs.Installs.{answered}
use Rattle.fx_ring.proofs.OneOrder.{Rises, one_list_in_order}
use Rattle.fx_ring.proofs.Parts.{made_by_key, split_by_key}

-- a chain is a part of the list of requests
pub inside_requests : (requests : List Request) (chain : Chain) → IsChain (all_asked requests) chain → chain.first + chain.len ≤ length requests
inside_requests requests chain is = let as_many = length-map requests asked_of in let inside = is.inside in omega arith

module _ {requests : List Asked} {chains : List Chain} (cut : AreCutInto requests chains) where
  -- there are as many chains as runs
  pub as_many : length (runs_of requests) ≡ length chains
  as_many = ap length (sym cut.members) ∙ length-map chains (members_of requests)

  -- the members of a chain are the run at its place
  pub run_at : (i : ℕ) (d : Chain) → i < length chains → members_of requests (slice_index_or chains i d) ≡ slice_index_or (runs_of requests) i []
  run_at i d inside = grind (arith, get_or-map)

  -- what no chain installs more than, no run does
  pub runs_install : {most : ℕ} → All (λ chain. all_installs (members_of requests chain) ≤ most) chains → InstallAtMost requests most
  runs_install {most} each = subst (All (λ run. all_installs run ≤ most)) cut.members
      (All-map (λ run. all_installs run ≤ most) (members_of requests) chains each)

  -- the runs are short
  pub runs_within : All IsShortRun (runs_of requests)
  runs_within = subst (All IsShortRun) cut.members (All-map IsShortRun (members_of requests) chains (grind (arith, All-weaker)))

-- The places of the completions of a chain.

-- the key by which completions are put in order of place
abbrev pub place_key : Completed → ℕ
place_key c = c.place.chain * 32 + c.place.member

abbrev key_of : Place → ℕ
key_of place = place.chain * 32 + place.member

-- the completion is of one of this number of members of a chain, from this place on
abbrev pub IsWithin : Place → ℕ → Completed → Type 0
IsWithin place n c = (c.place.chain ≡ place.chain) × (key_of place ≤ place_key c) × (place_key c < key_of place + n)

-- the completions are those of the members from this place on, one of each, in their order
pub record AreOfMembers (place : Place) (requests : List Asked) (completions : List Completed) : Type 0 where
  pub within : All (IsWithin place (length requests)) completions
  pub rises : Rises place_key completions
  pub count : length completions ≡ length requests

none_of_members : (place : Place) → AreOfMembers place [] []
none_of_members place = record { within = All-nil (IsWithin place 0); rises = tt; count = refl }

more_of_members : {place : Place} (request : Asked) {requests : List Asked} {c : Completed} {cs : List Completed} → c.place ≡ place
    → AreOfMembers (next_member place) requests cs → AreOfMembers place (request ∷ requests) (c ∷ cs)
more_of_members request h2 rest = grind (arith, next_member, All-cons, All-weaker)

canceled_of_members : (place : Place) (requests : List Asked) → AreOfMembers place requests (canceled place requests)
canceled_of_members place [] = none_of_members place
canceled_of_members place (request ∷ requests) = more_of_members request refl (canceled_of_members (next_member place) requests)

pub explained_of_members : (catalogue : List FileEntry) (size : ℕ) (place : Place) (requests : List Asked)
    (events : List Action) {completions : List Completed} → Explains catalogue size place requests events completions
    → AreOfMembers place requests completions
explained_of_members catalogue size place [] events it = subst (AreOfMembers place []) (sym it.1) (none_of_members place)
explained_of_members catalogue size place (request ∷ requests) events (own, others, c, cs, parts, are, answers, behind) =
    subst (AreOfMembers place (request ∷ requests)) (sym are) (more_of_members request (answered catalogue place size request.operation answers).at
    (either_case (severs request c) (grind (arith, next_member place, canceled_of_members (next_member place) requests))
    (λ more. explained_of_members catalogue size (next_member place) requests others more) behind))

-- The completions of a submission, once they are in order of place: they are the chains' parts, one
-- after another.

rises_append : {m : ℕ} (xs ys : List Completed) → Rises place_key xs → Rises place_key ys → All (λ c. place_key c < m) xs
    → All (λ c. m ≤ place_key c) ys → Rises place_key (xs ++ ys)
rises_append [] ys left right below above = right
rises_append {m} (x ∷ xs) ys left right below above =
    let one : place_key x < m = All-head (λ c. place_key c < m) x xs below in (
      All-append (λ y. place_key x < place_key y) xs ys left.0 (grind (arith, All-weaker)),
      rises_append xs ys left.1 right (All-tail (λ c. place_key c < m) x xs below) above,
    )

-- the chains that a worker drew are of the submission
pub drawn_inside : {catalogue : List FileEntry} {size submission : ℕ} {runs : List (List Asked)} {w : WorkerState}
    → HasWorked catalogue size submission runs w → {c : ℕ} → Contains w.pass.drawn c → (1 ≤ c) × (c ≤ length runs)
drawn_inside worked {c} drew = let is = worked.inside c drew in (is.0, omega (arith, is.1, worked.reached))

module _ (catalogue : List FileEntry) (size submission : ℕ) (history : List Event) (all : List Completed) where
  -- the chain's part of the completions is explained by its part of the history
  abbrev IsExplainedPart : ℕ → List Asked → Type 0
  IsExplainedPart chain run = Explains catalogue size (first_member submission chain) run (map action_of (part_of_chain chain history))
      (completions_of_chain chain all)

  -- the parts of the chains from this one on
  abbrev parts : ℕ → List (List Asked) → List Completed
  parts chain runs = flat_map (λ k. completions_of_chain k all) (range_with_len chain (length runs))

  record AreInOrder (chain : ℕ) (runs : List (List Asked)) : Type 0 where
    explains : ExplainsParts catalogue size submission chain runs history (parts chain runs)
    count : length (parts chain runs) ≡ sum_by (λ run. length run) runs
    above : All (λ c. chain * 32 + 1 ≤ place_key c) (parts chain runs)
    rises : Rises place_key (parts chain runs)

  in_order : (chain : ℕ) (runs : List (List Asked)) → All IsShortRun runs
      → ((i : ℕ) → i < length runs → IsExplainedPart (chain + i) (slice_index_or runs i [])) → AreInOrder chain runs
  in_order chain [] few explained = record { explains = refl; count = refl; above = All-nil (λ c. chain * 32 + 1 ≤ place_key c); rises = tt }
  in_order chain (run ∷ runs) few explained =
      let mine = completions_of_chain chain all in
      let same : chain + 0 ≡ chain = omega arith in
      let own = subst (λ c. IsExplainedPart c run) same (explained 0 (omega arith)) in
      let are = explained_of_members catalogue size (first_member submission chain) run (map action_of (part_of_chain chain history)) own in
      let rest = in_order (chain + 1) runs (All-tail IsShortRun run runs few)
      (λ i lt. let on : chain + suc i ≡ chain + 1 + i = omega arith in
      subst (λ c. IsExplainedPart c (slice_index_or runs i [])) on (explained (suc i) (omega arith))) in
      let short : length run ≤ MOST_MEMBERS = (All-head IsShortRun run runs few).members in
      let whole = length-append mine (parts (chain + 1) runs) in
      let sum = sum_by-cons (λ (r : List Asked). length r) run runs in
      record {
        explains = (mine, parts (chain + 1) runs, refl, own, rest.explains);
        count = omega arith;
        above = All-append (λ c. chain * 32 + 1 ≤ place_key c) mine (parts (chain + 1) runs) (λ k d lt. (are.within k d lt).1)
            (All-weaker (λ c. (chain + 1) * 32 + 1 ≤ place_key c) (λ c. chain * 32 + 1 ≤ place_key c) (λ c le. omega arith) (parts (chain + 1) runs)
            rest.above);
        rises = rises_append mine (parts (chain + 1) runs) are.rises rest.rises
            (λ k d lt. let high = (are.within k d lt).2 in omega arith) rest.above;
      }

  module _ (runs : List (List Asked)) (few : All IsShortRun runs) (inside : All (λ c. (1 ≤ c.place.chain) × (c.place.chain ≤ length runs)) all)
      (explained : (c : ℕ) → 1 ≤ c → c ≤ length runs → IsExplainedPart c (run_of_chain runs c)) where
    whole : AreInOrder 1 runs
    whole = in_order 1 runs few (grind arith)

    all_parts : IsPermutation all (parts 1 runs)
    all_parts = made_by_key (λ c. c.place.chain) (λ l. l) refl (split_by_key (λ c. c.place.chain)) 1 (length runs) all (grind arith)

    -- there is one completion of each request
    pub one_of_each_request : length all ≡ sum_by (λ run. length run) runs
    one_of_each_request = sym (length_permutation all (parts 1 runs) all_parts) ∙ whole.count

    -- in order of place, the completions are explained chain by chain
    pub in_order_explained : {sorted : List Completed} → IsPermutation all sorted → IsNonDecreasingBy place_key sorted
        → ExplainsParts catalogue size submission 1 runs history sorted
    in_order_explained {sorted} same up =
        subst (ExplainsParts catalogue size submission 1 runs history) (one_list_in_order place_key
        (IsPermutation-trans (parts 1 runs) all sorted (IsPermutation-sym all (parts 1 runs) all_parts) same) whole.rises up)
        whole.explains
