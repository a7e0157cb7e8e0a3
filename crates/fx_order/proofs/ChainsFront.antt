-- The accesses and completions of the first member, and of the first chain.
use Rattle.fx_order.proofs.Words.{◌≡◌, ◌-◌, ◌≤◌, List, [], ◌∷◌, length, take, drop, suc, sym, ap, subst, ◌∙◌, arith, slice_index_or, All, All-tail}
use Rattle.fx_order.proofs.Words.{take-length, ◌↔◌, ℕ, ◌+◌, Bool, false, IsTrue, ◌++◌, min, AllByRecursion, either_way, MatchBool, take-append-drop}
use Rattle.fx_order.proofs.Words.{length-append, take-append_seam, drop-append_seam, FileEntry, Completed, next_member, canceled, severs, Asked}
use Rattle.fx_order.proofs.Words.{Place, Access, IsChainDone, IsRequestDone, All-head, ◌<◌, by_equality, first_member, accesses_of_chain, ChainAccess}
use Rattle.fx_order.proofs.Words.{AreChainsDone, map, length-map, take-map, drop-map, members_of, all_completed, completed_of, all_asked, asked_of}
use Rattle.fx_order.proofs.Words.{Chain, Completion, Request}
use Rattle.fx_chain.proofs.ChainGoesOn.{canceled_count}

pub first_and_rest : {X : Type 0} (xs : List X) (d : X) → 1 ≤ length xs → xs ≡ slice_index_or xs 0 d ∷ take (length xs - 1) (drop 1 xs)
first_and_rest [] d some = absurd (omega arith)
first_and_rest (x ∷ xs) d some = let count : suc (length xs) - 1 ≡ length xs = omega arith in rw count (λ i. x ∷ sym (take-length xs) i)

pub all_of_rest : {X : Type 0} (P : X → Type 0) (xs : List X) (d : X) → 1 ≤ length xs → All P xs → All P (take (length xs - 1) (drop 1 xs))
all_of_rest P xs d some all = All-tail P (slice_index_or xs 0 d) (take (length xs - 1) (drop 1 xs)) (subst (All P) (first_and_rest xs d some) all)

pub first_is : {X : Type 0} (xs : List X) (x : X) → 1 ≤ length xs → x ≡ slice_index_or xs 0 x → xs ≡ x ∷ take (length xs - 1) (drop 1 xs)
first_is xs x some is = first_and_rest xs x some ∙ ap (λ y. y ∷ take (length xs - 1) (drop 1 xs)) (sym is)

-- The accesses of a chain's first member are the first ones of the chain.

-- the first part of a list of a known length
pub front_is : {X : Type 0} (xs ys zs : List X) (n : ℕ) → zs ≡ xs ++ ys → length xs ≡ n → (take n zs ≡ xs) × (drop n zs ≡ ys)
front_is xs ys zs n is count = grind (arith, take-append_seam, drop-append_seam)

-- a property of each element of both parts
pub both_parts : {X : Type 0} (P : X → Type 0) (xs ys : List X) → AllByRecursion P (xs ++ ys) → AllByRecursion P xs × AllByRecursion P ys
both_parts P [] ys all = (tt, all)
both_parts P (x ∷ xs) ys all = let rest = both_parts P xs ys all.1 in ((all.0, rest.0), rest.1)

module _ (catalogue : List FileEntry) (size : ℕ) (place : Place) (request : Asked) (requests : List Asked) (accesses : List Access)
    (c : Completed) (cs : List Completed) (made : ℕ) where
  -- the accesses of the other members
  abbrev IsRest : List Access → Type 0
  IsRest others = MatchBool (severs request c) ((others ≡ []) × (cs ≡ canceled (next_member place) requests))
      (IsChainDone catalogue size (next_member place) requests others cs)

  abbrev IsMade : Type 0
  IsMade = (own : List Access) → IsRequestDone catalogue size place request.operation own c → length own ≡ made

  abbrev IsDone : Type 0
  IsDone = IsChainDone catalogue size place (request ∷ requests) accesses (c ∷ cs)

  -- the two parts of a chain that was done so
  member_parts : IsMade → IsDone
      → IsRequestDone catalogue size place request.operation (take (min made (length accesses)) accesses) c
      × IsRest (drop (min made (length accesses)) accesses)
  member_parts counts x =
      let same : c ≡ x.2 = cc (x.5) in
      let rest : cs ≡ x.3 = cc (x.5) in
      let long : length accesses ≡ length x.0 + length x.1 = ap length x.4 ∙ length-append x.0 x.1 in
      let own : length x.0 ≡ made = counts x.0 (rw same x.6) in
      let front = front_is x.0 x.1 accesses (min made (length accesses)) x.4 (omega arith) in
      (rw (front.0, same) x.6, rw (front.1, same, rest) x.7)

  pub member_goes_on : (own others : List Access) (n : ℕ) → n ≡ min made (length accesses) → own ≡ take n accesses → others ≡ drop n accesses → IsMade
      → severs request c ≡ false → IsRequestDone catalogue size place request.operation own c → (b : Bool)
      → (IsTrue b ↔ IsChainDone catalogue size (next_member place) requests others cs) → IsTrue b ↔ IsDone
  member_goes_on own others n least front back counts cut done b same = grind (arith, take-append-drop, member_parts)

-- a chain has as many completions as members
pub length-done : (catalogue : List FileEntry) (size : ℕ) (place : Place) (requests : List Asked) (accesses : List Access) (cs : List Completed)
    → IsChainDone catalogue size place requests accesses cs → length cs ≡ length requests
length-done catalogue size place [] accesses cs x = ap length x.1
length-done catalogue size place (request ∷ requests) accesses cs x =
    grind (arith, length-done catalogue size (next_member place) requests x.1 x.3, either_way, canceled_count, next_member)

-- a chain that was done, of a submission's
pub record IsChainOf (catalogue : List FileEntry) (size submission chain : ℕ) (order : List ChainAccess) (P : List Asked → Type 0) : Type 0 where
  pub run : List Asked
  pub own : List Completed
  pub holds : P run
  pub done : IsChainDone catalogue size (first_member submission chain) run (accesses_of_chain chain order) own

-- each of the chains was done, and has what all have
pub chain_at : (catalogue : List FileEntry) (size submission first : ℕ) (runs : List (List Asked)) (order : List ChainAccess) (cs : List Completed)
    → AreChainsDone catalogue size submission first runs order cs → (P : List Asked → Type 0) → All P runs → (chain : ℕ) → first ≤ chain
    → chain < first + length runs → IsChainOf catalogue size submission chain order P
chain_at catalogue size submission first [] order cs x P each chain low high = absurd (omega arith)
chain_at catalogue size submission first (run ∷ runs) order cs x P each chain low high =
    by_equality chain first (λ _. IsChainOf catalogue size submission chain order P)
    (λ same. rw same (record { run = run; own = x.0; holds = All-head P run runs each; done = x.3 }))
    (λ other. chain_at catalogue size submission (first + 1) runs order x.1 x.4 P (All-tail P run runs each) chain (omega arith) (omega arith))

-- The completions of a submission's first chain are the first ones of the submission.

module _ (catalogue : List FileEntry) (size submission chain : ℕ) (run : List Asked) (runs : List (List Asked)) (order : List ChainAccess)
    (cs : List Completed) where
  abbrev AreDone : Type 0
  AreDone = AreChainsDone catalogue size submission chain (run ∷ runs) order cs

  abbrev IsFirstDone : Type 0
  IsFirstDone = IsChainDone catalogue size (first_member submission chain) run (accesses_of_chain chain order) (take (length run) cs)

  abbrev AreOthersDone : Type 0
  AreOthersDone = AreChainsDone catalogue size submission (chain + 1) runs order (drop (length run) cs)

  pub parts_of : AreDone → IsFirstDone × AreOthersDone
  parts_of x =
      let own = length-done catalogue size (first_member submission chain) run (accesses_of_chain chain order) x.0 x.3 in
      let front = front_is x.0 x.1 cs (length run) x.2 own in (rw front.0 x.3, rw front.1 x.4)

  pub too_few : length cs < length run → AreDone → ⊥
  too_few few x = grind (arith, length-done, length-append)

  module _ (accesses : List Access) (own others : List Completed) (are : accesses ≡ accesses_of_chain chain order)
      (front : own ≡ take (length run) cs) (back : others ≡ drop (length run) cs) where
    pub not_first : (IsChainDone catalogue size (first_member submission chain) run accesses own → ⊥) → AreDone → ⊥
    not_first other x = other (rw (are, front) (parts_of x).0)

    pub goes_on : IsChainDone catalogue size (first_member submission chain) run accesses own → (b : Bool)
        → (IsTrue b ↔ AreChainsDone catalogue size submission (chain + 1) runs order others) → IsTrue b ↔ AreDone
    goes_on first b same = grind (arith, take-append-drop, parts_of)

-- the completions of a chain's members, and the later ones
pub own_completed : (members : List Request) (completions own : List Completion) → own ≡ take (length members) completions
    → all_completed own ≡ take (length (all_asked members)) (all_completed completions)
own_completed members completions own front = rw (front, length-map members asked_of) (sym (take-map completed_of (length members) completions))

pub others_completed : (members : List Request) (completions others : List Completion) → others ≡ drop (length members) completions
    → all_completed others ≡ drop (length (all_asked members)) (all_completed completions)
others_completed members completions others back = rw (back, length-map members asked_of) (sym (drop-map completed_of (length members) completions))

-- the chains of a submission by their members
pub first_run : (asked : List Asked) (chains : List Chain) (d : Chain) (members : List Request) → 1 ≤ length chains
    → all_asked members ≡ members_of asked (slice_index_or chains 0 d)
    → map (members_of asked) chains ≡ all_asked members ∷ map (members_of asked) (take (length chains - 1) (drop 1 chains))
first_run asked chains d members some run = grind (arith, first_and_rest)

pub few_completions : (catalogue : List FileEntry) (size submission chain : ℕ) (asked : List Asked) (chains : List Chain) (d : Chain)
    → 1 ≤ length chains → (members : List Request) → all_asked members ≡ members_of asked (slice_index_or chains 0 d) → (order : List ChainAccess)
    → (completions : List Completion) → length completions < length members
    → AreChainsDone catalogue size submission chain (map (members_of asked) chains) order (all_completed completions) → ⊥
few_completions catalogue size submission chain asked chains d some members run order completions few x =
    let asks = length-map members asked_of in
    let says = length-map completions completed_of in
    too_few catalogue size submission chain (all_asked members) (map (members_of asked) (take (length chains - 1) (drop 1 chains))) order
    (all_completed completions) (omega arith) (rw (first_run asked chains d members some run) at x)
