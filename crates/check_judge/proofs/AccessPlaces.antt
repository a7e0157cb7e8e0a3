-- The places of accesses: of a chain, of all chains, and of an order.
use Rattle.check_judge.proofs.Words.{◌≡◌, ℕ, ◌+◌, ◌<◌, false, true, List, [], ◌∷◌, ◌++◌, All, length, refl, sym, ap, ◌∙◌, arith, append-nil}
use Rattle.check_judge.proofs.Words.{append_assoc, length-append, length-map, map, slice_index_or, take, length-take-le, take_more, All-append}
use Rattle.check_judge.proofs.Words.{All-map, All-nil, FileEntry, Completed, next_member, severs, Asked, Operation, Place, IsChainDone, IsRequestDone}
use Rattle.check_judge.proofs.Words.{Access, IsChainListed, place_at, AccessPlace, own_places, either_case, drop, zero, suc, Some, slice_get}
use Rattle.check_judge.proofs.Words.{take-append-drop, Vec, first_member, accesses_of_chain, AreChainsDone, ChainAccess, AreListsOf, IsListFor}
use Rattle.check_judge.proofs.Words.{AreAccessPlaces, places_of_chain, add-zero, AreChainsListed, parts_of, same_Some, ◌≢◌, ◌-◌, slice_set, ◌≤◌, ◌==◌}
use Rattle.check_judge.proofs.Words.{filter, take_all, take-length, All-get_or, by_equality, eq-eqb, ne_eqb, get_or_read_under, length_push, map_push}
use Rattle.check_judge.proofs.Words.{filter-append, each_set, slice_get_read, few_made, positions_of, accesses_of_chain-append}

-- as many places as accesses
pub own_listed : (catalogue : List FileEntry) (size : ℕ) (place : Place) (operation : Operation) (own : List Access) (c : Completed)
    → IsRequestDone catalogue size place operation own c → length (own_places place operation own) ≡ length own
own_listed catalogue size place operation own c done =
    length-map (take (length own) (positions_of operation)) (place_at place)
    ∙ length-take-le (length own) (positions_of operation) (few_made catalogue place size operation own c done)

-- they are all of the chain
own_of_chain : (place : Place) (operation : Operation) (own : List Access)
    → All (λ (p : AccessPlace). p.chain ≡ place.chain) (own_places place operation own)
own_of_chain place operation own =
    All-map (λ (p : AccessPlace). p.chain ≡ place.chain) (place_at place) (take (length own) (positions_of operation)) (λ _ _ _. refl)

-- as many places as accesses, and all of the chain
abbrev pub AreFor : ℕ → List Access → List AccessPlace → Type 0
AreFor chain accesses places = (length places ≡ length accesses) × All (λ (p : AccessPlace). p.chain ≡ chain) places

none_for : (chain : ℕ) {accesses : List Access} {places : List AccessPlace} → accesses ≡ [] → places ≡ [] → AreFor chain accesses places
none_for chain none empty = (rw (none, empty), rw empty (All-nil (λ (p : AccessPlace). p.chain ≡ chain)))

pub chain_listed : (catalogue : List FileEntry) (size : ℕ) (place : Place) (requests : List Asked) (accesses : List Access) (places : List AccessPlace)
    (completions : List Completed) → IsChainListed catalogue size place requests accesses places completions → AreFor place.chain accesses places
chain_listed catalogue size place [] accesses places completions x = none_for place.chain x.0 x.1
chain_listed catalogue size place (request ∷ requests) accesses places completions x =
    let own = own_listed catalogue size place request.operation x.0 x.3 x.8 in
    let behind : AreFor place.chain x.1 x.2 = either_case (severs request x.3) (λ y. none_for place.chain y.0 y.1)
    (chain_listed catalogue size (next_member place) requests x.1 x.2 x.4) x.9 in
    let one = ap length x.5 ∙ length-append x.0 x.1 in
    let two = ap length x.7 ∙ length-append (own_places place request.operation x.0) x.2 in
    let more = behind.0 in (
      omega arith,
      rw x.7 (All-append (λ (p : AccessPlace). p.chain ≡ place.chain) (own_places place request.operation x.0) x.2
          (own_of_chain place request.operation x.0) behind.1),
    )

-- the places that are appended, for a chain that was done
abbrev pub IsPut : List FileEntry → ℕ → Place → List Asked → List Access → List Completed → List AccessPlace → List AccessPlace → Type 0
IsPut catalogue size place requests accesses completions old new =
    (own : List AccessPlace) × (new ≡ old ++ own) × IsChainListed catalogue size place requests accesses own completions

module _ (catalogue : List FileEntry) (size : ℕ) (place : Place) (request : Asked) (requests : List Asked) (c : Completed) (cs : List Completed)
    (old mid : List AccessPlace)
    (first : (own : List Access) → IsRequestDone catalogue size place request.operation own c → mid ≡ old ++ own_places place request.operation own) where
  pub severed_put : {accesses : List Access} → severs request c ≡ true → IsChainDone catalogue size place (request ∷ requests) accesses (c ∷ cs)
      → IsPut catalogue size place (request ∷ requests) accesses (c ∷ cs) old mid
  severed_put cut (made, others, d, ds, whole, is, done, behind) =
      let same : d ≡ c = cc in
      let severed = ap (severs request) same ∙ cut in
      let over = rw severed at behind in
      let own = own_places place request.operation made in (
        own,
        first made (rw same at done),
        (made, others, [], d, ds, whole, is, sym (append-nil own), done, rw severed (over.0, refl, over.1)),
      )

  pub going_put : {accesses : List Access} {new : List AccessPlace} → severs request c ≡ false
      → ((others : List Access) → IsChainDone catalogue size (next_member place) requests others cs
      → IsPut catalogue size (next_member place) requests others cs mid new)
      → IsChainDone catalogue size place (request ∷ requests) accesses (c ∷ cs)
      → IsPut catalogue size place (request ∷ requests) accesses (c ∷ cs) old new
  going_put on rest (made, others, d, ds, whole, is, done, behind) =
      let same : d ≡ c = cc in
      let after : ds ≡ cs = cc in
      let severed = ap (severs request) same ∙ on in
      let later = rest others (rw (severed, after) at behind) in
      let own = own_places place request.operation made in (
        own ++ later.0,
        later.1 ∙ (ap (λ (l : List AccessPlace). l ++ later.0) (first made (rw same at done)) ∙ append_assoc old own later.0),
        (made, others, later.0, c, cs, whole, refl, refl, rw same at done, rw on later.2),
      )

-- The places of all chains, a list for each.

module _ (catalogue : List FileEntry) (size submission : ℕ) (order : List ChainAccess) where
  pub as_many_lists : (chain : ℕ) (runs : List (List Asked)) (lists : List (Vec AccessPlace)) (cs : List Completed)
      → AreListsOf catalogue size submission chain runs order lists cs → length lists ≡ length runs
  as_many_lists chain [] lists cs x = ap length x.0
  as_many_lists chain (run ∷ runs) lists cs x = rw (x.4, as_many_lists (chain + 1) runs x.1 x.3 x.7)

  pub each_list : (chain : ℕ) (runs : List (List Asked)) (lists : List (Vec AccessPlace)) (cs : List Completed)
      → AreListsOf catalogue size submission chain runs order lists cs
      → (k : ℕ) {list : Vec AccessPlace} → slice_get lists k ≡ Some list → IsListFor order (chain + k) list.items
  each_list chain [] lists cs x k {list} got = grind arith
  each_list chain (run ∷ runs) lists cs x zero {list} got = grind (arith, chain_listed)
  each_list chain (run ∷ runs) lists cs x (suc k) {list} got = grind (arith, each_list (chain + 1) runs x.1 x.3 x.7 k (rw x.4 at got))

  -- a list of places that has them all, each chain's in its order
  pub all_listed : (chain : ℕ) (runs : List (List Asked)) (lists : List (Vec AccessPlace)) (cs : List Completed) (places : List AccessPlace)
      → AreListsOf catalogue size submission chain runs order lists cs
      → ((k : ℕ) (list : Vec AccessPlace) → slice_get lists k ≡ Some list → places_of_chain (chain + k) places ≡ list.items)
      → AreChainsListed catalogue size submission chain runs order places cs
  all_listed chain [] lists cs places x has = x.1
  all_listed chain (run ∷ runs) lists cs places x has =
      let first : places_of_chain chain places ≡ x.0.items = rw add-zero at (has 0 x.0 (rw x.4)) in (
        x.2,
        x.3,
        x.5,
        rw first x.6,
        all_listed (chain + 1) runs x.1 x.3 places x.7
            (λ k list got. let e : chain + 1 + k ≡ chain + suc k = omega arith in rw e (has (suc k) list (rw x.4 got))),
      )

  pub all_places : {runs : List (List Asked)} (lists : List (Vec AccessPlace)) {cs : List Completed} {places : List AccessPlace}
      → AreListsOf catalogue size submission 1 runs order lists cs
      → map (λ (p : AccessPlace). p.chain) places ≡ map (λ (x : ChainAccess). x.chain) order
      → ((k : ℕ) (list : Vec AccessPlace) → slice_get lists k ≡ Some list → places_of_chain (k + 1) places ≡ list.items)
      → AreAccessPlaces catalogue size submission runs cs order places
  all_places lists x chains has = grind (arith, all_listed)

  -- the lists that are appended, for chains that were done
  abbrev pub ArePut : ℕ → List (List Asked) → List Completed → List (Vec AccessPlace) → List (Vec AccessPlace) → Type 0
  ArePut chain runs cs old new =
      (own : List (Vec AccessPlace)) × (new ≡ old ++ own) × AreListsOf catalogue size submission chain runs order own cs

  -- the list of the first chain, whose completions come first, and then the lists of the others
  pub lists_put : (chain : ℕ) {run : List Asked} {runs all : List (List Asked)} (cs : List Completed) {own others : List Completed}
      (old : List (Vec AccessPlace)) {mid new : List (Vec AccessPlace)} {blank : List AccessPlace} (places : Vec AccessPlace) → all ≡ run ∷ runs
      → own ≡ take (length run) cs → others ≡ drop (length run) cs → blank ≡ [] → mid ≡ old ++ places ∷ []
      → ((accesses : List Access) → IsChainDone catalogue size (first_member submission chain) run accesses own
      → IsPut catalogue size (first_member submission chain) run accesses own blank places.items)
      → (AreChainsDone catalogue size submission (chain + 1) runs order others → ArePut (chain + 1) runs others mid new)
      → AreChainsDone catalogue size submission chain all order cs → ArePut chain all cs old new
  lists_put chain {run} {runs} cs {own} {others} old places is front back none pushed first rest x =
      let (here, behind) = parts_of catalogue size submission chain run runs order cs (rw is at x) in
      let put = first (accesses_of_chain chain order) (rw front here) in
      let later = rest (rw back behind) in
      let whole : cs ≡ own ++ others = sym ((λ i. front i ++ back i) ∙ take-append-drop (length run) cs) in
      let listed : put.0 ≡ places.items = sym (put.1 ∙ ap (λ (l : List AccessPlace). l ++ put.0) none) in
      rw is (
        places ∷ later.0,
        later.1 ∙ ap (λ (l : List (Vec AccessPlace)). l ++ later.0) pushed ∙ append_assoc old (places ∷ []) later.0,
        (places, later.0, own, others, refl, whole, rw listed at put.2, later.2),
      )

-- Places, as an order has their accesses.

-- the number of accesses that a chain has in an order
abbrev pub count_of : ℕ → List ChainAccess → ℕ
count_of chain order = length (accesses_of_chain chain order)

count-append : (chain : ℕ) (xs ys : List ChainAccess) → count_of chain (xs ++ ys) ≡ count_of chain xs + count_of chain ys
count-append chain xs ys = ap length (accesses_of_chain-append chain xs ys) ∙ length-append (accesses_of_chain chain xs) (accesses_of_chain chain ys)

-- the elements of a list that are of a chain, with one more element after them
module _ {X : Type 0} (chain_of : X → ℕ) (chain : ℕ) (xs : List X) (x : X) where
  abbrev kept : List X → List X
  kept l = filter (λ (y : X). chain_of y == chain) l

  one_more : chain_of x ≡ chain → kept (xs ++ x ∷ []) ≡ kept xs ++ x ∷ []
  one_more same = rw (filter-append (λ (y : X). chain_of y == chain) xs (x ∷ []), eq-eqb (chain_of x) chain same)

  none_more : chain_of x ≢ chain → kept (xs ++ x ∷ []) ≡ kept xs
  none_more other = rw (filter-append (λ (y : X). chain_of y == chain) xs (x ∷ []), ne_eqb (chain_of x) chain other, append-nil)

-- the next access of an order, the number of accesses of its chain that were read, and its chain's
-- list of places
pub record IsNext (lists : List (Vec AccessPlace)) (order : List ChainAccess) (i : ℕ) (x : ChainAccess) (next : List ℕ) (n : ℕ)
    (list : Vec AccessPlace) : Type 0 where
  pub taken : take (i + 1) order ≡ take i order ++ x ∷ []
  pub one : 1 ≤ x.chain
  pub low : x.chain - 1 < length next
  pub counts : (k : ℕ) → k < length lists → slice_index_or next k 0 ≡ count_of (k + 1) (take i order)
  pub count : n ≡ count_of x.chain (take i order)
  pub there : slice_get lists (x.chain - 1) ≡ Some list
  pub listed : IsListFor order x.chain list.items

pub is_next : {lists : List (Vec AccessPlace)} {order : List ChainAccess} {i : ℕ} (e : ChainAccess) {next : List ℕ} {n : ℕ} {list : Vec AccessPlace}
    → i < length order → All (λ y. (1 ≤ y.chain) × (y.chain ≤ length lists)) order
    → ((k : ℕ) (own : Vec AccessPlace) → slice_get lists k ≡ Some own → IsListFor order (k + 1) own.items) → length next ≡ length lists
    → ((k : ℕ) → k < length lists → slice_index_or next k 0 ≡ count_of (k + 1) (take i order))
    → n ≡ slice_index_or next ((slice_index_or order i e).chain - 1) n → list ≡ slice_index_or lists ((slice_index_or order i e).chain - 1) list
    → IsNext lists order i (slice_index_or order i e) next n list
is_next {lists} {order} {i} e {next} {n} {list} inside chains each size counts read there =
    let x = slice_index_or order i e in
    let (some, most) = All-get_or (λ (y : ChainAccess). (1 ≤ y.chain) × (y.chain ≤ length lists)) order i e inside chains in
    let from_one : x.chain - 1 + 1 ≡ x.chain = omega arith in
    let low : x.chain - 1 < length lists = omega arith in
    let at = slice_get_read lists (length lists) (x.chain - 1) list refl low there in
    record {
      taken = take_more order i e inside;
      one = some;
      low = omega arith;
      counts = counts;
      count = get_or_read_under next (x.chain - 1) (length lists) n 0 read low (sym size) ∙ (rw from_one at (counts (x.chain - 1) low));
      there = at;
      listed = rw from_one at (each (x.chain - 1) list at);
    }

module _ {lists : List (Vec AccessPlace)} {order : List ChainAccess} {i : ℕ} {x : ChainAccess} {next : List ℕ} {n : ℕ} {list : Vec AccessPlace}
    (r : IsNext lists order i x next n list) where
  count_more : {chain : ℕ} → x.chain ≡ chain → count_of chain (take (i + 1) order) ≡ count_of chain (take i order) + 1
  count_more {chain} same = rw (r.taken, one_more (λ (y : ChainAccess). y.chain) chain (take i order) x same) (simp (map_push, length_push))

  count_still : {chain : ℕ} → x.chain ≢ chain → count_of chain (take (i + 1) order) ≡ count_of chain (take i order)
  count_still {chain} other = rw (r.taken, none_more (λ (y : ChainAccess). y.chain) chain (take i order) x other)

  -- there is one more place in the list
  pub one_left : n < length list.items
  one_left =
      let more = count_more refl in
      let whole = ap (count_of x.chain) (sym (take-append-drop (i + 1) order)) ∙ count-append x.chain (take (i + 1) order) (drop (i + 1) order) in
      let all = r.listed.as_many in
      let now = r.count in
      omega arith

  pub counts_more : (k : ℕ) → k < length lists → slice_index_or (slice_set next (x.chain - 1) (n + 1)) k 0 ≡ count_of (k + 1) (take (i + 1) order)
  counts_more k within =
      let some = r.one in
      let place : x.chain ≡ x.chain - 1 + 1 = omega arith in
      each_set (λ (j m : ℕ). m ≡ count_of (j + 1) (take (i + 1) order)) next (x.chain - 1) (n + 1) 0 r.low
      (ap (λ (m : ℕ). m + 1) (r.count ∙ ap (λ (chain : ℕ). count_of chain (take i order)) place) ∙ sym (count_more place)) k
      (λ other. r.counts k within ∙ sym (count_still (λ same. other (omega arith))))

  module _ (places : List AccessPlace) (p : AccessPlace) (read : p ≡ slice_index_or list.items n p) where
    of_chain : p.chain ≡ x.chain
    of_chain = ap (λ (q : AccessPlace). q.chain) read ∙ All-get_or (λ (q : AccessPlace). q.chain ≡ x.chain) list.items n p one_left r.listed.same

    pub chains_listed : map (λ (q : AccessPlace). q.chain) places ≡ map (λ (y : ChainAccess). y.chain) (take i order)
        → map (λ (q : AccessPlace). q.chain) (places ++ p ∷ []) ≡ map (λ (y : ChainAccess). y.chain) (take (i + 1) order)
    chains_listed so_far = grind (arith, map_push, of_chain)

    -- the places of each chain so far
    pub lists_more : (k : ℕ) {own : Vec AccessPlace} → slice_get lists k ≡ Some own
        → places_of_chain (k + 1) places ≡ take (count_of (k + 1) (take i order)) own.items
        → places_of_chain (k + 1) (places ++ p ∷ []) ≡ take (count_of (k + 1) (take (i + 1) order)) own.items
    lists_more k {own} got so_far =
        by_equality x.chain (k + 1) (λ _. places_of_chain (k + 1) (places ++ p ∷ []) ≡ take (count_of (k + 1) (take (i + 1) order)) own.items)
        (λ same.
        let m = count_of (k + 1) (take i order) in
        let j : k ≡ x.chain - 1 = omega arith in
        let mine : list ≡ own = same_Some list own (sym r.there ∙ ap (slice_get lists) (sym j) ∙ got) in
        let now : n ≡ m = r.count ∙ ap (λ (chain : ℕ). count_of chain (take i order)) same in
        let here : p ≡ slice_index_or own.items m p = rw (mine, now) at read in
        rw (
          one_more (λ (q : AccessPlace). q.chain) (k + 1) places p (of_chain ∙ same),
          count_more same,
          take_more own.items m p (rw (mine, now) at one_left),
          so_far,
          sym here,
        ))
        (λ other. rw (none_more (λ (q : AccessPlace). q.chain) (k + 1) places p (λ same. other (sym of_chain ∙ same)), count_still other) so_far)

pub all_taken : (order : List ChainAccess) {i : ℕ} → length order ≤ i → (chain : ℕ) {list : List AccessPlace} → length list ≡ count_of chain order
    → take (count_of chain (take i order)) list ≡ list
all_taken order {i} past chain {list} as_many = rw (take_all i order past, sym as_many, take-length)
