-- The files that a submission places, and those that two orders place.
use Rattle.fx_order.proofs.{◌≡◌, inl, inr, ⊎_elim, ℕ, ◌+◌, ◌<◌, ◌≤◌, List, [], ◌∷◌, ◌++◌, length, either_way, sym, ap, subst, ◌∙◌, arith, All}
use Rattle.fx_order.proofs.{All-head, All-tail, FileEntry, Closed, IsWithinLimits, Completed, next_member, severs, first_member, MOST_MEMBERS}
use Rattle.fx_order.proofs.{LONGEST_UPDATE, Asked, Place, accesses_of, Access, ChainAccess, IsChainDone, AreChainsDone, InstallsAt, both_ways}
use Rattle.fx_order.proofs.{IsCatalogue, by_equality, drop-append_seam, take-append_seam, of_chain, own_first, Own, PlacesOnce, once_after}
use Rattle.fx_order.proofs.{once_between, once_then, own_both, own_none, chain_at, front_is, length-done}
use Rattle.fx_order.proofs.Words.{accesses_of_chain}
use Rattle.fx_order.proofs.RequestCases.{IsMarked, each_placed, listed_short, placed_same}
use Rattle.fx_order.proofs.Placed.{Has, has_either, has_left, has_right, placed, placed_by, placed-append}

-- the files that accesses place
abbrev pub OwnOf : (Closed → Type 0) → List Access → Type 0
OwnOf P accesses = Own P (placed accesses)

of_none : {P : Closed → Type 0} {accesses : List Access} → accesses ≡ [] → OwnOf P accesses
of_none {P} is = subst (OwnOf P) (sym is) own_none

abbrev of_member : Place → ℕ → Place
of_member place member = record place { member = member }

-- of a member of a chain, from this one on; B holds of the member and the position in its list
abbrev pub IsOfMembers : ℕ → (ℕ → ℕ → Type 0) → Place → Closed → Type 0
IsOfMembers entries B place f = (m : ℕ) × (j : ℕ) × (place.member ≤ m) × B m j × IsMarked entries (of_member place m) j f

-- B holds of the positions at which each member from this one on may install a file
abbrev pub ReachesAll : (ℕ → ℕ → Type 0) → ℕ → List Asked → Type 0
ReachesAll B member [] = Unit {0}
ReachesAll B member (r ∷ rs) = ((j : ℕ) → InstallsAt r.operation j → B member j) × ReachesAll B (member + 1) rs

-- nothing is asked of them
abbrev pub AnyPlace : ℕ → ℕ → Type 0
AnyPlace m j = Unit {0}

pub reaches_all_any : (member : ℕ) (requests : List Asked) → ReachesAll AnyPlace member requests
reaches_all_any member [] = tt
reaches_all_any member (r ∷ rs) = (λ j at. tt, reaches_all_any (member + 1) rs)

-- within the limits of a member and of a chain
abbrev pub InLimits : ℕ → ℕ → Type 0
InLimits m j = (m ≤ MOST_MEMBERS) × (j < LONGEST_UPDATE)

pub reaches_all_limits : (member : ℕ) (requests : List Asked) → All IsWithinLimits requests → member + length requests ≤ MOST_MEMBERS + 1
    → ReachesAll InLimits member requests
reaches_all_limits member [] limits few = tt
reaches_all_limits member (r ∷ rs) limits few =
    grind (arith, reaches_all_limits (member + 1) rs (All-tail IsWithinLimits r rs limits) (omega arith), listed_short, All-head, All-tail)

module _ (catalogue : List FileEntry) (size : ℕ) (B : ℕ → ℕ → Type 0) where
  abbrev entries : ℕ
  entries = length catalogue

  chain : (place : Place) (requests : List Asked) (accesses : List Access) (cs : List Completed) → ReachesAll B place.member requests
      → IsChainDone catalogue size place requests accesses cs → OwnOf (IsOfMembers entries B place) accesses
  chain place [] accesses cs reach x = of_none x.0
  chain place (r ∷ rs) accesses cs reach x =
      subst (Own (IsOfMembers entries B place)) (sym (ap placed x.4 ∙ placed-append x.0 x.1)) (own_both (placed x.0) (placed x.1)
      (λ f is. (place.member, is.at, omega arith, reach.0 is.at is.listed, is.is))
      (λ f is. (is.0, is.1, let le = is.2 in omega arith, is.3, is.4))
      (λ f g is later same. let at : place.member ≡ later.0 = cc (sym is.is.mark ∙ (same ∙ later.4.mark)) in let le = later.2 in omega arith)
      (each_placed catalogue size place r.operation x.0 x.2 x.6)
      (either_way (severs r x.2) (λ _ y. of_none y.0) (λ _ y. chain (next_member place) rs x.1 x.3 reach.1 y) x.7))

  -- each chain's accesses place files of its own
  pub chain_places : (submission first : ℕ) (runs : List (List Asked)) (order : List ChainAccess) (cs : List Completed)
      → All (ReachesAll B 1) runs → AreChainsDone catalogue size submission first runs order cs → (c : ℕ) → first ≤ c → c < first + length runs
      → OwnOf (IsOfMembers entries B (first_member submission c)) (accesses_of_chain c order)
  chain_places submission first runs order cs reach x c low high =
      let at = chain_at catalogue size submission first runs order cs x (ReachesAll B 1) reach c low high in
      chain (first_member submission c) at.run (accesses_of_chain c order) at.own at.holds at.done

-- the files that a chain's accesses place, with one more access before them
parted : (x : ChainAccess) (order : List ChainAccess) (c : ℕ) → (front : List (ℕ × Closed))
    × (placed (accesses_of_chain c (x ∷ order)) ≡ front ++ placed (accesses_of_chain c order))
    × ((s : ℕ) (f : Closed) → Has front s f → Has (placed_by x.access) s f)
parted x order c = elim (of_chain x order c) [
  | inl same ↦ (placed_by x.access, ap placed same.1, λ s f has. has)
  | inr other ↦ ([], ap placed other.1, λ s f has. absurd has)
]

-- the files that a chain's accesses place, the order places
pub has_of_chain : (c : ℕ) (order : List ChainAccess) (s : ℕ) (f : Closed) → Has (placed (accesses_of_chain c order)) s f
    → Has (placed (accesses_of order)) s f
has_of_chain c [] s f has = has
has_of_chain c (x ∷ order) s f has =
    let p = parted x order c in
    ⊎_elim (λ here. has_left (placed_by x.access) (placed (accesses_of order)) s f (p.2 s f here))
    (λ later. has_right (placed_by x.access) (placed (accesses_of order)) s f (has_of_chain c order s f later))
    (has_either p.0 (placed (accesses_of_chain c order)) s f (subst (λ l. Has l s f) p.1 has))

module _ (entries : ℕ) (B : ℕ → ℕ → Type 0) (submission chains : ℕ) where
  abbrev IsOfChain : ℕ → Closed → Type 0
  IsOfChain c = IsOfMembers entries B (first_member submission c)

  abbrev EachPlaces : List ChainAccess → Type 0
  EachPlaces order = (c : ℕ) → 1 ≤ c → c ≤ chains → OwnOf (IsOfChain c) (accesses_of_chain c order)

  abbrev IsInside : ChainAccess → Type 0
  IsInside x = (1 ≤ x.chain) × (x.chain ≤ chains)

  rest_places : (x : ChainAccess) (order : List ChainAccess) → EachPlaces (x ∷ order) → EachPlaces order
  rest_places x order each c low high =
      let p = parted x order c in
      let own = subst (Own (IsOfChain c)) p.1 (each c low high) in
      let rest = placed (accesses_of_chain c order) in
      (λ s f has. own.0 s f (has_right p.0 rest s f has), once_after p.0 rest own.1)

  -- the files that an order places, the chain of the access places
  pub has_in_chain : (order : List ChainAccess) → All IsInside order → (s : ℕ) (f : Closed) → Has (placed (accesses_of order)) s f
      → (c : ℕ) × (1 ≤ c) × (c ≤ chains) × Has (placed (accesses_of_chain c order)) s f
  has_in_chain [] inside s f has = absurd has
  has_in_chain (x ∷ order) inside s f has = ⊎_elim
      (λ here.
      let at = All-head IsInside x order inside in
      let mine = has_left (placed_by x.access) (placed (accesses_of_chain x.chain order)) s f here in
      (x.chain, at.0, at.1, subst (λ l. Has (placed l) s f) (sym (own_first x order)) mine))
      (λ later.
      let r = has_in_chain order (All-tail IsInside x order inside) s f later in
      let p = parted x order r.0 in
      (r.0, r.1, r.2, subst (λ l. Has l s f) (sym p.1) (has_right p.0 (placed (accesses_of_chain r.0 order)) s f r.3)))
      (has_either (placed_by x.access) (placed (accesses_of order)) s f has)

  -- and no mark is placed twice
  pub order_places_once : (order : List ChainAccess) → All IsInside order → EachPlaces order → PlacesOnce (placed (accesses_of order))
  order_places_once [] inside each = tt
  order_places_once (x ∷ order) inside each =
      let at = All-head IsInside x order inside in
      let mine = subst (OwnOf (IsOfChain x.chain)) (own_first x order) (each x.chain at.0 at.1) in
      once_then (placed_by x.access) (placed (accesses_of order))
      (first_once (placed_by x.access) (placed (accesses_of_chain x.chain order)) mine.1)
      (order_places_once order (All-tail IsInside x order inside) (rest_places x order each))
      (λ s o f g here later same.
      let r = has_in_chain order (All-tail IsInside x order inside) o g later in
      let own = mine.0 s f (has_left (placed_by x.access) (placed (accesses_of_chain x.chain order)) s f here) in
      let theirs = (rest_places x order each r.0 r.1 r.2).0 o g r.3 in
      let chain : r.0 ≡ x.chain = cc (sym own.4.mark ∙ (same ∙ theirs.4.mark)) in
      once_between (placed_by x.access) (placed (accesses_of_chain x.chain order)) s o f g mine.1 here
      (subst (λ c. Has (placed (accesses_of_chain c order)) o g) chain r.3) same)
    where
      first_once : (xs ys : List (ℕ × Closed)) → PlacesOnce (xs ++ ys) → PlacesOnce xs
      first_once [] ys once = tt
      first_once (p ∷ xs) ys once = (first_once xs ys once.0, λ s g has. once.1 s g (has_left xs ys s g has))

-- Two orders with the same completions place the same files at the same slots.

-- both place the same
abbrev pub PlaceSame : List Access → List Access → Type 0
PlaceSame one other = placed one ≡ placed other

-- accesses in two parts that place the same
same_parts : {one other : List Access} (x y z w : List Access) → one ≡ x ++ y → other ≡ z ++ w → PlaceSame x z → PlaceSame y w → PlaceSame one other
same_parts x y z w is are first second = grind (arith, placed-append)

-- lists whose first parts are as long have the same parts
same_halves : {X : Type 0} (xs : List X) {ys : List X} (us : List X) {vs : List X} → length xs ≡ length us → xs ++ ys ≡ us ++ vs
    → (us ≡ xs) × (vs ≡ ys)
same_halves xs {ys} us {vs} long same =
    let front = front_is xs ys (us ++ vs) (length us) (sym same) long in
    (sym (take-append_seam us vs) ∙ front.0, sym (drop-append_seam us vs) ∙ front.1)

module _ (catalogue : List FileEntry) (is : IsCatalogue catalogue) (size : ℕ) where
  chain_same : (place : Place) (requests : List Asked) (one other : List Access) (cs : List Completed)
      → IsChainDone catalogue size place requests one cs → IsChainDone catalogue size place requests other cs → PlaceSame one other
  chain_same place [] one other cs x y = ap placed (x.0 ∙ sym y.0)
  chain_same place (r ∷ rs) one other cs x y =
      let c : y.2 ≡ x.2 = cc (sym x.5 ∙ y.5) in
      let rest : y.3 ≡ x.3 = cc (sym x.5 ∙ y.5) in
      same_parts x.0 x.1 y.0 y.1 x.4 y.4
      (placed_same catalogue size place is r.operation x.0 y.0 x.2 x.6 (rw c at y.6))
      (both_ways (severs r x.2) (λ p q. ap placed (p.0 ∙ sym q.0)) (λ p q. chain_same (next_member place) rs x.1 y.1 x.3 p (rw rest at q))
      x.7 (rw c at y.7))

  -- each chain of two orders with the same completions
  pub chains_same : (submission first : ℕ) (runs : List (List Asked)) (one other : List ChainAccess) (cs : List Completed)
      → AreChainsDone catalogue size submission first runs one cs → AreChainsDone catalogue size submission first runs other cs
      → {c : ℕ} → first ≤ c → c < first + length runs → PlaceSame (accesses_of_chain c one) (accesses_of_chain c other)
  chains_same submission first [] one other cs x y low high = absurd (omega arith)
  chains_same submission first (run ∷ runs) one other cs x y {c} low high =
      let long = length-done catalogue size (first_member submission first) run (accesses_of_chain first one) x.0 x.3 in
      let long_too = length-done catalogue size (first_member submission first) run (accesses_of_chain first other) y.0 y.3 in
      let same = same_halves x.0 y.0 (omega arith) (sym x.2 ∙ y.2) in
      by_equality c first (λ _. PlaceSame (accesses_of_chain c one) (accesses_of_chain c other))
      (λ at. subst (λ k. PlaceSame (accesses_of_chain k one) (accesses_of_chain k other)) (sym at)
      (chain_same (first_member submission first) run (accesses_of_chain first one) (accesses_of_chain first other) x.0 x.3
      (rw same.0 at y.3)))
      (λ apart. chains_same submission (first + 1) runs one other x.1 x.4 (rw same.1 at y.4) (omega arith) (omega arith))
