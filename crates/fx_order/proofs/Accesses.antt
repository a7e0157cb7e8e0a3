-- The accesses among the steps of a history, and the files that they remove.
use Rattle.fx_order.proofs.Words.{◌≡◌, ℕ, ◌==◌, List, [], ◌∷◌, ◌++◌, map, filter, refl, sym, ap, subst, ◌∙◌, append_assoc, Option, Some, None}
use Rattle.fx_order.proofs.Words.{same_identity, if◌then◌else◌, cond, append-nil, map-append, filter-append, Closed, File, Event, Action, Look, Put}
use Rattle.fx_order.proofs.Words.{Clear, Take, Allocate, Full, State, opening, Allows, after, changed_at, ◌▷▷◌, state_after, AllowsAll, action_of}
use Rattle.fx_order.proofs.Words.{part_of_chain, identity_of, by_equality, Table, Looks, Puts, Clears, Takes, Allocates, FindsFull, PermitsAll}
use Rattle.fx_order.proofs.Words.{table_with, table_after, Access, access_of, accesses_of, accesses_of_chain, ChainAccess, ◌⊎◌, inl, inr, Bool, false}
use Rattle.fx_order.proofs.Words.{true, ◌≢◌, ◌<◌, ◌≤◌, IsPermutation-push_more, arith, IsPermutation, IsPermutation-refl, IsPermutation-sym}
use Rattle.fx_order.proofs.Words.{IsPermutation-trans, IsPermutation-cons, IsPermutation-middle, IsPermutation-map, IsPermutation-pop_more, IsSettled}
use Rattle.fx_order.proofs.Words.{with_removed, closes_in, closed_by, IsStart, files_removed_in, named, named_same, present, placed_one, tally}
use Rattle.fx_order.proofs.Words.{tally_all, tally_start, nat_tests}

-- a state without its file numbers, holds and removed files
abbrev pub shown : State → Table
shown st = record { size = st.size; range = st.range; at = λ slot. identity_of (st.at slot) }

-- the access that an action is, if it is one
abbrev pub accesses_by : Action → List Access
accesses_by (Look slot found) = Looks slot (identity_of found) ∷ []
accesses_by (Put slot f replaced) = Puts slot f.identity (identity_of replaced) ∷ []
accesses_by (Clear slot found) = Clears slot (identity_of found) ∷ []
accesses_by (Take slot found) = Takes slot (identity_of found) ∷ []
accesses_by (Allocate slot f) = Allocates slot f.identity ∷ []
accesses_by Full = FindsFull ∷ []
accesses_by action = []

-- the accesses of a history, the first one first
abbrev pub accesses_in : List Action → List Access
accesses_in [] = []
accesses_in (action ∷ h) = accesses_in h ++ accesses_by action

pub accesses_in-then : (h more : List Action) → accesses_in (h ▷▷ more) ≡ accesses_in h ++ accesses_in more
accesses_in-then h [] = sym (append-nil (accesses_in h))
accesses_in-then h (action ∷ more) = ap (λ (l : List Access). l ++ accesses_by action) (accesses_in-then h more)
    ∙ append_assoc (accesses_in h) (accesses_in more) (accesses_by action)

abbrev pub by_chain : ℕ → Access → ChainAccess
by_chain chain access = record { chain = chain; access = access }

-- the same, each with its chain
abbrev pub order_in : List Event → List ChainAccess
order_in [] = []
order_in (e ∷ h) = order_in h ++ map (by_chain e.chain) (accesses_by e.action)

-- of what one author made, a test of the author keeps all or nothing
pub of_author : {X E : Type 0} (f : X → E) (g : E → X) (p : E → Bool) (b : Bool) → ((x : X) → p (f x) ≡ b) → ((x : X) → g (f x) ≡ x)
    → (xs : List X) → map g (filter p (map f xs)) ≡ cond b xs []
of_author f g p true is back [] = refl
of_author f g p false is back [] = refl
of_author f g p true is back (x ∷ xs) = rw (is x) (λ i. back x i ∷ of_author f g p true is back xs i)
of_author f g p false is back (x ∷ xs) = rw (is x) (of_author f g p false is back xs)

pub of_all : {X E : Type 0} (f : X → E) (g : E → X) → ((x : X) → g (f x) ≡ x) → (xs : List X) → map g (map f xs) ≡ xs
of_all f g back [] = refl
of_all f g back (x ∷ xs) = λ i. back x i ∷ of_all f g back xs i

pub accesses_of-order_in : (h : List Event) → accesses_of (order_in h) ≡ accesses_in (map action_of h)
accesses_of-order_in [] = refl
accesses_of-order_in (e ∷ h) =
    map-append access_of (order_in h) (map (by_chain e.chain) (accesses_by e.action))
    ∙ (λ i. accesses_of-order_in h i ++ of_all (by_chain e.chain) access_of (λ _. refl) (accesses_by e.action) i)

pub accesses_of_chain-append : (chain : ℕ) (xs ys : List ChainAccess)
    → accesses_of_chain chain (xs ++ ys) ≡ accesses_of_chain chain xs ++ accesses_of_chain chain ys
accesses_of_chain-append chain xs ys = grind (arith, filter-append, map-append)

-- a chain's accesses are those of its part of the history
pub accesses_of_chain-order_in : (chain : ℕ) (h : List Event)
    → accesses_of_chain chain (order_in h) ≡ accesses_in (map action_of (part_of_chain chain h))
accesses_of_chain-order_in chain [] = refl
accesses_of_chain-order_in chain (e ∷ h) =
    let part = part_of_chain chain h in
    let own = of_author (by_chain e.chain) access_of (λ x. x.chain == chain) (e.chain == chain) (λ _. refl) (λ _. refl) (accesses_by e.action) in
    accesses_of_chain-append chain (order_in h) (map (by_chain e.chain) (accesses_by e.action))
    ∙ (λ i. accesses_of_chain-order_in chain h i ++ own i)
    ∙ by_equality e.chain chain
    (λ b. accesses_in (map action_of part) ++ cond b (accesses_by e.action) [] ≡ accesses_in (map action_of (cond b (e ∷ part) part)))
    (λ _. refl) (λ _. append-nil (accesses_in (map action_of part)))

-- the accesses of a chain, with one more before them
pub of_chain : (x : ChainAccess) (order : List ChainAccess) (chain : ℕ)
    → ((x.chain ≡ chain) × (accesses_of_chain chain (x ∷ order) ≡ x.access ∷ accesses_of_chain chain order))
    ⊎ ((x.chain ≡ chain → ⊥) × (accesses_of_chain chain (x ∷ order) ≡ accesses_of_chain chain order))
of_chain x order chain = grind arith

pub own_first : (x : ChainAccess) (order : List ChainAccess) → accesses_of_chain x.chain (x ∷ order) ≡ x.access ∷ accesses_of_chain x.chain order
own_first x order = elim (of_chain x order x.chain) [ inl same ↦ same.1 | inr other ↦ absurd (other.0 refl) ]

pub not_own : (x : ChainAccess) (order : List ChainAccess) (chain : ℕ) → (chain ≡ x.chain → ⊥)
    → accesses_of_chain chain (x ∷ order) ≡ accesses_of_chain chain order
not_own x order chain apart = elim (of_chain x order chain) [ inl same ↦ absurd (apart (sym same.0)) | inr other ↦ other.1 ]

-- accesses one after another

pub table_after-append : (table : Table) (xs ys : List Access) → table_after table (xs ++ ys) ≡ table_after (table_after table xs) ys
table_after-append table [] ys = refl
table_after-append table (x ∷ xs) ys = table_after-append (table_with table x) xs ys

pub PermitsAll-append : (table : Table) (xs ys : List Access) → PermitsAll table xs → PermitsAll (table_after table xs) ys
    → PermitsAll table (xs ++ ys)
PermitsAll-append table [] ys first second = second
PermitsAll-append table (x ∷ xs) ys first second = (first.0, PermitsAll-append (table_with table x) xs ys first.1 second)

-- a step is its access

-- the choice at the place itself
pub at_itself : {X : Type 0} (k : ℕ) (x y : X) → (if k == k then x else y) ≡ x
at_itself k x y = by_equality k k (λ b. (if b then x else y) ≡ x) (λ _. refl) (λ other. absurd (other refl))

abbrev table_of_files : State → (ℕ → Option Closed) → Table
table_of_files st at = record { size = st.size; range = st.range; at = at }

-- the accesses of a history are permitted, and lead to the same files
pub permitted_along : (start : State) (h : List Action) → AllowsAll start h
    → PermitsAll (shown start) (accesses_in h) × (shown (state_after start h) ≡ table_after (shown start) (accesses_in h))
permitted_along start [] may = (tt, refl)
permitted_along start (a ∷ h) may =
    grind (arith, permitted_along start h may.0, PermitsAll-append, state_after, table_after-append)

-- passes begin with the files of the table
pub shown-opening : (st : State) (numbers : ℕ) → shown (opening st numbers) ≡ shown st
shown-opening st numbers = ap (table_of_files st) (λ i slot. same_identity (st.at slot) slot i)

-- The files that a history closes are those that its accesses took from their slots.

abbrev identity : File → Closed
identity f = f.identity

-- the first file of a number
abbrev found_in : ℕ → List File → Option File
found_in n [] = None
found_in n (f ∷ files) = if n == f.number then Some f else found_in n files

-- the files but the first one of a number
abbrev without : ℕ → List File → List File
without n [] = []
without n (f ∷ files) = if n == f.number then files else f ∷ without n files

-- no two have one number
abbrev AreApart : List File → Type 0
AreApart [] = Unit {0}
AreApart (f ∷ files) = (found_in f.number files ≡ None) × AreApart files

found_without_other : {k n : ℕ} (files : List File) → k ≢ n → found_in k (without n files) ≡ found_in k files
found_without_other [] other = refl
found_without_other {k} {n} (f ∷ files) other = let rest = found_without_other files other in grind (arith, nat_tests)

found_without : (n : ℕ) (files : List File) → AreApart files → found_in n (without n files) ≡ None
found_without n [] apart = refl
found_without n (f ∷ files) apart = let rest = found_without n files apart.1 in grind (arith, nat_tests)

apart_without : (n : ℕ) (files : List File) → AreApart files → AreApart (without n files)
apart_without n [] apart = tt
apart_without n (f ∷ files) apart = grind (arith, apart_without n files apart.1, by_equality, found_without_other)

moved_to_front : (n : ℕ) {f : File} (files : List File) → found_in n files ≡ Some f → IsPermutation files (f ∷ without n files)
moved_to_front n [] = λ is. absurd (cc)
moved_to_front n {f} (g ∷ files) =
    by_equality n g.number (λ b. ◌≡◌ {A = Option File} (if b then Some g else found_in n files) (Some f)
    → IsPermutation (g ∷ files) (f ∷ (if b then files else g ∷ without n files)))
    (λ _ is. let one : g ≡ f = cc in subst (IsPermutation (g ∷ files)) (ap (λ (x : File). x ∷ files) one) (IsPermutation-refl (g ∷ files)))
    (λ _ is. IsPermutation-trans (g ∷ files) (g ∷ f ∷ without n files) (f ∷ g ∷ without n files)
    (IsPermutation-cons g files (f ∷ without n files) (moved_to_front n files is)) (IsPermutation-middle (g ∷ []) f (without n files)))

-- the removed files are the closed ones and those that wait for their close
record Accounts (left : ℕ → Option File) (removed closed : List Closed) : Type 0 where
  waiting : List File
  found : (n : ℕ) → left n ≡ found_in n waiting
  apart : AreApart waiting
  same_files : IsPermutation removed (closed ++ map identity waiting)

-- if nothing is removed or closed
kept : {left : ℕ → Option File} (removed closed : List Closed) → Accounts left removed closed → Accounts left (removed ++ []) (closed ++ [])
kept removed closed a = grind (arith, append-nil)

-- if a file leaves its slot
leaves : {left : ℕ → Option File} (removed closed : List Closed) (f : File) → left f.number ≡ None → Accounts left removed closed
    → Accounts (with_removed left (Some f)) (removed ++ f.identity ∷ []) (closed ++ [])
leaves removed closed f not_yet a =
    let theirs : List Closed = map identity a.waiting in record {
      waiting = f ∷ a.waiting;
      found = λ n. ap (λ (x : Option File). if n == f.number then Some f else x) (a.found n);
      apart = (sym (a.found f.number) ∙ not_yet, a.apart);
      same_files = rw (append-nil closed) (IsPermutation-push_more removed (closed ++ theirs) (closed ++ f.identity ∷ theirs) f.identity a.same_files
          (IsPermutation-sym (closed ++ f.identity ∷ theirs) (f.identity ∷ (closed ++ theirs)) (IsPermutation-middle closed f.identity theirs)));
    }

-- if a file is closed
closed_one : {left : ℕ → Option File} (removed closed : List Closed) (f : File) → left f.number ≡ Some f → Accounts left removed closed
    → Accounts (changed_at left f.number None) (removed ++ []) (closed ++ f.identity ∷ [])
closed_one {left} removed closed f is a =
    let rest : List File = without f.number a.waiting in record {
      waiting = rest;
      found = λ n. grind (arith, by_equality, found_without, found_without_other);
      apart = apart_without f.number a.waiting a.apart;
      same_files = rw (append-nil removed) (IsPermutation-pop_more removed closed (map identity a.waiting) (map identity rest) f.identity a.same_files
          (IsPermutation-map identity a.waiting (f ∷ rest) (moved_to_front f.number a.waiting (sym (a.found f.number) ∙ is))));
    }

none_present : (x : Option File) → present x ≡ 0 → x ≡ None
none_present x is = grind arith

-- a file at a slot doesn't wait for its close
not_waiting : (st : State) {slot : ℕ} {f : File} → slot < st.size → Some f ≡ st.at slot → tally f.number st ≤ 1 → st.removed f.number ≡ None
not_waiting st {slot} {f} lt is few =
    let there : named f.number (st.at slot) ≡ 1 = ap (named f.number) (sym is) ∙ named_same f f.number refl in
    let at_least = placed_one f.number st.at slot st.size lt in
    none_present (st.removed f.number) (omega arith)

accounts_after : (st : State) (a : Action) {removed : List Closed} (closed : List Closed) → Allows st a → ((n : ℕ) → tally n st ≤ 1)
    → Accounts st.removed removed closed → Accounts (after st a).removed (removed ++ files_removed_in (accesses_by a)) (closed ++ closed_by a)
accounts_after st a closed may few so_far = grind (arith, kept, leaves, not_waiting, closed_one)

pub files_removed_in-append : (xs ys : List Access) → files_removed_in (xs ++ ys) ≡ files_removed_in xs ++ files_removed_in ys
files_removed_in-append [] ys = refl
files_removed_in-append (x ∷ xs) ys = grind (arith, files_removed_in-append xs ys)

accounts_along : {start : State} (h : List Event) → IsStart start → AllowsAll start (map action_of h)
    → Accounts (state_after start (map action_of h)).removed (files_removed_in (accesses_in (map action_of h))) (closes_in (map action_of h))
accounts_along [] begins may = record { waiting = []; found = begins.settled.closed; apart = tt; same_files = IsPermutation-refl [] }
accounts_along {start} (e ∷ h) begins may =
    grind (arith, accounts_along h begins may.0, state_after, tally_start, tally_all, after, files_removed_in-append, accounts_after)

none_waits : {left : ℕ → Option File} (waiting : List File) → ((n : ℕ) → left n ≡ None) → ((n : ℕ) → left n ≡ found_in n waiting) → waiting ≡ []
none_waits [] settled found = refl
none_waits (f ∷ waiting) settled found =
    let is : None ≡ Some f = sym (settled f.number) ∙ (found f.number ∙ at_itself f.number (Some f) (found_in f.number waiting)) in absurd (cc)

-- at a settled end, what was taken from the slots was closed
pub removed_is_closed : {start end : State} (h : List Event) → IsStart start → AllowsAll start (map action_of h)
    → end ≡ state_after start (map action_of h) → IsSettled end
    → IsPermutation (files_removed_in (accesses_in (map action_of h))) (closes_in (map action_of h))
removed_is_closed h begins may is settled = grind (arith, accounts_along, none_waits, append-nil)
